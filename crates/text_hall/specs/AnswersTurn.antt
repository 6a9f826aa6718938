-- What a call through the gate did to what its caller has seen.
use Rattle.std.specs.Prelude.{◌≡◌, ℕ, List, [], ◌∷◌, ◌++◌}
use Rattle.fr_bytes.specs.History.{Begins, Turn, turns}
use Rattle.text_hall.specs.declared.call.Call.{Call}
use Rattle.text_hall.specs.declared.call.Reply.{Reply}
use Rattle.text_hall.specs.TextHall.{LegalFrom, left_by, play}

-- the turns of a caller on a wall that had no texts at first
abbrev pub turns_of : ℕ → List Call → List (Turn Call (List (List ℕ)))
turns_of c calls = turns (λ (call : Call). call.caller) left_by [] c calls

-- The front grows by exactly one turn of its caller's, with this text and this reply; what the turn left is
-- what all calls of the front leave, and they are all answered as the wall answers them.
pub record AnswersTurn (d : List ℕ → List ℕ) (owner : ℕ) (before after : List Call)
    (c : ℕ) (text : List ℕ) (reply : Reply) : Type 0 where
  pub turn : Turn Call (List (List ℕ))
  pub begins : Begins before after
  pub turned : turns_of c after ≡ turns_of c before ++ turn ∷ []
  pub by : turn.call.caller ≡ c
  pub asked : turn.call.text ≡ text
  pub answered : turn.call.reply ≡ reply
  pub left : turn.left ≡ play [] after
  pub legal : LegalFrom d owner [] after

-- The calls on a plain wall, one after the other: the list that they leave, that their answers are the wall's, and the
-- turns of one caller.
use Rattle.std.specs.Prelude.{ℕ, List, [], ◌∷◌, fold}
use Rattle.fr_bytes.specs.History as histories
use Rattle.fr_bytes.specs.History.{Begins}
use Rattle.fr_digest.specs.Digest.{Digest}
use Rattle.op_types.specs.declared.op.Leaf.{Leaf}
use Rattle.hall_core.specs.declared.ask.Called.{Called}
use Rattle.hall_core.specs.declared.facts.WallFacts.{WallFacts}
use Rattle.hall_core.specs.PlainWall.{IsAsk, Gives, left_behind}

abbrev pub caller_of : Called → ℕ
caller_of call = call.caller

-- a caller's turn: the call, and the list that it left
abbrev pub Turn : Type 0
Turn = histories.Turn Called (List Leaf)

-- the list after a call, by its answer
abbrev pub left_by : Digest → WallFacts → List Leaf → Called → List Leaf
left_by d facts leaves call = left_behind d facts leaves call.ask call.answer

-- the list at the end
abbrev pub play_from : Digest → WallFacts → List Leaf → List Called → List Leaf
play_from d facts leaves calls = fold (left_by d facts) leaves calls

abbrev pub play : Digest → WallFacts → List Called → List Leaf
play d facts calls = play_from d facts [] calls

-- what is asked has a spelling, and the answer is the plain wall's, or an allocation was refused
pub record IsAnswered (d : Digest) (facts : WallFacts) (leaves : List Leaf) (call : Called) : Type 0 where
  pub asked : IsAsk call.ask
  pub gives : Gives d facts leaves call.ask call.answer

-- each call was answered as the plain wall answers it in the list that the calls before it leave
abbrev pub LegalFrom : Digest → WallFacts → List Leaf → List Called → Type 0
LegalFrom d facts leaves [] = Unit {0}
LegalFrom d facts leaves (call ∷ calls) = IsAnswered d facts leaves call
    × LegalFrom d facts (left_by d facts leaves call) calls

abbrev pub Legal : Digest → WallFacts → List Called → Type 0
Legal d facts calls = LegalFrom d facts [] calls

-- the turns of one caller, in order
abbrev pub turns_from : Digest → WallFacts → ℕ → List Leaf → List Called → List Turn
turns_from d facts caller leaves calls = histories.turns caller_of (left_by d facts) leaves caller calls

abbrev pub turns : Digest → WallFacts → ℕ → List Called → List Turn
turns d facts caller calls = turns_from d facts caller [] calls

-- the list of each turn begins with that of the turn before, and the first turn's with these leaves
abbrev pub EachBegins : List Leaf → List Turn → Type 0
EachBegins leaves [] = Unit {0}
EachBegins leaves (turn ∷ turns) = Begins leaves turn.left × EachBegins turn.left turns

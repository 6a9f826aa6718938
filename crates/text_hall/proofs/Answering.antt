-- A turn at the gate, as a turn on the wall.
use Rattle.std.proofs.Common.{◌≡◌, ℕ, List, [], ◌∷◌, ◌++◌, ◌∙◌, sym, subst, refl, append_assoc}
use Rattle.fr_bytes.specs.History.{TurnsGrow}
use Rattle.hall_gate.specs.Calls.{TakesTurn}
use Rattle.text_hall.specs.declared.call.Call.{Call}
use Rattle.text_hall.specs.declared.call.Reply.{Reply}
use Rattle.text_hall.specs.TextHall.{left_by, play, LegalFrom}
use Rattle.text_hall.specs.AnswersTurn.{AnswersTurn, turns_of}

pub answers_turn : (d : List ℕ → List ℕ) (owner : ℕ) (before after : List Call) (c : ℕ) (text : List ℕ) (reply : Reply)
    → TakesTurn (λ (call : Call). call.caller) (λ (call : Call). call.text) (λ (call : Call). call.reply)
    before after c text reply
    → TurnsGrow (λ (call : Call). call.caller) (List (List ℕ)) → LegalFrom d owner [] after
    → AnswersTurn d owner before after c text reply
answers_turn d owner before after c text reply taken grows legal = record {
  turn = record { call = taken.entry; left = play [] after };
  begins = record {
    more = taken.others ++ taken.entry ∷ [];
    whole = taken.grown ∙ append_assoc before taken.others (taken.entry ∷ []);
  };
  turned = subst (λ (front : List Call). turns_of c front
      ≡ turns_of c before ++ record { call = taken.entry; left = play [] front } ∷ [])
      (sym taken.grown) (grows left_by [] c before taken.others taken.entry taken.strangers taken.call.by);
  by = taken.call.by;
  asked = taken.call.asked;
  answered = taken.call.answered;
  left = refl;
  legal = legal;
}

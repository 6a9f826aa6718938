-- A turn at a gate is a turn at a wall.
use Rattle.std.proofs.Common.{◌≡◌, ◌∙◌, ℕ, List, [], ◌∷◌, ◌++◌, refl, sym, subst, append_assoc}
use Rattle.fr_digest.specs.Digest.{Digest}
use Rattle.hall_gate.specs.Calls.{TakesTurn}
use Rattle.hall_core.specs.declared.ask.Answer.{Answer}
use Rattle.hall_core.specs.declared.ask.Ask.{Ask}
use Rattle.hall_core.specs.declared.ask.Called.{Called}
use Rattle.hall_core.specs.declared.facts.WallFacts.{WallFacts}
use Rattle.hall_core.specs.Calls.{caller_of, play, turns}
use Rattle.hall_core.proofs.CallLaws.{turns_grow}
use Rattle.hall_server.specs.Answers.{TurnsAt}
use Rattle.hall_server.specs.Seating.{IsPlayed}

pub turns_at : (d : Digest) (facts : WallFacts) (user : ℕ) (before now : List Called) (ask : Ask) (answer : Answer)
    → TakesTurn caller_of (λ (call : Called). call.ask) (λ (call : Called). call.answer) before now user ask answer
    → IsPlayed d facts now → TurnsAt d facts user before now ask answer
turns_at d facts user before now ask answer taken played = record {
  turn = record { call = taken.entry; left = play d facts now };
  grows = record {
    begins = record {
      more = taken.others ++ taken.entry ∷ [];
      whole = taken.grown ∙ append_assoc before taken.others (taken.entry ∷ []);
    };
    turned = subst (λ (front : List Called). turns d facts user front
        ≡ turns d facts user before ++ record { call = taken.entry; left = play d facts front } ∷ [])
        (sym taken.grown) (turns_grow d facts user before taken.others taken.entry taken.strangers taken.call.by);
    by = taken.call.by;
    asked = taken.call.asked;
    left = refl;
    played = played;
  };
  answered = taken.call.answered;
}

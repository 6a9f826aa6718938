-- Laws of seats.
use Rattle.std.proofs.Common.{◌≡◌, ℕ, refl, ap, ◌∙◌, subst}
use Rattle.fr_bytes.specs.History.{own}
use Rattle.fr_bytes.proofs.HistoryLaws.{begins_itself, begins_then}
use Rattle.hall_gate.specs.Knowing.{fixed_at}
use Rattle.hall_gate.specs.Plays.{Held}
use Rattle.hall_gate.specs.Seats.{front_of}
use Rattle.hall_gate.specs.SeatLaws.{KnowsFixed, SeesSame, SeesOn}

module _ (T Slip Answer Seen Entry Ask Fixed : Type 0) where
  pub knows_fixed : KnowsFixed T Slip Answer Seen Entry Ask Fixed
  knows_fixed gate seat is = ap (λ (m : Held T Fixed Entry). fixed_at m.0.charges) is.knows

  pub sees_same : (caller : Entry → ℕ) → SeesSame T Slip Answer Seen Entry Ask Fixed caller
  sees_same caller seat = record {
    same = record { caller = refl; fixed = refl };
    sees = record { begins = begins_itself (front_of seat); mine = refl };
  }

  pub sees_on : (caller : Entry → ℕ) → SeesOn T Slip Answer Seen Entry Ask Fixed caller
  sees_on caller first second third p q = record {
    same = record { caller = q.same.caller ∙ p.same.caller; fixed = q.same.fixed ∙ p.same.fixed };
    sees = record {
      begins = begins_then (front_of first) (front_of second) (front_of third) p.sees.begins q.sees.begins;
      mine = subst (λ (c : ℕ). own caller c (front_of third) ≡ own caller c (front_of second)) p.same.caller q.sees.mine ∙ p.sees.mine;
    };
  }

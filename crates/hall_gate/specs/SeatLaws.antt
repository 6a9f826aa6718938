-- Laws of seats, for whoever speaks of what they have seen.
use Rattle.std.specs.Prelude.{◌≡◌, ℕ, Some}
use Rattle.hall_gate.specs.declared.seat.GateSeat.{GateSeat}
use Rattle.hall_gate.specs.declared.gate.Gate.{Gate}
use Rattle.hall_gate.specs.Seats.{fixed_of, fixed_in, IsSeatOf, HasSeenMore}

module _ (T Slip Answer Seen Entry Ask Fixed : Type 0) where
  -- a seat of a gate knows its fixed part
  abbrev pub KnowsFixed : Type 0
  KnowsFixed = (gate : Gate T Slip Answer Seen Entry Ask Fixed) (seat : GateSeat T Slip Answer Seen Entry Ask Fixed)
      (is : IsSeatOf gate seat) → fixed_of seat ≡ Some (fixed_in gate seat is)

  -- a seat that did nothing
  abbrev pub SeesSame : (Entry → ℕ) → Type 0
  SeesSame caller = (seat : GateSeat T Slip Answer Seen Entry Ask Fixed) → HasSeenMore caller seat seat

  -- a seat that has seen more, and then more again
  abbrev pub SeesOn : (Entry → ℕ) → Type 0
  SeesOn caller = (first second third : GateSeat T Slip Answer Seen Entry Ask Fixed)
      → HasSeenMore caller first second → HasSeenMore caller second third → HasSeenMore caller first third

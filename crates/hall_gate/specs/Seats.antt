-- The words for the seats of a gate, and the states of a seat within a turn.
use Rattle.std.specs.Prelude.{◌≡◌, ℕ, List, [], ◌∷◌, ◌++◌, Option, Some}
use Rattle.atomic_table.specs.Table.{Me}
use Rattle.hall_gate.specs.declared.rule.View.{View}
use Rattle.hall_gate.specs.declared.rule.Charge.{Charge}
use Rattle.hall_gate.specs.declared.seat.GateSeat.{GateSeat}
use Rattle.hall_gate.specs.declared.gate.Gate.{Gate}
use Rattle.hall_gate.specs.Calls.{SeesMore}
use Rattle.hall_gate.specs.Knowing.{idle, waiting, holding, caller_at, fixed_at, front_at}

module _ {T Slip Answer Seen Entry Ask Fixed : Type 0} where
  -- whose seat it is
  abbrev pub caller_of : GateSeat T Slip Answer Seen Entry Ask Fixed → ℕ
  caller_of seat = caller_at seat.seat.me.0.charges

  -- what the seat has seen of the history
  abbrev pub front_of : GateSeat T Slip Answer Seen Entry Ask Fixed → List Entry
  front_of seat = front_at seat.seat.me.0.charges

  -- the fixed part of the value that the gate was made round
  abbrev pub fixed_of : GateSeat T Slip Answer Seen Entry Ask Fixed → Option Fixed
  fixed_of seat = fixed_at seat.seat.me.0.charges

  -- those for whom the gate was made, in their order
  abbrev pub callers_of : Gate T Slip Answer Seen Entry Ask Fixed → List ℕ
  callers_of gate = gate.table.shared.key.items

  -- all that the seat knows, and the slots that it holds
  abbrev pub state_of : GateSeat T Slip Answer Seen Entry Ask Fixed → Me (Option T) (View Fixed Entry)
  state_of seat = seat.seat.me

  -- the seat is one of the gate's
  pub record IsSeatOf (gate : Gate T Slip Answer Seen Entry Ask Fixed) (seat : GateSeat T Slip Answer Seen Entry Ask Fixed) : Type 0 where
    pub charge : Charge Fixed Entry
    pub at : seat.seat.table_id ≡ gate.table.shared.table_id
    pub knows : seat.seat.me ≡ (idle charge, [])

  -- the seat is its caller's as before, and knows the same fixed part
  pub record IsSameSeat (before after : GateSeat T Slip Answer Seen Entry Ask Fixed) : Type 0 where
    pub caller : caller_of after ≡ caller_of before
    pub fixed : fixed_of after ≡ fixed_of before

  -- the seat is the same, and has seen more, but no new entry of its own caller
  pub record HasSeenMore (caller : Entry → ℕ) (before after : GateSeat T Slip Answer Seen Entry Ask Fixed) : Type 0 where
    pub same : IsSameSeat before after
    pub sees : SeesMore caller (caller_of before) (front_of before) (front_of after)

  -- the fixed part that a seat of a gate knows
  abbrev pub fixed_in : (gate : Gate T Slip Answer Seen Entry Ask Fixed) (seat : GateSeat T Slip Answer Seen Entry Ask Fixed)
      → IsSeatOf gate seat → Fixed
  fixed_in gate seat is = is.charge.fixed

  -- the seat waits with the ticket t
  pub record IsWaiting (gate : Gate T Slip Answer Seen Entry Ask Fixed) (seat : GateSeat T Slip Answer Seen Entry Ask Fixed) (t : ℕ) : Type 0 where
    pub charge : Charge Fixed Entry
    pub at : seat.seat.table_id ≡ gate.table.shared.table_id
    pub knows : seat.seat.me ≡ (waiting t charge, [])

  -- the seat has the turn, and holds the slot with this in it
  pub record IsHolding (gate : Gate T Slip Answer Seen Entry Ask Fixed) (seat : GateSeat T Slip Answer Seen Entry Ask Fixed) (slot : Option T) : Type 0 where
    pub charge : Charge Fixed Entry
    pub ticket : ℕ
    pub at : seat.seat.table_id ≡ gate.table.shared.table_id
    pub knows : seat.seat.me ≡ (holding ticket charge, (0, slot) ∷ [])

  -- x is a value of which the seat has seen all entries
  pub record IsSeen (valid : T → Type 0) (fixed : T → Fixed) (entries : T → List Entry) (seat : GateSeat T Slip Answer Seen Entry Ask Fixed) (x : T) : Type 0 where
    pub good : valid x
    pub same : fixed_of seat ≡ Some (fixed x)
    pub all : entries x ≡ front_of seat

  -- x is a value with one entry more than the seat has seen, by its own caller
  pub record IsNext (valid : T → Type 0) (fixed : T → Fixed) (entries : T → List Entry) (caller : Entry → ℕ) (seat : GateSeat T Slip Answer Seen Entry Ask Fixed) (x : T) : Type 0 where
    pub entry : Entry
    pub good : valid x
    pub same : fixed_of seat ≡ Some (fixed x)
    pub all : entries x ≡ front_of seat ++ entry ∷ []
    pub by : caller entry ≡ caller_of seat

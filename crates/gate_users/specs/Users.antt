-- Users who have a seat at each gate of a list: what they see of one another, and what is known of them when the gates
-- are closed.
use Rattle.std.specs.Prelude.{◌≡◌, ℕ, ◌<◌, List, [], ◌∷◌, ◌++◌, length, slice_index_or, Some}
use Rattle.std.specs.List.{All, AllZip, Contains}
use Rattle.std.specs.Option.{ForSome}
use Rattle.fr_bytes.specs.History.{Begins, own, turns}
use Rattle.hall_gate.specs.declared.gate.Gate.{Gate}
use Rattle.hall_gate.specs.declared.seat.GateSeat.{GateSeat}
use Rattle.hall_gate.specs.Seats.{caller_of, front_of, fixed_of, callers_of, IsSeatOf, HasSeenMore}
use Rattle.gate_users.specs.declared.seats.Seats.{Seats}

module _ {T Slip Answer Seen Entry Ask Fixed : Type 0} where
  -- the user has one seat at each of the gates, in their order
  abbrev pub SitsAt : List (Gate T Slip Answer Seen Entry Ask Fixed)
      → Seats T Slip Answer Seen Entry Ask Fixed → Type 0
  SitsAt gates user = AllZip IsSeatOf gates user.seats.items

  -- each of the user's seats is the same as before, and has seen more
  abbrev pub HaveSeenMore : (Entry → ℕ)
      → Seats T Slip Answer Seen Entry Ask Fixed → Seats T Slip Answer Seen Entry Ask Fixed → Type 0
  HaveSeenMore caller before after = AllZip (HasSeenMore caller) before.seats.items after.seats.items

  -- at each gate, what the user has seen begins with what the other has
  abbrev pub KnowsOf : Seats T Slip Answer Seen Entry Ask Fixed → Seats T Slip Answer Seen Entry Ask Fixed → Type 0
  KnowsOf other user = AllZip (λ o u. Begins (front_of o) (front_of u)) other.seats.items user.seats.items

  -- what the seat has seen is legal for the fixed part that it knows
  abbrev pub HasLegal : (Fixed → List Entry → Type 0) → GateSeat T Slip Answer Seen Entry Ask Fixed → Type 0
  HasLegal legal seat = ForSome (fixed_of seat) (λ f. legal f (front_of seat))

  -- at each gate, what the user has seen is legal
  abbrev pub HaveLegal : (Fixed → List Entry → Type 0) → Seats T Slip Answer Seen Entry Ask Fixed → Type 0
  HaveLegal legal user = All (HasLegal legal) user.seats.items

  -- the value behind a closed gate has the fixed part that the seat knew, begins with what the seat had seen, and has
  -- no other entry of the seat's caller
  pub record IsClosedOn (fixed : T → Fixed) (entries : T → List Entry) (caller : Entry → ℕ)
      (seat : GateSeat T Slip Answer Seen Entry Ask Fixed) (value : T) : Type 0 where
    pub same : fixed_of seat ≡ Some (fixed value)
    pub begins : Begins (front_of seat) (entries value)
    pub mine : own caller (caller_of seat) (entries value) ≡ own caller (caller_of seat) (front_of seat)

  -- the same at each gate, for the user's seats and the gates' values
  abbrev pub AreClosedOn : (T → Fixed) → (T → List Entry) → (Entry → ℕ)
      → List T → Seats T Slip Answer Seen Entry Ask Fixed → Type 0
  AreClosedOn fixed entries caller values user = AllZip (IsClosedOn fixed entries caller) user.seats.items values

  -- each user's last seat is taken, and those seats stand in the users' order
  pub record TakesLast (before after : List (Seats T Slip Answer Seen Entry Ask Fixed))
      (seats : List (GateSeat T Slip Answer Seen Entry Ask Fixed)) : Type 0 where
    pub users : length after ≡ length before
    pub many : length seats ≡ length before
    pub taken : (j : ℕ) (d : Seats T Slip Answer Seen Entry Ask Fixed) (e : GateSeat T Slip Answer Seen Entry Ask Fixed)
        → j < length before
        → (slice_index_or before j d).seats.items
        ≡ (slice_index_or after j d).seats.items ++ slice_index_or seats j e ∷ []

  -- as many seats as the gate has callers
  abbrev pub HasPlacesFor : List (Seats T Slip Answer Seen Entry Ask Fixed)
      → Gate T Slip Answer Seen Entry Ask Fixed → Type 0
  HasPlacesFor users gate = length users ≡ length (callers_of gate)

  -- each entry of the value is of one of the gate's callers
  abbrev pub HasNoStranger : (T → List Entry) → (Entry → ℕ)
      → Gate T Slip Answer Seen Entry Ask Fixed → T → Type 0
  HasNoStranger entries caller gate value = All (λ e. Contains (callers_of gate) (caller e)) (entries value)

module _ (T Slip Answer Seen Entry Ask Fixed L : Type 0) where
  -- when its gate is closed, a seat's caller has no more turns than the seat had seen
  abbrev pub TurnsEnd : (T → Fixed) → (T → List Entry) → (Entry → ℕ) → Type 0
  TurnsEnd fixed entries caller = (next : L → Entry → L) (start : L)
      (seat : GateSeat T Slip Answer Seen Entry Ask Fixed) (value : T)
      → IsClosedOn fixed entries caller seat value
      → turns caller next start (caller_of seat) (entries value)
      ≡ turns caller next start (caller_of seat) (front_of seat)

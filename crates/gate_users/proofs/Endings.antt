-- The gates are closed from the last to the first, and each user's seats are taken from the end.
use Rattle.std.proofs.Common.{◌≡◌, ℕ, ◌<◌, List, [], ◌∷◌, ◌++◌, length, get_or, reverse}
use Rattle.std.proofs.Common.{sym, ap, ◌∙◌, append_assoc, arith}
use Rattle.std.specs.Prelude.{Some}
use Rattle.std.specs.List.{All, AllZip}
use Rattle.std.proofs.lemmas.List.{append-nil, length_push, nil_from_length, reverse-append}
use Rattle.std.proofs.lemmas.List.Elements.{All-cons, All-weaker}
use Rattle.std.proofs.lemmas.Slice.Zip.{AllZip-long}
use Rattle.fr_bytes.specs.History.{Begins, own}
use Rattle.hall_gate.specs.declared.gate.Gate.{Gate}
use Rattle.hall_gate.specs.declared.seat.GateSeat.{GateSeat}
use Rattle.hall_gate.specs.Seats.{caller_of, front_of, fixed_of, IsSeatOf}
use Rattle.gate_users.specs.declared.seats.Seats.{Seats}
use Rattle.gate_users.specs.Users.{SitsAt, TakesLast, IsClosedOn, AreClosedOn, HasNoStranger}
use Rattle.gate_users.proofs.Zips.{some_at, zip_itself, zip_at, zip_pop, zip_from_places}

module _ {T Slip Answer Seen Entry Ask Fixed : Type 0} (gates gates' : List (Gate T Slip Answer Seen Entry Ask Fixed))
    (gate : Gate T Slip Answer Seen Entry Ask Fixed) (users : List (Seats T Slip Answer Seen Entry Ask Fixed)) where
  -- where there is a gate, each user has a seat
  pub have_seats : gates ≡ gates' ++ gate ∷ [] → All (SitsAt gates) users
      → All (λ (user : Seats T Slip Answer Seen Entry Ask Fixed). 0 < length user.seats.items) users
  have_seats is sit = All-weaker (SitsAt gates)
      (λ (user : Seats T Slip Answer Seen Entry Ask Fixed). 0 < length user.seats.items)
      (λ user at. omega (
        arith,
        ap length is,
        length_push gates' gate,
        AllZip-long IsSeatOf gates user.seats.items at,
      )) users sit

  -- the last seats are the last gate's, and what is left is of the gates before it
  pub split_seats : (users' : List (Seats T Slip Answer Seen Entry Ask Fixed))
      (seats : List (GateSeat T Slip Answer Seen Entry Ask Fixed)) (j : ℕ)
      (d : Seats T Slip Answer Seen Entry Ask Fixed) (e : GateSeat T Slip Answer Seen Entry Ask Fixed)
      → j < length users → gates ≡ gates' ++ gate ∷ [] → All (SitsAt gates) users → TakesLast users users' seats
      → SitsAt gates' (get_or users' j d) × IsSeatOf gate (get_or seats j e)
  split_seats users' seats j d e lt is sit takes =
      let at = sit j d lt in let here = rw (is, takes.taken j d e lt) at at in
      zip_pop IsSeatOf gates' (get_or users' j d).seats.items gate (get_or seats j e) here

  pub left_seats : (users' : List (Seats T Slip Answer Seen Entry Ask Fixed))
      (seats : List (GateSeat T Slip Answer Seen Entry Ask Fixed))
      → gates ≡ gates' ++ gate ∷ [] → All (SitsAt gates) users → TakesLast users users' seats
      → All (SitsAt gates') users'
  left_seats users' seats is sit takes j d lt = let many = takes.users in let many' = takes.many in
      (split_seats users' seats j d (some_at seats j (omega arith)) (omega arith) is sit takes).0

  pub last_seats : (users' : List (Seats T Slip Answer Seen Entry Ask Fixed))
      (seats : List (GateSeat T Slip Answer Seen Entry Ask Fixed))
      → gates ≡ gates' ++ gate ∷ [] → All (SitsAt gates) users → TakesLast users users' seats
      → All (IsSeatOf gate) seats
  last_seats users' seats is sit takes j e lt = let many = takes.many in
      (split_seats users' seats j (some_at users j (omega arith)) e (omega arith) is sit takes).1

module _ {T Slip Answer Seen Entry Ask Fixed : Type 0} (fixed : T → Fixed) (entries : T → List Entry)
    (caller : Entry → ℕ) where
  -- the user's seats that are taken, and the values behind their gates: the values came from the last to the first
  pub record HasEnded (values : List T) (first now : Seats T Slip Answer Seen Entry Ask Fixed) : Type 0 where
    pub done : List (GateSeat T Slip Answer Seen Entry Ask Fixed)
    pub whole : first.seats.items ≡ now.seats.items ++ done
    pub closed : AllZip (IsClosedOn fixed entries caller) done (reverse values)

  -- the gates that are closed, and their values
  pub record HaveEnded (values : List T) (first now : List (Gate T Slip Answer Seen Entry Ask Fixed)) : Type 0 where
    pub done : List (Gate T Slip Answer Seen Entry Ask Fixed)
    pub whole : first ≡ now ++ done
    pub closed : AllZip (HasNoStranger entries caller) done (reverse values)

  -- no gate is closed yet
  pub ended_none : (users : List (Seats T Slip Answer Seen Entry Ask Fixed)) → AllZip (HasEnded []) users users
  ended_none users = zip_itself (HasEnded [])
      (λ user. record { done = []; whole = sym (append-nil user.seats.items); closed = tt }) users

  pub have_ended_none : (gates : List (Gate T Slip Answer Seen Entry Ask Fixed)) → HaveEnded [] gates gates
  have_ended_none gates = record { done = []; whole = sym (append-nil gates); closed = tt }

  -- one gate more is closed
  pub ended_more : (values : List T) (value : T) (firsts users users' : List (Seats T Slip Answer Seen Entry Ask Fixed))
      (seats : List (GateSeat T Slip Answer Seen Entry Ask Fixed))
      → AllZip (HasEnded values) firsts users → TakesLast users users' seats
      → All (λ (seat : GateSeat T Slip Answer Seen Entry Ask Fixed). fixed_of seat ≡ Some (fixed value)) seats
      → All (λ (seat : GateSeat T Slip Answer Seen Entry Ask Fixed). Begins (front_of seat) (entries value)) seats
      → All (λ (seat : GateSeat T Slip Answer Seen Entry Ask Fixed). own caller (caller_of seat) (entries value)
      ≡ own caller (caller_of seat) (front_of seat)) seats
      → AllZip (HasEnded (values ++ value ∷ [])) firsts users'
  ended_more values value firsts users users' seats ended takes same begins mine =
      let many = AllZip-long (HasEnded values) firsts users ended in let long = takes.users in let long' = takes.many in
      zip_from_places (HasEnded (values ++ value ∷ [])) firsts users' (omega arith) (λ j d e lt.
      let was = zip_at (HasEnded values) firsts users j d e ended lt in
      let one = some_at seats j (omega arith) in let seat = get_or seats j one in record {
        done = seat ∷ was.done;
        whole = was.whole ∙ (ap (λ l. l ++ was.done) (takes.taken j e one (omega arith))
            ∙ append_assoc (get_or users' j e).seats.items (seat ∷ []) was.done);
        closed = rw (reverse-append values (value ∷ [])) (
          record {
            same = same j one (omega arith);
            begins = begins j one (omega arith);
            mine = mine j one (omega arith);
          },
          was.closed,
        );
      })

  pub have_ended_more : (values : List T) (value : T)
      (first gates gates' : List (Gate T Slip Answer Seen Entry Ask Fixed))
      (gate : Gate T Slip Answer Seen Entry Ask Fixed)
      → HaveEnded values first gates → gates ≡ gates' ++ gate ∷ [] → HasNoStranger entries caller gate value
      → HaveEnded (values ++ value ∷ []) first gates'
  have_ended_more values value first gates gates' gate ended is known = record {
    done = gate ∷ ended.done;
    whole = ended.whole ∙ (ap (λ l. l ++ ended.done) is ∙ append_assoc gates' (gate ∷ []) ended.done);
    closed = rw (reverse-append values (value ∷ [])) (known, ended.closed);
  }

  -- all gates are closed
  pub ended_all : (values : List T) (firsts users : List (Seats T Slip Answer Seen Entry Ask Fixed))
      → AllZip (HasEnded values) firsts users → All (SitsAt []) users
      → All (AreClosedOn fixed entries caller (reverse values)) firsts
  ended_all values firsts users ended sit j d lt =
      let many = AllZip-long (HasEnded values) firsts users ended in
      let was = zip_at (HasEnded values) firsts users j d d ended lt in
      let left = AllZip-long IsSeatOf [] (get_or users j d).seats.items (sit j d (omega arith)) in
      let none = nil_from_length (get_or users j d).seats.items left in
      rw (was.whole, none) was.closed

-- values that are valid, with one more
pub valid_more : {T : Type 0} (valid : T → Type 0) (values : List T) (value : T)
    → All valid (reverse values) → valid value
    → All valid (reverse (values ++ value ∷ []))
valid_more valid values value all one =
    rw (reverse-append values (value ∷ [])) (All-cons valid value (reverse values) one all)

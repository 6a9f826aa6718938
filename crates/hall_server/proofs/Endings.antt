-- All gates are closed: what is known of the halls.
use Rattle.std.proofs.Common.{◌≡◌, ◌∙◌, ℕ, List, [], ◌∷◌, ◌++◌, map, reverse, sym, ap, subst}
use Rattle.std.specs.List.{All, AllZip, Contains}
use Rattle.std.proofs.lemmas.List.{length-map, reverse-append}
use Rattle.std.proofs.lemmas.List.Elements.{All-cons, All-head, All-nil, All-tail}
use Rattle.fr_bytes.specs.History.{own}
use Rattle.fr_bytes.proofs.HistoryLaws.{turns_stay}
use Rattle.fr_digest.specs.Digest.{Digest}
use Rattle.op_types.specs.declared.op.Leaf.{Leaf}
use Rattle.hall_gate.specs.Seats.{callers_of, front_of}
use Rattle.gate_users.specs.Users as gates
use Rattle.hall_core.specs.declared.ask.Called.{Called}
use Rattle.hall_core.specs.declared.facts.WallFacts.{WallFacts}
use Rattle.hall_core.specs.declared.snapshot.Snapshot.{Snapshot}
use Rattle.hall_core.specs.Calls.{caller_of, left_by}
use Rattle.hall_core.specs.Standing as standing
use Rattle.hall_server.specs.declared.seats.Seats.{Seats}
use Rattle.hall_server.specs.declared.server.Server.{Server}
use Rattle.hall_server.specs.declared.turned.TurnedHall.{TurnedHall}
use Rattle.hall_server.specs.Meetings.{AreClosedOn, HasNoStranger, IsClosedOn, IsKept}
use Rattle.hall_server.specs.Moves.{places_of}
use Rattle.hall_server.specs.Seating.{AreAll, IsSeatsOf, IsShown}
use Rattle.hall_server.specs.Sights.{HallGate, HallSeat, facts_or_none, sight_of, sights_in, user_of}

module _ {D : Type 0} where
  abbrev pub hall_in : TurnedHall D → standing.Hall
  hall_in x = x.hall

  abbrev pub facts_in : TurnedHall D → WallFacts
  facts_in x = x.hall.facts

  abbrev pub entries_in : TurnedHall D → List Called
  entries_in x = x.hall.entries

  abbrev pub IsValid : Digest → TurnedHall D → Type 0
  IsValid d x = standing.IsKept d x.hall.facts x.hall.leaves x.hall.entries

module _ {D : Type 0} (d : Digest) where
  -- ---- one user

  closed_on : (user : ℕ) (seat : HallSeat D) (shot : Snapshot D) (value : TurnedHall D) → IsShown d user seat shot
      → gates.IsClosedOn facts_in entries_in caller_of seat value → IsClosedOn d user (sight_of seat shot) value.hall
  closed_on user seat shot value shown closed =
      let mine = subst (λ u. own_same u) shown.mine closed.mine in record {
        same = sym (ap facts_or_none closed.same);
        begins = closed.begins;
        mine = mine;
        turned = turns_stay caller_of (List Leaf) (left_by d value.hall.facts) [] user (front_of seat) value.hall.entries
            closed.begins mine;
      } where
        own_same : ℕ → Type 0
        own_same u = own caller_of u value.hall.entries ≡ own caller_of u (front_of seat)

  all_closed_on : (user : ℕ) (seats : List (HallSeat D)) (shots : List (Snapshot D)) (values : List (TurnedHall D))
      → AllZip (IsShown d user) seats shots → AllZip (gates.IsClosedOn facts_in entries_in caller_of) seats values
      → AllZip (IsClosedOn d user) (sights_in seats shots) (map hall_in values)
  all_closed_on user [] [] [] shown closed = tt
  all_closed_on user [] [] (v ∷ values) shown closed = absurd closed
  all_closed_on user [] (t ∷ shots) values shown closed = absurd shown
  all_closed_on user (s ∷ seats) [] values shown closed = absurd shown
  all_closed_on user (s ∷ seats) (t ∷ shots) [] shown closed = absurd closed
  all_closed_on user (s ∷ seats) (t ∷ shots) (v ∷ values) shown closed =
      (closed_on user s t v shown.0 closed.0, all_closed_on user seats shots values shown.1 closed.1)

  -- ---- all users

  pub users_closed : (server : Server D) (values : List (TurnedHall D)) (all : List (Seats D))
      → All (IsSeatsOf d server) all → All (gates.AreClosedOn facts_in entries_in caller_of values) (places_of all)
      → All (AreClosedOn d (map hall_in values)) all
  users_closed server values [] seats closed = All-nil (AreClosedOn d (map hall_in values))
  users_closed server values (x ∷ all) seats closed =
      All-cons (AreClosedOn d (map hall_in values)) x all
      (all_closed_on (user_of x) x.places.seats.items x.snapshots.items values
      (All-head (IsSeatsOf d server) x all seats).shown
      (All-head (gates.AreClosedOn facts_in entries_in caller_of values) x.places (places_of all) closed))
      (users_closed server values all (All-tail (IsSeatsOf d server) x all seats)
      (All-tail (gates.AreClosedOn facts_in entries_in caller_of values) x.places (places_of all) closed))

  pub halls_kept : (values : List (TurnedHall D)) → All (IsValid d) values → All (IsKept d) (map hall_in values)
  halls_kept [] valid = All-nil (IsKept d)
  halls_kept (v ∷ values) valid = All-cons (IsKept d) v.hall (map hall_in values) (All-head (IsValid d) v values valid)
      (halls_kept values (All-tail (IsValid d) v values valid))

  pub no_strangers : (users : List ℕ) (own_gates : List (HallGate D)) (values : List (TurnedHall D))
      → All (λ (gate : HallGate D). callers_of gate ≡ users) own_gates
      → AllZip (gates.HasNoStranger entries_in caller_of) own_gates values
      → All (HasNoStranger users) (map hall_in values)
  no_strangers users [] [] callers closed = All-nil (HasNoStranger users)
  no_strangers users [] (v ∷ values) callers closed = absurd closed
  no_strangers users (g ∷ own_gates) [] callers closed = absurd closed
  no_strangers users (g ∷ own_gates) (v ∷ values) callers closed =
      All-cons (HasNoStranger users) v.hall (map hall_in values)
      (subst (λ us. All (λ (e : Called). Contains us (caller_of e)) v.hall.entries)
      (All-head (λ (gate : HallGate D). callers_of gate ≡ users) g own_gates callers) closed.0)
      (no_strangers users own_gates values (All-tail (λ (gate : HallGate D). callers_of gate ≡ users) g own_gates callers)
      closed.1)

  pub places_for : (server : Server D) (all : List (Seats D)) → AreAll server all
      → All (gates.HasPlacesFor (places_of all)) server.gates.items
  places_for server all are k e lt = length-map all (λ (user : Seats D). user.places) ∙ are k e lt

-- ---- the halls, one by one

pub halls_more : {D : Type 0} (values : List (TurnedHall D)) (value : TurnedHall D) (halls : List standing.Hall)
    → map hall_in (values ++ value ∷ []) ++ reverse halls ≡ map hall_in values ++ reverse (halls ++ value.hall ∷ [])
halls_more [] value halls = sym (reverse-append halls (value.hall ∷ []))
halls_more (v ∷ values) value halls = ap (λ hs. v.hall ∷ hs) (halls_more values value halls)

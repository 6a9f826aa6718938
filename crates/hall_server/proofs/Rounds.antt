-- Users have met at all gates: what they know of each wall.
use Rattle.std.proofs.Common.{◌≡◌, ◌∙◌, ℕ, Bool, true, false, List, [], ◌∷◌, length, cond, refl, sym, ap, subst, arith}
use Rattle.std.specs.Prelude.{nat_eq}
use Rattle.std.specs.List.{All, AllZip}
use Rattle.std.proofs.lemmas.List.{length-map}
use Rattle.std.proofs.lemmas.List.Elements.{All-cons, All-head, All-nil, All-tail}
use Rattle.std.proofs.lemmas.Slice.Zip.{AllZip-long}
use Rattle.fr_bytes.specs.History.{Begins}
use Rattle.fr_bytes.proofs.HistoryLaws.{begins_itself, begins_then}
use Rattle.fr_digest.specs.Digest.{Digest}
use Rattle.hall_gate.specs.Calls.{SeesMore}
use Rattle.hall_gate.specs.Seats.{HasSeenMore, front_of}
use Rattle.gate_users.specs.Users as gates
use Rattle.gate_users.specs.Users.{HaveSeenMore, SitsAt}
use Rattle.hall_core.specs.declared.snapshot.Snapshot.{Snapshot}
use Rattle.hall_core.specs.Calls.{caller_of}
use Rattle.hall_server.specs.declared.seats.Seats.{Seats}
use Rattle.hall_server.specs.declared.server.Server.{Server}
use Rattle.hall_server.specs.Meetings.{HasMet, KnowsOf, SawMore}
use Rattle.hall_server.specs.Moves.{Places, places_of, seated}
use Rattle.hall_server.specs.Seating.{IsSeatsOf, IsShown}
use Rattle.hall_server.specs.Sights.{HallSeat, Sight, facts_or_none, sight_at, sight_in, sight_of, sights_in, sights_of, unseen, user_of, walls_in}
use Rattle.hall_server.proofs.Moves.{seated_twice}

-- ---- by number

module _ (R : Sight → Sight → Type 0) (same : (a b : Sight) → R a b → b.facts.wall ≡ a.facts.wall) where
  -- what holds place by place holds wall by wall
  pub by_wall : R unseen unseen → (xs ys : List Sight) → AllZip R xs ys → (wall : ℕ)
      → R (sight_in xs wall) (sight_in ys wall)
  by_wall none [] [] zip wall = none
  by_wall none [] (y ∷ ys) zip wall = absurd zip
  by_wall none (x ∷ xs) [] zip wall = absurd zip
  by_wall none (x ∷ xs) (y ∷ ys) zip wall =
      subst (λ n. R (cond (nat_eq x.facts.wall wall) x (sight_in xs wall)) (cond (nat_eq n wall) y (sight_in ys wall)))
      (sym (same x y zip.0)) (chosen (nat_eq x.facts.wall wall) (by_wall none xs ys zip.1 wall)) where
        chosen : (is : Bool) → R (sight_in xs wall) (sight_in ys wall)
            → R (cond is x (sight_in xs wall)) (cond is y (sight_in ys wall))
        chosen true rest = zip.0
        chosen false rest = rest

  pub same_walls : (xs ys : List Sight) → AllZip R xs ys → walls_in ys ≡ walls_in xs
  same_walls [] [] zip = refl
  same_walls [] (y ∷ ys) zip = absurd zip
  same_walls (x ∷ xs) [] zip = absurd zip
  same_walls (x ∷ xs) (y ∷ ys) zip =
      ap (λ w. w ∷ walls_in ys) (same x y zip.0) ∙ ap (λ ws. x.facts.wall ∷ ws) (same_walls xs ys zip.1)

-- ---- one user

module _ {D : Type 0} (d : Digest) (user : ℕ) where
  saw_more : (seat next : HallSeat D) (shot : Snapshot D) → HasSeenMore caller_of seat next → IsShown d user seat shot
      → SawMore user (sight_of seat shot) (sight_of next shot)
  saw_more seat next shot saw shown = record {
    same = ap facts_or_none saw.same.fixed;
    sees = subst (λ u. SeesMore caller_of u (front_of seat) (front_of next)) shown.mine saw.sees;
    shown = refl;
  }

  all_saw : (seats nexts : List (HallSeat D)) (shots : List (Snapshot D)) → AllZip (HasSeenMore caller_of) seats nexts
      → AllZip (IsShown d user) seats shots → AllZip (SawMore user) (sights_in seats shots) (sights_in nexts shots)
  all_saw [] [] [] saw shown = tt
  all_saw [] [] (z ∷ shots) saw shown = absurd shown
  all_saw [] (y ∷ nexts) shots saw shown = absurd saw
  all_saw (x ∷ seats) [] shots saw shown = absurd saw
  all_saw (x ∷ seats) (y ∷ nexts) [] saw shown = absurd shown
  all_saw (x ∷ seats) (y ∷ nexts) (z ∷ shots) saw shown =
      (saw_more x y z saw.0 shown.0, all_saw seats nexts shots saw.1 shown.1)

  still_shown : (seat next : HallSeat D) (shot : Snapshot D) → HasSeenMore caller_of seat next → IsShown d user seat shot
      → IsShown d user next shot
  still_shown seat next shot saw shown = record {
    facts = shown.facts;
    seen = shown.seen;
    mine = saw.same.caller ∙ shown.mine;
    known = saw.same.fixed ∙ shown.known;
    begins = begins_then shown.seen (front_of seat) (front_of next) shown.begins saw.sees.begins;
    played = shown.played;
    stands = shown.stands;
  }

  all_shown : (seats nexts : List (HallSeat D)) (shots : List (Snapshot D)) → AllZip (HasSeenMore caller_of) seats nexts
      → AllZip (IsShown d user) seats shots → AllZip (IsShown d user) nexts shots
  all_shown [] [] [] saw shown = tt
  all_shown [] [] (z ∷ shots) saw shown = absurd shown
  all_shown [] (y ∷ nexts) shots saw shown = absurd saw
  all_shown (x ∷ seats) [] shots saw shown = absurd saw
  all_shown (x ∷ seats) (y ∷ nexts) [] saw shown = absurd shown
  all_shown (x ∷ seats) (y ∷ nexts) (z ∷ shots) saw shown =
      (still_shown x y z saw.0 shown.0, all_shown seats nexts shots saw.1 shown.1)

saw_none : (user : ℕ) → SawMore user unseen unseen
saw_none user = record { same = refl; sees = record { begins = begins_itself []; mine = refl }; shown = refl }

saw_wall : (user : ℕ) (a b : Sight) → SawMore user a b → b.facts.wall ≡ a.facts.wall
saw_wall user a b saw = ap (λ facts. facts.wall) saw.same

module _ {D : Type 0} (d : Digest) (server : Server D) where
  pub has_met : (before : Seats D) (places : Places D) → IsSeatsOf d server before
      → HaveSeenMore caller_of before.places places → HasMet before (record before { places = places })
  has_met before places is saw = record {
    user = refl;
    sights = by_wall (SawMore (user_of before)) (saw_wall (user_of before)) (saw_none (user_of before))
        (sights_of before) (sights_in places.seats.items before.snapshots.items)
        (all_saw d (user_of before) before.places.seats.items places.seats.items before.snapshots.items saw is.shown);
  }

  pub still_seats : (before : Seats D) (places : Places D) → IsSeatsOf d server before
      → HaveSeenMore caller_of before.places places → SitsAt server.gates.items places
      → IsSeatsOf d server (record before { places = places })
  still_seats before places is saw sits = record {
    sits = sits;
    shown = all_shown d (user_of before) before.places.seats.items places.seats.items before.snapshots.items saw is.shown;
    walls = same_walls (SawMore (user_of before)) (saw_wall (user_of before)) (sights_of before)
        (sights_in places.seats.items before.snapshots.items)
        (all_saw d (user_of before) before.places.seats.items places.seats.items before.snapshots.items saw is.shown)
        ∙ is.walls;
  }

-- ---- two users

BeginsThere : Sight → Sight → Type 0
BeginsThere a b = (b.facts.wall ≡ a.facts.wall) × Begins a.front b.front

module _ {D : Type 0} where
  begins_zip : (xs ys : List (HallSeat D)) (shots shots' : List (Snapshot D))
      → AllZip (λ x y. Begins (front_of x) (front_of y)) xs ys
      → length shots ≡ length xs → length shots' ≡ length ys
      → walls_in (sights_in xs shots) ≡ walls_in (sights_in ys shots')
      → AllZip BeginsThere (sights_in xs shots) (sights_in ys shots')
  unfolding BeginsThere
  begins_zip [] [] shots shots' zip many many' walls = tt
  begins_zip [] (y ∷ ys) shots shots' zip many many' walls = absurd zip
  begins_zip (x ∷ xs) [] shots shots' zip many many' walls = absurd zip
  begins_zip (x ∷ xs) (y ∷ ys) [] shots' zip many many' walls = absurd (omega arith)
  begins_zip (x ∷ xs) (y ∷ ys) (s ∷ shots) [] zip many many' walls = absurd (omega arith)
  begins_zip (x ∷ xs) (y ∷ ys) (s ∷ shots) (t ∷ shots') zip many many' walls =
      let head : (sight_of x s).facts.wall ≡ (sight_of y t).facts.wall = cc in
      let rest : walls_in (sights_in xs shots) ≡ walls_in (sights_in ys shots') = cc in
      ((sym head, zip.0), begins_zip xs ys shots shots' zip.1 (omega arith) (omega arith) rest)

  many_shots : (d : Digest) (server : Server D) (seats : Seats D) → IsSeatsOf d server seats
      → length seats.snapshots.items ≡ length seats.places.seats.items
  many_shots d server seats is =
      let long = AllZip-long (IsShown d (user_of seats)) seats.places.seats.items seats.snapshots.items is.shown in
      omega arith

  pub knows_of : (d : Digest) (server : Server D) (other user : Seats D) → IsSeatsOf d server other
      → IsSeatsOf d server user → gates.KnowsOf other.places user.places → KnowsOf other user
  unfolding BeginsThere
  knows_of d server other user is is' knows wall =
      (by_wall BeginsThere (λ a b it. it.0) (refl, begins_itself []) (sights_of other) (sights_of user)
      (begins_zip other.places.seats.items user.places.seats.items other.snapshots.items user.snapshots.items knows
      (many_shots d server other is) (many_shots d server user is') (is.walls ∙ sym is'.walls)) wall).1

-- ---- all users

module _ {D : Type 0} (d : Digest) (server : Server D) where
  pub sit_all : (old : List (Seats D)) → All (IsSeatsOf d server) old → All (SitsAt server.gates.items) (places_of old)
  sit_all [] all = All-nil (SitsAt server.gates.items)
  sit_all (x ∷ old) all = All-cons (SitsAt server.gates.items) x.places (places_of old)
      (All-head (IsSeatsOf d server) x old all).sits (sit_all old (All-tail (IsSeatsOf d server) x old all))

  pub seats_after : (old : List (Seats D)) (ps : List (Places D)) → All (IsSeatsOf d server) old
      → AllZip (HaveSeenMore caller_of) (places_of old) ps → All (SitsAt server.gates.items) ps
      → All (IsSeatsOf d server) (seated old ps)
  seats_after [] ps all saw sits = All-nil (IsSeatsOf d server)
  seats_after (x ∷ old) [] all saw sits = absurd saw
  seats_after (x ∷ old) (p ∷ ps) all saw sits =
      All-cons (IsSeatsOf d server) (record x { places = p }) (seated old ps)
      (still_seats d server x p (All-head (IsSeatsOf d server) x old all) saw.0
      (All-head (SitsAt server.gates.items) p ps sits))
      (seats_after old ps (All-tail (IsSeatsOf d server) x old all) saw.1
      (All-tail (SitsAt server.gates.items) p ps sits))

  pub met_all : (old : List (Seats D)) (ps : List (Places D)) → All (IsSeatsOf d server) old
      → AllZip (HaveSeenMore caller_of) (places_of old) ps → AllZip HasMet old (seated old ps)
  met_all [] [] all saw = tt
  met_all [] (p ∷ ps) all saw = tt
  met_all (x ∷ old) [] all saw = absurd saw
  met_all (x ∷ old) (p ∷ ps) all saw = (
    has_met d server x p (All-head (IsSeatsOf d server) x old all) saw.0,
    met_all old ps (All-tail (IsSeatsOf d server) x old all) saw.1,
  )

  -- one user of those who met
  knows_all : (user : Seats D) → IsSeatsOf d server user → (old : List (Seats D)) → All (IsSeatsOf d server) old
      → All (λ other. gates.KnowsOf other user.places) (places_of old) → All (λ other. KnowsOf other user) old
  knows_all user is [] all knows = All-nil (λ other. KnowsOf other user)
  knows_all user is (x ∷ old) all knows = All-cons (λ other. KnowsOf other user) x old
      (knows_of d server x user (All-head (IsSeatsOf d server) x old all) is
      (All-head (λ other. gates.KnowsOf other user.places) x.places (places_of old) knows))
      (knows_all user is old (All-tail (IsSeatsOf d server) x old all)
      (All-tail (λ other. gates.KnowsOf other user.places) x.places (places_of old) knows))

  pub know_all : (others users : List (Seats D)) (ps : List (Places D)) → All (IsSeatsOf d server) others
      → All (IsSeatsOf d server) (seated users ps)
      → All (λ p. All (λ other. gates.KnowsOf other p) (places_of others)) ps
      → All (λ user. All (λ other. KnowsOf other user) others) (seated users ps)
  know_all others [] ps all is knows = All-nil (λ user. All (λ other. KnowsOf other user) others)
  know_all others (x ∷ users) [] all is knows = All-nil (λ user. All (λ other. KnowsOf other user) others)
  know_all others (x ∷ users) (p ∷ ps) all is knows =
      All-cons (λ user. All (λ other. KnowsOf other user) others) (record x { places = p }) (seated users ps)
      (knows_all (record x { places = p }) (All-head (IsSeatsOf d server) (record x { places = p }) (seated users ps) is)
      others all (All-head (λ q. All (λ other. gates.KnowsOf other q) (places_of others)) p ps knows))
      (know_all others users ps all (All-tail (IsSeatsOf d server) (record x { places = p }) (seated users ps) is)
      (All-tail (λ q. All (λ other. gates.KnowsOf other q) (places_of others)) p ps knows))

  -- the users go to the meeting with empty places in their stead, and come back
  pub back : (old : List (Seats D)) (none ps : List (Places D)) → length none ≡ length old
      → AllZip (HaveSeenMore caller_of) (places_of old) ps
      → seated (seated old none) ps ≡ seated old ps
  back old none ps many saw =
      let long = AllZip-long (HaveSeenMore caller_of) (places_of old) ps saw in
      let count = length-map old (λ (user : Seats D). user.places) in
      seated_twice old none ps many (omega arith)

-- who meets nobody
pub met_itself : {D : Type 0} (seats : Seats D) → HasMet seats seats
met_itself seats = record {
  user = refl;
  sights = λ wall. record {
    same = refl;
    sees = record { begins = begins_itself (sight_at seats wall).front; mine = refl };
    shown = refl;
  };
}

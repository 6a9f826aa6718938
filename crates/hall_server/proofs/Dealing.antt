-- One hall more behind a gate: each user is dealt a seat there, with a snapshot of the empty wall.
use Rattle.std.proofs.Common.{◌≡◌, ◌∙◌, ℕ, List, [], ◌∷◌, ◌++◌, length, map, reverse, Some, refl, sym, ap, subst, append_assoc, arith}
use Rattle.std.specs.List.{All, AllZip}
use Rattle.std.proofs.lemmas.List.{append-nil, length-map, map-append, reverse-append, reverse-reverse}
use Rattle.std.proofs.lemmas.List.Elements.{All-cons, All-head, All-nil, All-push, All-tail, All-weaker}
use Rattle.std.proofs.lemmas.Slice.Zip.{AllZip-long}
use Rattle.fr_bytes.specs.History.{Begins}
use Rattle.fr_bytes.proofs.HistoryLaws.{begins_itself}
use Rattle.fr_digest.specs.Digest.{Digest}
use Rattle.op_types.specs.declared.op.Leaf.{Leaf}
use Rattle.hall_gate.specs.Seats.{IsSeatOf, caller_of, callers_of, fixed_of, front_of}
use Rattle.gate_users.proofs.Zips.{zip_push}
use Rattle.hall_core.specs.declared.ask.Called.{Called}
use Rattle.hall_core.specs.declared.facts.WallFacts.{WallFacts}
use Rattle.hall_core.specs.declared.snapshot.Snapshot.{Snapshot}
use Rattle.hall_core.specs.Snapshots.{Stands}
use Rattle.hall_core.specs.Standing as standing
use Rattle.hall_replies.specs.Kept.{leaves_of}
use Rattle.hall_replies.proofs.Kept.{leaves-are}
use Rattle.hall_server.specs.declared.seats.Seats.{Seats}
use Rattle.hall_server.specs.declared.server.Server.{Server}
use Rattle.hall_server.specs.Moves.{AllGet, Gets}
use Rattle.hall_server.specs.Seating.{AreAll, IsMade, IsSeatless, IsSeatsOf, IsShown, opened}
use Rattle.hall_server.specs.Sights.{HallGate, HallSeat, Sight, facts_or_none, sight_of, sights_in, sights_of, user_of, walls_in}

module _ {D : Type 0} where
  sights_push : (seats : List (HallSeat D)) (shots : List (Snapshot D)) (seat : HallSeat D) (shot : Snapshot D)
      → length shots ≡ length seats
      → sights_in (seats ++ seat ∷ []) (shots ++ shot ∷ []) ≡ sights_in seats shots ++ sight_of seat shot ∷ []
  sights_push [] [] seat shot many = refl
  sights_push [] (y ∷ shots) seat shot many = absurd (omega arith)
  sights_push (x ∷ seats) [] seat shot many = absurd (omega arith)
  sights_push (x ∷ seats) (y ∷ shots) seat shot many =
      ap (λ ss. sight_of x y ∷ ss) (sights_push seats shots seat shot (omega arith))

module _ {D : Type 0} (d : Digest) (server next : Server D) (gate : HallGate D) (hall : standing.Hall) (snapshot : Snapshot D)
    (gates : next.gates.items ≡ server.gates.items ++ gate ∷ [])
    (walls : next.walls.items ≡ server.walls.items ++ hall.facts.wall ∷ [])
    (stands : Stands d hall.facts [] snapshot) where
  -- a seat that was just made
  pub record IsNew (user : ℕ) (seat : HallSeat D) : Type 0 where
    pub sits : IsSeatOf gate seat
    pub mine : caller_of seat ≡ user
    pub fresh : front_of seat ≡ []
    pub known : fixed_of seat ≡ Some hall.facts

  shown_first : (user : ℕ) (seat : HallSeat D) → IsNew user seat → IsShown d user seat snapshot
  shown_first user seat new = record {
    facts = hall.facts;
    seen = [];
    mine = new.mine;
    known = new.known;
    begins = subst (λ (calls : List Called). Begins [] calls) (sym new.fresh) (begins_itself []);
    played = record { legal = tt; spelled = tt };
    stands = stands;
  }

  sight : WallFacts → List Called → List Leaf → Sight
  sight facts front leaves = record { facts = facts; front = front; leaves = leaves }

  sight_first : (user : ℕ) (seat : HallSeat D) → IsNew user seat → sight_of seat snapshot ≡ opened hall
  unfolding sight
  sight_first user seat new =
      ap (λ o. sight (facts_or_none o) (front_of seat) (leaves_of snapshot)) new.known
      ∙ ap (λ calls. sight hall.facts calls (leaves_of snapshot)) new.fresh
      ∙ ap (λ ls. sight hall.facts [] ls) (leaves-are d hall.facts [] snapshot stands)

  -- one user
  seated : (seat : HallSeat D) (before after : Seats D) → IsNew (user_of before) seat → Gets snapshot seat before after
      → IsSeatsOf d server before
      → IsSeatsOf d next after × (sights_of after ≡ sights_of before ++ opened hall ∷ [])
  seated seat before after new gets is = (
    record {
      sits = subst (λ gs. AllZip IsSeatOf gs after.places.seats.items) (sym gates)
          (subst (AllZip IsSeatOf (server.gates.items ++ gate ∷ [])) (sym gets.places)
          (zip_push IsSeatOf server.gates.items before.places.seats.items gate seat is.sits new.sits));
      shown = subst (λ u. AllZip (IsShown d u) after.places.seats.items after.snapshots.items) (sym gets.user)
          (subst (λ xs. AllZip (IsShown d (user_of before)) xs after.snapshots.items) (sym gets.places)
          (subst (AllZip (IsShown d (user_of before)) (before.places.seats.items ++ seat ∷ [])) (sym gets.snapshots)
          (zip_push (IsShown d (user_of before)) before.places.seats.items before.snapshots.items seat snapshot is.shown
          (shown_first (user_of before) seat new))));
      walls = ap walls_in sights
          ∙ map-append (λ (s : Sight). s.facts.wall) (sights_of before) (opened hall ∷ [])
          ∙ ap (λ ws. ws ++ hall.facts.wall ∷ []) is.walls ∙ sym walls;
    },
    sights,
  ) where
    many : length before.snapshots.items ≡ length before.places.seats.items
    many =
        let long = AllZip-long (IsShown d (user_of before)) before.places.seats.items before.snapshots.items is.shown in
        omega arith

    sights : sights_of after ≡ sights_of before ++ opened hall ∷ []
    sights = ap (λ xs. sights_in xs after.snapshots.items) gets.places
        ∙ ap (sights_in (before.places.seats.items ++ seat ∷ [])) gets.snapshots
        ∙ sights_push before.places.seats.items before.snapshots.items seat snapshot many
        ∙ ap (λ s. sights_of before ++ s ∷ []) (sight_first (user_of before) seat new)

  -- all users
  module _ (halls : List standing.Hall) where
    abbrev Known : Seats D → Type 0
    Known user = IsSeatsOf d server user × (sights_of user ≡ map opened halls)

    pub record AreSeated (before after : List (Seats D)) : Type 0 where
      pub seats : All (IsSeatsOf d next) after
      pub sights : All (λ (user : Seats D). sights_of user ≡ map opened halls ++ opened hall ∷ []) after
      pub users : map user_of after ≡ map user_of before

    all_seated : (places : List (HallSeat D)) (before after : List (Seats D)) → AllGet snapshot places before after
        → map caller_of places ≡ map user_of before → All (IsSeatOf gate) places → All (λ seat. front_of seat ≡ []) places
        → All (λ seat. fixed_of seat ≡ Some hall.facts) places → All Known before → AreSeated before after
    all_seated [] [] [] gets mine sits fresh known all = record {
      seats = All-nil (IsSeatsOf d next);
      sights = All-nil (λ (user : Seats D). sights_of user ≡ map opened halls ++ opened hall ∷ []);
      users = refl;
    }
    all_seated [] [] (a ∷ after) gets mine sits fresh known all = absurd gets
    all_seated [] (b ∷ before) after gets mine sits fresh known all = absurd gets
    all_seated (p ∷ places) [] after gets mine sits fresh known all = absurd gets
    all_seated (p ∷ places) (b ∷ before) [] gets mine sits fresh known all = absurd gets
    all_seated (p ∷ places) (b ∷ before) (a ∷ after) gets mine sits fresh known all =
        let own : caller_of p ≡ user_of b = cc in
        let rest : map caller_of places ≡ map user_of before = cc in
        let is = All-head Known b before all in
        let one = seated p b a (record {
          sits = All-head (IsSeatOf gate) p places sits;
          mine = own;
          fresh = All-head (λ seat. front_of seat ≡ []) p places fresh;
          known = All-head (λ seat. fixed_of seat ≡ Some hall.facts) p places known;
        }) gets.0 is.0 in
        let more = all_seated places before after gets.1 rest (All-tail (IsSeatOf gate) p places sits)
        (All-tail (λ seat. front_of seat ≡ []) p places fresh)
        (All-tail (λ seat. fixed_of seat ≡ Some hall.facts) p places known) (All-tail Known b before all) in
        record {
          seats = All-cons (IsSeatsOf d next) a after one.0 more.seats;
          sights = All-cons (λ (user : Seats D). sights_of user ≡ map opened halls ++ opened hall ∷ []) a after
              (one.1 ∙ ap (λ ss. ss ++ opened hall ∷ []) is.1) more.sights;
          users = ap (λ u. u ∷ map user_of after) gets.0.user ∙ ap (λ us. user_of b ∷ us) more.users;
        }

    pub made_more : (users : List ℕ) (places : List (HallSeat D)) (before after : List (Seats D))
        → AllGet snapshot places before after → callers_of gate ≡ users → map caller_of places ≡ users
        → All (IsSeatOf gate) places → All (λ seat. front_of seat ≡ []) places
        → All (λ seat. fixed_of seat ≡ Some hall.facts) places → IsMade d users halls server before
        → IsMade d users (halls ++ hall ∷ []) next after
    made_more users places before after gets callers mine sits fresh known made =
        let it = all_seated places before after gets (mine ∙ sym made.seats_of) sits fresh known
        (λ k e lt. (made.seats k e lt, made.sights k e lt)) in
        record {
          walls = walls ∙ ap (λ ws. ws ++ hall.facts.wall ∷ []) made.walls
              ∙ sym (map-append (λ (h : standing.Hall). h.facts.wall) halls (hall ∷ []));
          users_are = subst (All (λ (g : HallGate D). callers_of g ≡ users)) (sym gates)
              (All-push (λ (g : HallGate D). callers_of g ≡ users) server.gates.items gate made.users_are callers);
          seats_of = it.users ∙ made.seats_of;
          seats = it.seats;
          sights = All-weaker (λ (user : Seats D). sights_of user ≡ map opened halls ++ opened hall ∷ [])
              (λ (user : Seats D). sights_of user ≡ map opened (halls ++ hall ∷ []))
              (λ user same. same ∙ sym (map-append opened halls (hall ∷ []))) after it.sights;
        }

-- ---- before the first hall

module _ {D : Type 0} (d : Digest) (users : List ℕ) (server : Server D) (gates : server.gates.items ≡ [])
    (walls : server.walls.items ≡ []) where
  seatless_is : (seats : Seats D) → IsSeatless seats → IsSeatsOf d server seats × (sights_of seats ≡ [])
  seatless_is seats none = (
    record {
      sits = subst (λ (gs : List (HallGate D)). AllZip IsSeatOf gs seats.places.seats.items) (sym gates)
          (subst (λ (xs : List (HallSeat D)). AllZip {A = HallGate D} IsSeatOf [] xs) (sym none.places) tt);
      shown = subst (λ (xs : List (HallSeat D)). AllZip (IsShown d (user_of seats)) xs seats.snapshots.items)
          (sym none.places)
          (subst (λ (ys : List (Snapshot D)). AllZip (IsShown d (user_of seats)) [] ys) (sym none.snapshots) tt);
      walls = ap walls_in sights ∙ sym walls;
    },
    sights,
  ) where
    sights : sights_of seats ≡ []
    sights = ap (λ xs. sights_in xs seats.snapshots.items) none.places

  pub made_none : (all : List (Seats D)) → map user_of all ≡ users → All IsSeatless all → IsMade d users [] server all
  made_none all mine none = record {
    walls = walls;
    users_are = subst (All (λ (g : HallGate D). callers_of g ≡ users)) (sym gates)
        (All-nil (λ (g : HallGate D). callers_of g ≡ users));
    seats_of = mine;
    seats = All-weaker IsSeatless (IsSeatsOf d server) (λ seats is. (seatless_is seats is).0) all none;
    sights = All-weaker IsSeatless (λ (user : Seats D). sights_of user ≡ []) (λ seats is. (seatless_is seats is).1) all none;
  }

-- ---- as many seats as users

pub are_all : {D : Type 0} (d : Digest) (users : List ℕ) (halls : List standing.Hall) (server : Server D)
    (all : List (Seats D)) → IsMade d users halls server all → AreAll server all
are_all d users halls server all made = All-weaker (λ (g : HallGate _). callers_of g ≡ users)
    (λ (g : HallGate _). length all ≡ length (callers_of g))
    (λ g callers. sym (length-map all user_of) ∙ ap length made.seats_of ∙ ap length (sym callers))
    server.gates.items made.users_are

-- ---- users are dealt seats one by one, the last first

-- the last users have theirs
pub record HasDealt {D : Type 0} (snapshot : Snapshot D) (places : List (HallSeat D)) (all : List (Seats D))
    (places_left : List (HallSeat D)) (left dealt : List (Seats D)) : Type 0 where
  pub places_done : List (HallSeat D)
  pub done : List (Seats D)
  pub places_are : places ≡ places_left ++ places_done
  pub all_are : all ≡ left ++ done
  pub gets : AllGet snapshot places_done done (reverse dealt)

module _ {D : Type 0} (snapshot : Snapshot D) (places : List (HallSeat D)) (all : List (Seats D)) where
  pub dealt_none : HasDealt snapshot places all places all []
  dealt_none = record {
    places_done = [];
    done = [];
    places_are = sym (append-nil places);
    all_are = sym (append-nil all);
    gets = tt;
  }

  pub dealt_more : (places_left next : List (HallSeat D)) (left rest dealt : List (Seats D)) (place : HallSeat D)
      (before after : Seats D) → HasDealt snapshot places all places_left left dealt → places_left ≡ next ++ place ∷ []
      → left ≡ rest ++ before ∷ [] → Gets snapshot place before after
      → HasDealt snapshot places all next rest (dealt ++ after ∷ [])
  dealt_more places_left next left rest dealt place before after has popped taken gets = record {
    places_done = place ∷ has.places_done;
    done = before ∷ has.done;
    places_are = has.places_are ∙ ap (λ ps. ps ++ has.places_done) popped
        ∙ append_assoc next (place ∷ []) has.places_done;
    all_are = has.all_are ∙ ap (λ us. us ++ has.done) taken ∙ append_assoc rest (before ∷ []) has.done;
    gets = rw (reverse-append dealt (after ∷ [])) (gets, has.gets);
  }

  pub dealt_all : (dealt : List (Seats D)) → HasDealt snapshot places all [] [] dealt
      → AllGet snapshot places all (reverse dealt)
  dealt_all dealt has = rw (has.places_are, has.all_are) has.gets

-- ---- halls are opened one by one

-- the halls that are left are those behind the open ones
pub record HasOpened {D : Type 0} (d : Digest) (users : List ℕ) (halls left : List standing.Hall) (server : Server D)
    (all : List (Seats D)) : Type 0 where
  pub open_ : List standing.Hall
  pub halls_are : halls ≡ open_ ++ reverse left
  pub made : IsMade d users open_ server all
  pub fresh : All (λ (hall : standing.Hall). hall.entries ≡ []) left

module _ {D : Type 0} (d : Digest) (users : List ℕ) (halls : List standing.Hall) where
  pub opened_more : (left rest : List standing.Hall) (hall : standing.Hall) (server next : Server D)
      (all seated : List (Seats D)) → HasOpened d users halls left server all → left ≡ rest ++ hall ∷ []
      → ((open_ : List standing.Hall) → IsMade d users open_ server all → IsMade d users (open_ ++ hall ∷ []) next seated)
      → All (λ (h : standing.Hall). h.entries ≡ []) rest → HasOpened d users halls rest next seated
  opened_more left rest hall server next all seated has popped more fresh = record {
    open_ = has.open_ ++ hall ∷ [];
    halls_are = has.halls_are ∙ ap (λ hs. has.open_ ++ reverse hs) popped
        ∙ ap (λ hs. has.open_ ++ hs) (reverse-append rest (hall ∷ []))
        ∙ sym (append_assoc has.open_ (hall ∷ []) (reverse rest));
    made = more has.open_ has.made;
    fresh = fresh;
  }

  pub opened_all : (server : Server D) (all : List (Seats D)) → HasOpened d users halls [] server all
      → IsMade d users halls server all
  opened_all server all has =
      subst (λ hs. IsMade d users hs server all) (sym (has.halls_are ∙ append-nil has.open_)) has.made

all_reverse : {A : Type 0} (P : A → Type 0) (xs : List A) → All P xs → All P (reverse xs)
all_reverse P [] all = all
all_reverse P (x ∷ xs) all = subst (All P) (sym (reverse-append (x ∷ []) xs))
    (All-push P (reverse xs) x (all_reverse P xs (All-tail P x xs all)) (All-head P x xs all))

pub opened_none : {D : Type 0} (d : Digest) (users : List ℕ) (halls left : List standing.Hall) (server : Server D)
    (all : List (Seats D)) → server.gates.items ≡ [] → server.walls.items ≡ [] → map user_of all ≡ users
    → All IsSeatless all → left ≡ reverse halls → All (λ (hall : standing.Hall). hall.entries ≡ []) halls
    → HasOpened d users halls left server all
opened_none d users halls left server all gates walls mine none turned fresh = record {
  open_ = [];
  halls_are = sym (ap reverse turned ∙ reverse-reverse halls);
  made = made_none d users server gates walls all mine none;
  fresh = subst (All (λ (hall : standing.Hall). hall.entries ≡ [])) (sym turned)
      (all_reverse (λ (hall : standing.Hall). hall.entries ≡ []) halls fresh);
}

-- The relations of seats, lifted to users; one meeting more, of two users at a gate and of the hub with a user; the
-- two rounds.
use Rattle.std.proofs.Common.{◌≡◌, ℕ, zero, suc, ◌+◌, ◌<◌, ◌≤◌, List, [], ◌∷◌, ◌++◌, length, get_or, set, take}
use Rattle.std.proofs.Common.{sym, subst, ◌∙◌, arith}
use Rattle.std.specs.List.{All, AllZip, AllWithin}
use Rattle.std.specs.Option.{ForSome}
use Rattle.std.proofs.lemmas.List.{take_all, get_or_read}
use Rattle.std.proofs.lemmas.List.Elements.{All-push, All-weaker, AllWithin-none, AllWithin-more, AllWithin-more_set}
use Rattle.std.proofs.lemmas.Slice.Zip.{AllZip-long}
use Rattle.fr_bytes.specs.History.{Begins}
use Rattle.fr_bytes.proofs.HistoryLaws.{begins_then}
use Rattle.hall_gate.specs.declared.gate.Gate.{Gate}
use Rattle.hall_gate.specs.declared.seat.GateSeat.{GateSeat}
use Rattle.hall_gate.specs.Seats.{front_of, fixed_of, IsSeatOf, HasSeenMore}
use Rattle.hall_gate.proofs.SeatLaws.{sees_same, sees_on}
use Rattle.gate_users.specs.declared.seats.Seats.{Seats}
use Rattle.gate_users.specs.Users.{HaveSeenMore, KnowsOf, HasLegal, HaveLegal}
use Rattle.gate_users.proofs.Zips.{zip_itself, zip_weaker, zip_push, zip_at, zip_set, zip_more_set, zip_then}

module _ {T Slip Answer Seen Entry Ask Fixed : Type 0} where
  -- what a seat has seen begins with what another has
  abbrev pub BeginsWith : GateSeat T Slip Answer Seen Entry Ask Fixed
      → GateSeat T Slip Answer Seen Entry Ask Fixed → Type 0
  BeginsWith other seat = Begins (front_of other) (front_of seat)

  begins_on : (a b c : GateSeat T Slip Answer Seen Entry Ask Fixed) → BeginsWith a b → BeginsWith b c → BeginsWith a c
  begins_on a b c p q = begins_then (front_of a) (front_of b) (front_of c) p q

  pub knows_on : (a b c : Seats T Slip Answer Seen Entry Ask Fixed) → KnowsOf a b → KnowsOf b c → KnowsOf a c
  knows_on a b c p q =
      zip_then BeginsWith BeginsWith BeginsWith begins_on a.seats.items b.seats.items c.seats.items p q

module _ {T Slip Answer Seen Entry Ask Fixed : Type 0} (caller : Entry → ℕ) where
  pub saw_itself : (a : Seats T Slip Answer Seen Entry Ask Fixed) → HaveSeenMore caller a a
  saw_itself a =
      zip_itself (HasSeenMore caller) (sees_same T Slip Answer Seen Entry Ask Fixed caller) a.seats.items

  pub saw_on : (a b c : Seats T Slip Answer Seen Entry Ask Fixed)
      → HaveSeenMore caller a b → HaveSeenMore caller b c → HaveSeenMore caller a c
  saw_on a b c p q = zip_then (HasSeenMore caller) (HasSeenMore caller) (HasSeenMore caller)
      (sees_on T Slip Answer Seen Entry Ask Fixed caller) a.seats.items b.seats.items c.seats.items p q

  pub saw_knows : (a b : Seats T Slip Answer Seen Entry Ask Fixed) → HaveSeenMore caller a b → KnowsOf a b
  saw_knows a b p = zip_weaker (HasSeenMore caller) BeginsWith (λ s t more. more.sees.begins)
      a.seats.items b.seats.items p

module _ {T Slip Answer Seen Entry Ask Fixed : Type 0} (legal : Fixed → List Entry → Type 0) (caller : Entry → ℕ)
    (gates : List (Gate T Slip Answer Seen Entry Ask Fixed)) where
  -- a user who has met another at the first i gates: its seats, the seats that it had, and those that the other had
  pub record HasMetAt (first theirs : List (GateSeat T Slip Answer Seen Entry Ask Fixed)) (i : ℕ)
      (seats : List (GateSeat T Slip Answer Seen Entry Ask Fixed)) : Type 0 where
    pub sits : AllZip IsSeatOf gates seats
    pub saw : AllZip (HasSeenMore caller) first seats
    pub knows : AllZip BeginsWith (take i theirs) (take i seats)
    pub lawful : AllWithin (HasLegal legal) seats 0 i

  -- the seat of this place is there
  pub has_seat : (first theirs seats : List (GateSeat T Slip Answer Seen Entry Ask Fixed)) (i : ℕ)
      → i < length gates → HasMetAt first theirs i seats → i < length seats
  has_seat first theirs seats i lt met = let many = AllZip-long IsSeatOf gates seats met.sits in omega arith

  -- and is this gate's
  pub is_seat : (first theirs seats : List (GateSeat T Slip Answer Seen Entry Ask Fixed)) (i : ℕ)
      (gate : Gate T Slip Answer Seen Entry Ask Fixed) (seat : GateSeat T Slip Answer Seen Entry Ask Fixed)
      → i < length gates → HasMetAt first theirs i seats
      → gate ≡ get_or gates i gate → seat ≡ get_or seats i seat → IsSeatOf gate seat
  is_seat first theirs seats i gate seat lt met e e' = rw (e, e') (zip_at IsSeatOf gates seats i gate seat met.sits lt)

  -- one gate more: there the user's seat was `mine`, and met the seat `other`
  pub met_more : (first theirs seats others : List (GateSeat T Slip Answer Seen Entry Ask Fixed)) (i : ℕ)
      (gate : Gate T Slip Answer Seen Entry Ask Fixed) (mine other seat : GateSeat T Slip Answer Seen Entry Ask Fixed)
      → i < length gates → HasMetAt first theirs i seats → HasMetAt theirs first i others
      → gate ≡ get_or gates i gate → mine ≡ get_or seats i mine → other ≡ get_or others i other
      → IsSeatOf gate seat → HasSeenMore caller mine seat × BeginsWith other seat
      → ForSome (fixed_of mine) (λ f. legal f (front_of seat))
      → HasMetAt first theirs (i + 1) (set seats i seat)
  met_more first theirs seats others i gate mine other seat lt met met' g m o is sees lawful =
      let many = AllZip-long IsSeatOf gates seats met.sits in
      let long = AllZip-long (HasSeenMore caller) first seats met.saw in
      let many' = AllZip-long IsSeatOf gates others met'.sits in
      let long' = AllZip-long (HasSeenMore caller) theirs others met'.saw in record {
        sits = zip_set IsSeatOf gates seats i seat met.sits
            (λ d at. subst (λ (x : Gate T Slip Answer Seen Entry Ask Fixed).
            IsSeatOf x seat) (get_or_read gates i gate lt g d) is);
        saw = zip_set (HasSeenMore caller) first seats i seat met.saw (λ d at.
            sees_on T Slip Answer Seen Entry Ask Fixed caller (get_or first i d) mine seat
            (rw m (zip_at (HasSeenMore caller) first seats i d mine met.saw at)) sees.0);
        knows = zip_more_set BeginsWith theirs seats i seat other (omega arith) (omega arith) met.knows
            (begins_on (get_or theirs i other) other seat
            (subst (λ (s : GateSeat T Slip Answer Seen Entry Ask Fixed). BeginsWith (get_or theirs i other) s) (sym o)
            (zip_at (HasSeenMore caller) theirs others i other other met'.saw (omega arith)).sees.begins) sees.1);
        lawful = AllWithin-more_set seats i seat (omega arith) (HasLegal legal) met.lawful
            (λ f e. lawful f (sym sees.0.same.fixed ∙ e));
      }

  -- a user who has met nobody yet
  pub met_none_at : (first theirs : List (GateSeat T Slip Answer Seen Entry Ask Fixed))
      → AllZip IsSeatOf gates first → HasMetAt first theirs 0 first
  met_none_at first theirs sit = record {
    sits = sit;
    saw = zip_itself (HasSeenMore caller) (sees_same T Slip Answer Seen Entry Ask Fixed caller) first;
    knows = tt;
    lawful = AllWithin-none (HasLegal legal) first 0;
  }

  -- a user who has met another at all gates
  pub met_all : (first theirs user : Seats T Slip Answer Seen Entry Ask Fixed) (i : ℕ) → length gates ≤ i
      → AllZip IsSeatOf gates theirs.seats.items
      → HasMetAt first.seats.items theirs.seats.items i user.seats.items
      → KnowsOf theirs user × HaveLegal legal user
  met_all first theirs user i le sit met =
      let many = AllZip-long IsSeatOf gates user.seats.items met.sits in
      let many' = AllZip-long IsSeatOf gates theirs.seats.items sit in (
        rw (take_all i theirs.seats.items (omega arith), take_all i user.seats.items (omega arith)) at met.knows,
        λ k d lt. met.lawful k d (omega arith) (omega arith),
      )

module _ {T Slip Answer Seen Entry Ask Fixed : Type 0} (caller : Entry → ℕ) where
  -- the hub has met the first i of the others
  pub record HasMetFirst (hub hub' : Seats T Slip Answer Seen Entry Ask Fixed)
      (others others' : List (Seats T Slip Answer Seen Entry Ask Fixed)) (i : ℕ) : Type 0 where
    pub hub_saw : HaveSeenMore caller hub hub'
    pub others_saw : AllZip (HaveSeenMore caller) others others'
    pub hub_knows : AllWithin (λ other. KnowsOf other hub') others 0 i
    pub others_know : AllWithin (KnowsOf hub) others' 0 i

  pub met_none : (hub : Seats T Slip Answer Seen Entry Ask Fixed)
      (others : List (Seats T Slip Answer Seen Entry Ask Fixed))
      → HasMetFirst hub hub others others 0
  met_none hub others = record {
    hub_saw = saw_itself caller hub;
    others_saw = zip_itself (HaveSeenMore caller) (saw_itself caller) others;
    hub_knows = λ k d low lt. absurd (omega arith);
    others_know = λ k d low lt. absurd (omega arith);
  }

  -- one more: the user was `before`, and the hub is `next` afterwards, and the user `one`
  pub met_next : (hub hub' next : Seats T Slip Answer Seen Entry Ask Fixed)
      (others others' : List (Seats T Slip Answer Seen Entry Ask Fixed)) (i : ℕ)
      (before one : Seats T Slip Answer Seen Entry Ask Fixed)
      → i < length others' → HasMetFirst hub hub' others others' i → before ≡ get_or others' i before
      → HaveSeenMore caller hub' next × KnowsOf before next → HaveSeenMore caller before one × KnowsOf hub' one
      → HasMetFirst hub next others (set others' i one) (i + 1)
  met_next hub hub' next others others' i before one lt met is hub_sees sees =
      let many = AllZip-long (HaveSeenMore caller) others others' met.others_saw in
      let until : (d : Seats T Slip Answer Seen Entry Ask Fixed) → HaveSeenMore caller (get_or others i d) before =
      λ d. subst (λ (x : Seats T Slip Answer Seen Entry Ask Fixed). HaveSeenMore caller (get_or others i d) x) (sym is)
      (zip_at (HaveSeenMore caller) others others' i d before met.others_saw (omega arith)) in record {
        hub_saw = saw_on caller hub hub' next met.hub_saw hub_sees.0;
        others_saw = zip_set (HaveSeenMore caller) others others' i one met.others_saw
            (λ d at. saw_on caller (get_or others i d) before one (until d) sees.0);
        hub_knows = AllWithin-more (λ other. KnowsOf other next) others 0 i
            (λ k d low at. knows_on (get_or others k d) hub' next (met.hub_knows k d low at)
            (saw_knows caller hub' next hub_sees.0))
            (λ d. knows_on (get_or others i d) before next
            (saw_knows caller (get_or others i d) before (until d)) hub_sees.1);
        others_know = AllWithin-more_set others' i one lt (KnowsOf hub) met.others_know
            (knows_on hub hub' one (saw_knows caller hub hub' met.hub_saw) sees.1);
      }

  -- the hub has met all of them
  pub met_them : (hub hub' : Seats T Slip Answer Seen Entry Ask Fixed)
      (others others' : List (Seats T Slip Answer Seen Entry Ask Fixed)) (i : ℕ) → length others' ≤ i
      → HasMetFirst hub hub' others others' i
      → All (λ other. KnowsOf other hub') others × All (KnowsOf hub) others'
  met_them hub hub' others others' i le met =
      let many = AllZip-long (HaveSeenMore caller) others others' met.others_saw in (
        λ k d lt. met.hub_knows k d (omega arith) (omega arith),
        λ k d lt. met.others_know k d (omega arith) (omega arith),
      )

  -- two rounds: after the first the hub knows of all that was known, and after the second all know of what it knew
  pub all_saw : (hub hub' hub'' : Seats T Slip Answer Seen Entry Ask Fixed)
      (others others' others'' : List (Seats T Slip Answer Seen Entry Ask Fixed))
      → HaveSeenMore caller hub hub' → HaveSeenMore caller hub' hub''
      → AllZip (HaveSeenMore caller) others others' → AllZip (HaveSeenMore caller) others' others''
      → AllZip (HaveSeenMore caller) (others ++ hub ∷ []) (others'' ++ hub'' ∷ [])
  all_saw hub hub' hub'' others others' others'' one two one' two' =
      zip_push (HaveSeenMore caller) others others'' hub hub''
      (zip_then (HaveSeenMore caller) (HaveSeenMore caller) (HaveSeenMore caller) (saw_on caller)
      others others' others''
      one' two')
      (saw_on caller hub hub' hub'' one two)

  pub all_know : (hub hub' hub'' : Seats T Slip Answer Seen Entry Ask Fixed)
      (others others'' : List (Seats T Slip Answer Seen Entry Ask Fixed))
      → HaveSeenMore caller hub hub' → All (λ other. KnowsOf other hub') others
      → HaveSeenMore caller hub' hub'' → All (KnowsOf hub') others''
      → All (λ user. All (λ other. KnowsOf other user) (others ++ hub ∷ [])) (others'' ++ hub'' ∷ [])
  all_know hub hub' hub'' others others'' one told two tell =
      let knew : All (λ other. KnowsOf other hub') (others ++ hub ∷ []) =
      All-push (λ other. KnowsOf other hub') others hub told (saw_knows caller hub hub' one) in
      All-weaker (KnowsOf hub') (λ user. All (λ other. KnowsOf other user) (others ++ hub ∷ []))
      (λ user knows. All-weaker (λ other. KnowsOf other hub') (λ other. KnowsOf other user)
      (λ other before. knows_on other hub' user before knows) (others ++ hub ∷ []) knew)
      (others'' ++ hub'' ∷ []) (All-push (KnowsOf hub') others'' hub'' tell (saw_knows caller hub' hub'' two))

  -- who is alone knows of itself
  pub alone_knows : (users : List (Seats T Slip Answer Seen Entry Ask Fixed)) → length users ≤ 1
      → All (λ user. All (λ other. KnowsOf other user) users) users
  alone_knows [] few k d lt k' d' lt' = absurd (omega arith)
  alone_knows (user ∷ []) few zero d lt zero d' lt' = saw_knows caller user user (saw_itself caller user)
  alone_knows (user ∷ []) few zero d lt (suc k') d' lt' = absurd (omega arith)
  alone_knows (user ∷ []) few (suc k) d lt k' d' lt' = absurd (omega arith)
  alone_knows (user ∷ (other ∷ users)) few k d lt k' d' lt' = absurd (omega arith)

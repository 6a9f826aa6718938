-- The snapshot of a wall, by the wall's number.
use Rattle.std.proofs.Common.{◌≡◌, ◌≢◌, ◌∙◌, ℕ, ◌<◌, ◌≤◌, List, [], ◌∷◌, length, get_or, map, refl, sym, ap, subst, arith}
use Rattle.std.specs.List.{AllZip, Contains}
use Rattle.std.proofs.lemmas.List.{get_or-map, length-map}
use Rattle.std.proofs.lemmas.Slice.Zip.{AllZip-long}
use Rattle.fr_digest.specs.Digest.{Digest}
use Rattle.op_types.specs.declared.op.Leaf.{Leaf}
use Rattle.gate_users.proofs.Zips.{some_at, zip_at}
use Rattle.hall_core.specs.declared.facts.WallFacts.{WallFacts}
use Rattle.hall_core.specs.declared.snapshot.Snapshot.{Snapshot}
use Rattle.hall_core.specs.Calls.{play}
use Rattle.hall_core.specs.Snapshots.{Stands}
use Rattle.hall_replies.specs.Kept.{IsOfHonest}
use Rattle.hall_replies.proofs.Kept.{leaves-are}
use Rattle.hall_server.specs.declared.seats.Seats.{Seats}
use Rattle.hall_server.specs.Seating.{AreShown, IsFirst, IsShown}
use Rattle.hall_server.specs.Sights.{HallSeat, Sight, facts_or_none, sight_at, sight_of, sights_in, sights_of, user_of, walls_in}
use Rattle.hall_server.proofs.Places.{sight_first, sights_at}
use Rattle.hall_server.proofs.Playing.{played_honest}

module _ {D : Type 0} (d : Digest) (user : ℕ) where
  shots_walls : (seats : List (HallSeat D)) (shots : List (Snapshot D)) → AllZip (IsShown d user) seats shots
      → walls_in (sights_in seats shots) ≡ map (λ (shot : Snapshot D). shot.view.wall) shots
  shots_walls [] [] zip = refl
  shots_walls [] (y ∷ shots) zip = absurd zip
  shots_walls (x ∷ seats) [] zip = absurd zip
  shots_walls (x ∷ seats) (y ∷ shots) zip =
      ap (λ w. w ∷ walls_in (sights_in seats shots))
      (ap (λ o. (facts_or_none o).wall) zip.0.known ∙ sym zip.0.stands.viewed.wall)
      ∙ ap (λ ws. y.view.wall ∷ ws) (shots_walls seats shots zip.1)

module _ {D : Type 0} (d : Digest) (self : Seats D) (shown : AreShown d self) (wall : ℕ) where
  walls_are : walls_in (sights_of self) ≡ map (λ (shot : Snapshot D). shot.view.wall) self.snapshots.items
  walls_are = shots_walls d (user_of self) self.places.seats.items self.snapshots.items shown

  wall_at : (k e : ℕ) (shot : Snapshot D) → k < length self.snapshots.items
      → get_or (walls_in (sights_of self)) k e ≡ (get_or self.snapshots.items k shot).view.wall
  wall_at k e shot below = ap (λ (ws : List ℕ). get_or ws k e) walls_are
      ∙ get_or-map (λ (x : Snapshot D). x.view.wall) self.snapshots.items k shot e below

  count : length (walls_in (sights_of self)) ≡ length self.snapshots.items
  count = ap length walls_are ∙ length-map self.snapshots.items (λ (x : Snapshot D). x.view.wall)

  module _ (k : ℕ) (shot : Snapshot D) (below : k < length self.snapshots.items)
      (at : shot ≡ get_or self.snapshots.items k shot) (is : shot.view.wall ≡ wall)
      (before : (j : ℕ) (e : Snapshot D) → j < k → (get_or self.snapshots.items j e).view.wall ≢ wall) where
    first : IsFirst (walls_in (sights_of self)) wall k
    first = record {
      within = let same = count in omega arith;
      here = λ e. wall_at k e shot below ∙ ap (λ (x : Snapshot D). x.view.wall) (sym at) ∙ is;
      before = λ j e less same. before j shot less (sym (wall_at j e shot (omega arith)) ∙ same);
    }

    many : length self.snapshots.items ≡ length self.places.seats.items
    many =
        let long = AllZip-long (IsShown d (user_of self)) self.places.seats.items self.snapshots.items shown in
        omega arith

    below_seats : k < length self.places.seats.items
    below_seats = let same = many in omega arith

    seat : HallSeat D
    seat = some_at self.places.seats.items k below_seats

    here : IsShown d (user_of self) (get_or self.places.seats.items k seat) shot
    here = subst (IsShown d (user_of self) (get_or self.places.seats.items k seat)) (sym at)
        (zip_at (IsShown d (user_of self)) self.places.seats.items self.snapshots.items k seat shot shown below_seats)

    sight_is : sight_at self wall ≡ sight_of (get_or self.places.seats.items k seat) shot
    sight_is =
        sight_first (sights_of self) wall k (sight_of seat shot) first
        ∙ sights_at self.places.seats.items self.snapshots.items k seat shot (sight_of seat shot) many below_seats
        ∙ ap (sight_of (get_or self.places.seats.items k seat)) (sym at)

    pub stands_here : Stands d (sight_at self wall).facts (sight_at self wall).leaves shot
    stands_here =
        let facts_are = ap (λ (s : Sight). s.facts) sight_is ∙ ap facts_or_none here.known in
        let leaves_are = ap (λ (s : Sight). s.leaves) sight_is
        ∙ leaves-are d here.facts (play d here.facts here.seen) shot here.stands in
        subst (λ (facts : WallFacts). Stands d facts (sight_at self wall).leaves shot) (sym facts_are)
        (subst (λ (leaves : List Leaf). Stands d here.facts leaves shot) (sym leaves_are) here.stands)

    pub honest_here : IsOfHonest d shot
    honest_here = record {
      facts = here.facts;
      leaves = play d here.facts here.seen;
      stands = here.stands;
      honest = played_honest d here.facts here.seen here.played;
    }

  pub none_left : Contains (walls_in (sights_of self)) wall → (n : ℕ) → length self.snapshots.items ≤ n
      → ((j : ℕ) (e : Snapshot D) → j < n → (get_or self.snapshots.items j e).view.wall ≢ wall) → ⊥
  none_left listed n all before =
      let same = count in
      let within = listed.1 in
      let below : listed.0 < length self.snapshots.items = omega arith in
      let shot = some_at self.snapshots.items listed.0 below in
      before listed.0 shot (omega arith) (sym (wall_at listed.0 wall shot below) ∙ listed.2)

-- A user's seat at one wall has made a turn.
use Rattle.std.proofs.Common.{◌≡◌, ◌∙◌, inr, ℕ, ◌<◌, List, length, get_or, set, Some, sym, ap, subst, arith}
use Rattle.std.specs.List.{AllZip}
use Rattle.std.proofs.lemmas.List.{get_or-map, get_or_default, get_or_read, length-map}
use Rattle.std.proofs.lemmas.Slice.Zip.{AllZip-long}
use Rattle.fr_bytes.proofs.HistoryLaws.{begins_itself, begins_then}
use Rattle.fr_digest.specs.Digest.{Digest}
use Rattle.hall_gate.specs.Seats.{IsSameSeat, IsSeatOf, caller_of, fixed_of, front_of}
use Rattle.gate_users.proofs.Zips.{some_at, zip_at, zip_set}
use Rattle.hall_core.specs.declared.ask.Answer.{Answer}
use Rattle.hall_core.specs.declared.ask.Ask.{Ask}
use Rattle.hall_core.specs.declared.facts.WallFacts.{WallFacts}
use Rattle.hall_core.specs.declared.snapshot.Snapshot.{Snapshot}
use Rattle.hall_core.specs.Calls.{play}
use Rattle.hall_core.specs.Snapshots.{Stands}
use Rattle.hall_replies.proofs.Kept.{leaves-are}
use Rattle.hall_server.specs.declared.seats.Seats.{Seats}
use Rattle.hall_server.specs.declared.server.Server.{Server}
use Rattle.hall_server.specs.Answers.{GrowsBy, HalfwayAt, MakesTurn, StaysElsewhere, Turned, TurnsAt}
use Rattle.hall_server.specs.Seating.{IsFirst, IsSeatsOf, IsShown, walls_of}
use Rattle.hall_server.specs.Sights.{HallGate, HallSeat, Sight, facts_or_none, sight_at, sight_in, sight_of, sights_in, sights_of, user_of, walls_in}
use Rattle.hall_server.proofs.Places.{length-sights, set_same, sight_else, sight_first, sight_set, sights_at, sights_set, walls_set, zip_both_set}

wall_here : (sights : List Sight) (wall k : ℕ) (s : Sight) → IsFirst (walls_in sights) wall k → s ≡ get_or sights k s
    → s.facts.wall ≡ wall
wall_here sights wall k s first at =
    let count = length-map sights (λ (x : Sight). x.facts.wall) in
    let below = first.within in
    ap (λ (x : Sight). x.facts.wall) at
    ∙ sym (get_or-map (λ (x : Sight). x.facts.wall) sights k s s.facts.wall (omega arith)) ∙ first.here s.facts.wall

module _ {D : Type 0} (d : Digest) (server : Server D) (before : Seats D) (is : IsSeatsOf d server before) (wall place : ℕ)
    (first : IsFirst (walls_of server) wall place) where
  first_in : IsFirst (walls_in (sights_of before)) wall place
  first_in = subst (λ (walls : List ℕ). IsFirst walls wall place) (sym is.walls) first

  many : length before.snapshots.items ≡ length before.places.seats.items
  many = let long = AllZip-long (IsShown d (user_of before)) before.places.seats.items before.snapshots.items is.shown in
      omega arith

  pub within : place < length before.places.seats.items
  within =
      let below = first_in.within in
      let walls = length-map (sights_of before) (λ (s : Sight). s.facts.wall) in
      let size = length-sights before.places.seats.items before.snapshots.items many in
      omega arith

  pub within_gates : place < length server.gates.items
  within_gates =
      let below = within in
      let long = AllZip-long IsSeatOf server.gates.items before.places.seats.items is.sits in
      omega arith

  pub within_shots : place < length before.snapshots.items
  within_shots = let below = within in let same = many in omega arith

  pub is_seat : (gate : HallGate D) (seat : HallSeat D) → gate ≡ get_or server.gates.items place gate
      → seat ≡ get_or before.places.seats.items place seat → IsSeatOf gate seat
  is_seat gate seat e e' = rw (e, e')
      (zip_at IsSeatOf server.gates.items before.places.seats.items place gate seat is.sits within_gates)

  -- the snapshot at the place
  shot : Snapshot D
  shot = get_or before.snapshots.items place (some_at before.snapshots.items place within_shots)

  shot_at : shot ≡ get_or before.snapshots.items place shot
  unfolding shot
  shot_at = get_or_default before.snapshots.items place (some_at before.snapshots.items place within_shots) shot
      within_shots

  module _ (seat : HallSeat D) (at : seat ≡ get_or before.places.seats.items place seat) where
    shown : IsShown d (user_of before) seat shot
    shown = rw (at, shot_at) (zip_at (IsShown d (user_of before)) before.places.seats.items before.snapshots.items place
        seat shot is.shown within)

    pub caller_is : caller_of seat ≡ user_of before
    caller_is = shown.mine

    sight_here : sight_in (sights_of before) wall ≡ sight_of seat shot
    sight_here =
        sight_first (sights_of before) wall place (sight_of seat shot) first_in
        ∙ sights_at before.places.seats.items before.snapshots.items place seat shot (sight_of seat shot) many within
        ∙ ap (λ x. sight_of x (get_or before.snapshots.items place shot)) (sym at) ∙ ap (sight_of seat) (sym shot_at)

    wall_of_seat : (facts_or_none (fixed_of seat)).wall ≡ wall
    wall_of_seat = wall_here (sights_of before) wall place (sight_of seat shot) first_in
        (sym sight_here ∙ sight_first (sights_of before) wall place (sight_of seat shot) first_in)

    module _ (gate : HallGate D) (next : HallSeat D) (gate_at : gate ≡ get_or server.gates.items place gate)
        (sits : IsSeatOf gate next) (same : IsSameSeat seat next) where
      -- another seat and another snapshot at the place
      module _ (now : Snapshot D) (after : Seats D) (user : user_of after ≡ user_of before)
          (seats : after.places.seats.items ≡ set before.places.seats.items place next)
          (shots : after.snapshots.items ≡ set before.snapshots.items place now) where
        sights_are : sights_of after ≡ set (sights_of before) place (sight_of next now)
        sights_are =
            ap (λ xs. sights_in xs after.snapshots.items) seats
            ∙ ap (sights_in (set before.places.seats.items place next)) shots
            ∙ sights_set before.places.seats.items before.snapshots.items place next now many

        same_wall : (sight_of next now).facts.wall ≡ wall
        same_wall = ap (λ o. (facts_or_none o).wall) same.fixed ∙ wall_of_seat

        reseated : IsShown d (user_of before) next now → IsSeatsOf d server after
        reseated shows = record {
          sits = subst (AllZip IsSeatOf server.gates.items) (sym seats)
              (zip_set IsSeatOf server.gates.items before.places.seats.items place next is.sits
              (λ e below. subst (λ (g : HallGate D). IsSeatOf g next)
              (get_or_read server.gates.items place gate below gate_at e) sits));
          shown = subst (λ u. AllZip (IsShown d u) after.places.seats.items after.snapshots.items) (sym user)
              (subst (λ xs. AllZip (IsShown d (user_of before)) xs after.snapshots.items) (sym seats)
              (subst (AllZip (IsShown d (user_of before)) (set before.places.seats.items place next)) (sym shots)
              (zip_both_set (IsShown d (user_of before)) before.places.seats.items before.snapshots.items place next now
              is.shown shows)));
          walls = ap walls_in sights_are
              ∙ walls_set (sights_of before) wall place (sight_of next now) first_in same_wall ∙ is.walls;
        }

        here : sight_at after wall ≡ sight_of next now
        here = ap (λ ss. sight_in ss wall) sights_are
            ∙ sight_set (sights_of before) wall place (sight_of next now) first_in same_wall

        elsewhere : StaysElsewhere wall (sight_at before) (sight_at after)
        elsewhere other apart = ap (λ ss. sight_in ss other) sights_are
            ∙ sight_else (sights_of before) wall place (sight_of next now) other first_in same_wall apart

      -- the turn
      module _ (ask : Ask) (answer : Answer) (turns : (facts : WallFacts) → fixed_of seat ≡ Some facts
          → TurnsAt d facts (caller_of seat) (front_of seat) (front_of next) ask answer) where
        turn : TurnsAt d shown.facts (user_of before) (front_of seat) (front_of next) ask answer
        turn = subst (λ u. TurnsAt d shown.facts u (front_of seat) (front_of next) ask answer) shown.mine
            (turns shown.facts shown.known)

        module _ (now : Snapshot D) (after : Seats D) (user : user_of after ≡ user_of before)
            (seats : after.places.seats.items ≡ set before.places.seats.items place next)
            (shots : after.snapshots.items ≡ set before.snapshots.items place now) where
          sight_then : sight_at after wall ≡ sight_of next now
          sight_then = here now after user seats shots

          makes_turn : MakesTurn d (user_of before) (sight_at before wall) (sight_at after wall) ask turn.turn
          makes_turn =
              let facts_before = ap (λ (s : Sight). s.facts) sight_here ∙ ap facts_or_none shown.known in
              let facts_now = ap (λ (s : Sight). s.facts) sight_then ∙ ap facts_or_none (same.fixed ∙ shown.known) in
              let front_before = ap (λ (s : Sight). s.front) sight_here in
              let front_now = ap (λ (s : Sight). s.front) sight_then in
              record {
                same = facts_now ∙ sym facts_before;
                grows = subst (λ f. GrowsBy d f (user_of before) (sight_at before wall).front (sight_at after wall).front
                    ask turn.turn) (sym facts_before)
                    (subst (λ calls. GrowsBy d shown.facts (user_of before) calls (sight_at after wall).front ask turn.turn)
                    (sym front_before)
                    (subst (λ calls. GrowsBy d shown.facts (user_of before) (front_of seat) calls ask turn.turn)
                    (sym front_now) turn.grows));
              }

          -- the snapshot after the turn is kept
          module _ (stands : (facts : WallFacts) → fixed_of seat ≡ Some facts
              → Stands d facts (play d facts (front_of next)) now) where
            pub kept_seats : IsSeatsOf d server after
            kept_seats = reseated now after user seats shots (record {
              facts = shown.facts;
              seen = front_of next;
              mine = same.caller ∙ shown.mine;
              known = same.fixed ∙ shown.known;
              begins = begins_itself (front_of next);
              played = turn.grows.played;
              stands = stands shown.facts shown.known;
            })

            pub kept_turned : Turned d (user_of before) (sight_at before) (sight_at after) wall ask answer
            kept_turned = record {
              turn = turn.turn;
              made = makes_turn;
              answered = turn.answered;
              shown = ap (λ (s : Sight). s.leaves) sight_then
                  ∙ leaves-are d shown.facts (play d shown.facts (front_of next)) now (stands shown.facts shown.known)
                  ∙ sym turn.grows.left;
              elsewhere = elsewhere now after user seats shots;
            }

        -- there is no snapshot after the turn
        module _ (after : Seats D) (user : user_of after ≡ user_of before)
            (seats : after.places.seats.items ≡ set before.places.seats.items place next)
            (shots : after.snapshots.items ≡ before.snapshots.items) where
          old_shots : after.snapshots.items ≡ set before.snapshots.items place shot
          old_shots = shots ∙ sym (set_same before.snapshots.items place shot shot_at)

          pub old_seats : IsSeatsOf d server after
          old_seats = reseated shot after user seats old_shots (record {
            facts = shown.facts;
            seen = shown.seen;
            mine = same.caller ∙ shown.mine;
            known = same.fixed ∙ shown.known;
            begins = begins_then shown.seen (front_of seat) (front_of next) shown.begins turn.grows.begins;
            played = shown.played;
            stands = shown.stands;
          })

          pub old_halfway : HalfwayAt d (user_of before) (sight_at before) (sight_at after) wall ask
          old_halfway = inr (record {
            turn = turn.turn;
            made = makes_turn shot after user seats old_shots;
            shown = inr (ap (λ (s : Sight). s.leaves) (sight_then shot after user seats old_shots)
                ∙ sym (ap (λ (s : Sight). s.leaves) sight_here));
            elsewhere = elsewhere shot after user seats old_shots;
          })

-- What a whole run did, and what it came to.
use Rattle.std.proofs.Common.{◌≡◌, ◌∙◌, ℕ, zero, suc, ◌+◌, ◌<◌, ◌≤◌, Bool, cond, List, [], ◌∷◌, ◌++◌, length, get_or, map, Some, refl, sym, ap, subst, inl, inr, eq-eqb, ne_eqb, arith}
use Rattle.std.specs.Prelude.{nat_eq, slice_get, if◌then◌else◌}
use Rattle.std.specs.List.{All, AllByRecursion, AllZip, Contains}
use Rattle.std.proofs.lemmas.Bool.{cases_eq}
use Rattle.std.proofs.lemmas.List.Elements.{recursion_from_All}
use Rattle.fr_digest.specs.Digest.{Digest}
use Rattle.fr_edges.specs.Wire.{WireView}
use Rattle.hall_core.specs.Standing as standing
use Rattle.lms_tree.specs.Valid.{Key}
use Rattle.signed_ops.specs.Signed.{key_of}
use Rattle.world_book.specs.declared.book.UserBook.{UserBook}
use Rattle.world_book.specs.declared.world.World.{World}
use Rattle.client_core.specs.Clients.{Standing}
use Rattle.client_core.specs.Keeping.{users_of}
use Rattle.client_core.specs.Sides.{SideView, place_of, side_of, sides_view}
use Rattle.client_core.proofs.Places.{length-view}
use Rattle.hall_server.specs.declared.seats.Seats.{Seats}
use Rattle.hall_server.specs.declared.server.Server.{Server}
use Rattle.hall_server.specs.Meetings.{AreClosedOn, HasNoStranger, IsClosedOn, IsKept}
use Rattle.hall_server.specs.Seating.{HasUsers, IsSeatsOf, walls_of}
use Rattle.hall_server.specs.Sights.{Sight, sight_at, sight_in, sights_of, user_of, walls_in}
use Rattle.script_read.specs.declared.script.Script.{Script}
use Rattle.script_read.specs.Limits.{IsListedUser, IsListedWall, IsScript}
use Rattle.script_read.specs.Users.{has_user}
use Rattle.script_read.specs.Walls.{has_wall}
use Rattle.session_laws.specs.Doing.{PlainClient, plain, took_view}
use Rattle.session_laws.specs.Histories.{IsUser}
use Rattle.session_laws.specs.Runs.{PhaseRun, RunView}
use Rattle.session_run.specs.Views.{client_of}
use Rattle.run_phases.specs.declared.running.Running.{Running}
use Rattle.run_phases.specs.Members.{Member, member_at, members, times, wire_at}
use Rattle.run_phases.specs.Members as runs
use Rattle.run_phases.specs.Phases.{AreMembers, KeepsUsers, Played, members_of, run_view}
use Rattle.run_phases.specs.Tasks.{tasks_from}
use Rattle.run_phases.proofs.Boarding.{even-of}
use Rattle.run_phases.proofs.Launching.{each-so, once-before}
use Rattle.run_phases.proofs.Staying.{Same}
use Rattle.run_phases.proofs.Tallies.{times-more, times-other}
use Rattle.run_start.specs.Begins.{Begins, opening_sights, sight_of}
use Rattle.run_start.specs.declared.begun.Start.{Start}
use Rattle.run_start.specs.Clients.{opening_client}
use Rattle.run_start.specs.Keys.{facts_at, keys_in, notes_in, user_key}
use Rattle.run_start.specs.Numbers.{Lists, the_user}
use Rattle.run_start.proofs.Opening.{own-key}
use Rattle.run_end.specs.Ends.{HasEnded, IsAmong, book_in}
use Rattle.run_script.specs.declared.closing.Ran.{Ran}
use Rattle.run_script.specs.Order.{Closes}
use Rattle.run_script.specs.Runs.{IsBookOf, IsHallOf, RunOf, opening_run}
use Rattle.run_script.proofs.Ending.{all-same, members-at, ran-of, seated-once, user-so, with-first}
use Rattle.run_script.proofs.Numbers.{listed-once, once-rising}
use Rattle.run_script.proofs.Opening.{at-opened, unseen-open}
use Rattle.run_script.proofs.Halls.{closed-at, hall-of, zip-users}
use Rattle.run_script.proofs.Together.{among-all, clients-at, members-found, some-users}

-- ---- halls

-- what each of these seats' users knows of the walls is what the halls end
abbrev pub Closed : Digest → List Member → List ℕ → List standing.Hall → ℕ → Type 0
Closed d now walls halls user = AllZip (λ (w : ℕ) (h : standing.Hall). IsClosedOn d user
    ((member_at user now).seat w) h) walls halls

module _ {D : Type 0} where
  seats-found : (now : List Member) (cs : List Standing) (ss : List (Seats D)) → length cs ≡ length ss
      → AllByRecursion (λ (m : Member). member_at m.user now ≡ m) (members cs ss)
      → AllByRecursion (λ (s : Seats D). (member_at (user_of s) now).seat ≡ sight_at s) ss
  seats-found now cs [] even all = tt
  seats-found now [] (s ∷ ss) even all = absurd (omega (even, arith))
  seats-found now (c ∷ cs) (s ∷ ss) even all =
      (ap (λ (m : Member). m.seat) all.0, seats-found now cs ss (omega (even, arith)) all.1)

  seats-closed : (d : Digest) (server : Server D) (now : List Member) (walls : List ℕ) (halls : List standing.Hall)
      (ss : List (Seats D)) → walls_of server ≡ walls → ((w : ℕ) → times w walls ≤ 1)
      → AllByRecursion (λ (s : Seats D). (member_at (user_of s) now).seat ≡ sight_at s) ss
      → AllByRecursion (IsSeatsOf d server) ss → AllByRecursion (AreClosedOn d halls) ss
      → AllByRecursion (Closed d now walls halls) (map user_of ss)
  seats-closed d server now walls halls [] are once found seats closed = tt
  seats-closed d server now walls halls (s ∷ ss) are once found seats closed =
      let own : walls_in (sights_of s) ≡ walls = seats.0.walls ∙ are in
      let all = closed-at d (user_of s) (sights_of s) [] (sights_of s) halls refl
      (λ w. subst (λ (ws : List ℕ). times w ws ≤ 1) (sym own) (once w)) closed.0 in (
        subst (λ (f : ℕ → Sight). AllZip (λ (w : ℕ) (h : standing.Hall). IsClosedOn d (user_of s) (f w) h) walls halls)
            (sym found.0)
            (subst (λ (ws : List ℕ). AllZip (λ (w : ℕ) (h : standing.Hall). IsClosedOn d (user_of s) (sight_at s w) h) ws
            halls) own all),
        seats-closed d server now walls halls ss are once found.1 seats.1 closed.1,
      )

-- ---- the opening sights

facts-open : (s : Script) (keys : List (ℕ × Key)) (ws : List ℕ) (wall : ℕ) → times wall ws ≡ 1
    → (sight_in (map (λ (n : ℕ). sight_of (facts_at s keys n)) ws) wall).facts ≡ facts_at s keys wall
facts-open s keys [] wall one = absurd (omega (one, arith))
facts-open s keys (w ∷ ws) wall one = elim (cases_eq w wall) [
  | inl here ↦
      ap (λ (b : Bool). (cond b (sight_of (facts_at s keys w))
      (sight_in (map (λ (n : ℕ). sight_of (facts_at s keys n)) ws) wall)).facts) (eq-eqb w wall here)
      ∙ ap (facts_at s keys) here
  | inr ne ↦
      let more = times-more wall w ws in
      let other = times-other wall w ne in
      ap (λ (b : Bool). (cond b (sight_of (facts_at s keys w))
      (sight_in (map (λ (n : ℕ). sight_of (facts_at s keys n)) ws) wall)).facts) (ne_eqb w wall ne)
      ∙ facts-open s keys ws wall (omega (one, more, other, arith))
]

module _ (d : Digest) (s : Script) (u : ℕ) (us : List ℕ) (start end : RunView)
    (p : Played d (u ∷ us) 1 s.phases start end) (unseen : (user wall : ℕ) → (start.seat user wall).front ≡ []) where
  pub zip-halls : (ws : List ℕ) (halls : List standing.Hall)
      → AllByRecursion (λ (w : ℕ). (user : ℕ) → IsUser (u ∷ us) user
      → (start.seat user w).facts ≡ facts_at s (keys_in s (u ∷ us)) w) ws
      → AllZip (λ (w : ℕ) (h : standing.Hall). (user : ℕ) → IsUser (u ∷ us) user
      → IsClosedOn d user (end.seat user w) h) ws halls
      → AllByRecursion (IsKept d) halls → AllByRecursion (HasNoStranger (u ∷ us)) halls
      → AllZip (IsHallOf d s (u ∷ us) start p.run.heards) ws halls
  zip-halls [] [] facts closed kept known = tt
  zip-halls [] (h ∷ halls) facts closed kept known = absurd closed
  zip-halls (w ∷ ws) [] facts closed kept known = absurd closed
  zip-halls (w ∷ ws) (h ∷ halls) facts closed kept known = (
    hall-of d s u us start end p unseen w h facts.0 closed.0 kept.0 known.0,
    zip-halls ws halls facts.1 closed.1 kept.1 known.1,
  )

-- ---- books

-- the first side is that of its wall
first-side : (xs : List SideView) → 0 < length xs → (x : SideView) × (side_of x.known.wall xs ≡ Some x)
first-side [] some = absurd (omega (some, arith))
first-side (x ∷ xs) some = (
  x,
  ap (λ (b : Bool). slice_get (x ∷ xs) (if b then 0 else suc (place_of x.known.wall xs)))
      (eq-eqb x.known.wall x.known.wall refl),
)

some-same : {A : Type 0} (x y : A) → Some x ≡ Some y → x ≡ y
some-same x y e = cc

module _ (d : Digest) (s : Script) (users walls : List ℕ) (end : RunView) where
  book-of : (n : ℕ) (c : Standing) → Contains users n → Same (plain (opening_client s users walls n)) (client_of c)
      → client_of c ≡ end.client n → HasEnded d c → IsAmong (notes_in s walls) (keys_in s users) c
      → IsBookOf s end n c.book
  book-of n c there same at ended among =
      let some : 0 < length (sides_view c.sides) =
      (let long = length-view c.sides in let more = among.some in omega (long, more, arith)) in
      let first = first-side (sides_view c.sides) some in
      let user : c.book.user ≡ n = same.user in
      let found : key_of (users_of (sides_view c.sides)) c.book.user ≡ Some c.book.key =
      ended.key first.0.known.wall first.0 first.1 in
      let known : key_of (users_of (sides_view c.sides)) c.book.user ≡ Some (user_key s n) =
      (λ i. key_of (among.users_are i) (user i)) ∙ own-key s users n there in
      record {
        user_is = user;
        key = some-same c.book.key (user_key s n) (sym found ∙ known);
        rogue = same.rogue;
        took = ap (λ (x : PlainClient). x.took) at;
        signed = ap (λ (x : PlainClient). x.signed) at;
      }

  pub zip-books : (ns : List ℕ) (cs : List Standing) → AllByRecursion (Contains users) ns
      → AllZip (λ (n : ℕ) (c : Standing). Same (plain (opening_client s users walls n)) (client_of c)) ns cs
      → AllZip (λ (n : ℕ) (c : Standing). client_of c ≡ end.client n) ns cs → AllByRecursion (HasEnded d) cs
      → AllByRecursion (IsAmong (notes_in s walls) (keys_in s users)) cs
      → AllZip (IsBookOf s end) ns (map book_in cs)
  zip-books [] [] there same at ended among = tt
  zip-books [] (c ∷ cs) there same at ended among = absurd same
  zip-books (n ∷ ns) [] there same at ended among = absurd same
  zip-books (n ∷ ns) (c ∷ cs) there same at ended among = (
    book-of n c there.0 same.0 at.0 ended.0 among.0,
    zip-books ns cs there.1 same.1 at.1 ended.1 among.1,
  )

-- ---- the run

module _ (s : Script) (is : IsScript s) {D W : Type 0} (d : Digest) (view : W → WireView) (start : Start D)
    (b : Begins d s start) (run now : Running D W) (clients : run.clients ≡ start.clients)
    (seats : run.seats ≡ start.seats) (sixteen : length run.wires.items ≡ 16) (none : run.outcomes.items ≡ [])
    (played : (u : ℕ) (users : List ℕ)
    → ((user : ℕ) → IsUser (u ∷ users) user → times user (map user_of run.seats.items) ≡ 1)
    → Played d (u ∷ users) 1 s.phases (run_view view run) (run_view view now))
    (keeps : KeepsUsers d start.server run now) (users : List ℕ) (same : users ≡ b.users) (ran : Ran D W)
    (closes : Closes d start.server users start.notes now ran) where
  abbrev first-run : RunView
  first-run = opening_run s b.users b.walls (map view run.wires.items)

  opening : run_view view run ≡ first-run
  opening = λ i. runs.run_of
      (members-at s is d view start b run now clients seats sixteen i) (map view run.wires.items) (none i)

  listed-users : AllByRecursion (IsListedUser s) b.users
  listed-users = recursion_from_All (IsListedUser s) b.users b.all_users.each

  once-users : (user : ℕ) → IsListedUser s user → times user b.users ≡ 1
  once-users user there = listed-once (has_user s.users) b.users b.all_users user there

  module _ (u : ℕ) (us : List ℕ) (first : b.users ≡ u ∷ us) where
    is-listed : (user : ℕ) → IsUser (u ∷ us) user → IsListedUser s user
    is-listed user one =
        user-so (IsListedUser s) (u ∷ us) user (subst (AllByRecursion (IsListedUser s)) first listed-users) one

    played-so : Played d (u ∷ us) 1 s.phases first-run (run_view view now)
    played-so =
        subst (λ (r : RunView). Played d (u ∷ us) 1 s.phases r (run_view view now)) opening
        (played u us (λ user one. seated-once s is d view start b run now clients seats sixteen user (is-listed user one)))

    facts-at : (w : ℕ) → times w b.walls ≡ 1 → (user : ℕ) → IsUser (u ∷ us) user
        → (first-run.seat user w).facts ≡ facts_at s (keys_in s (u ∷ us)) w
    facts-at w once user one =
        ap (λ (m : Member). (m.seat w).facts) (at-opened s is b.users b.walls b.all_users b.all_walls b.users user
        (once-users user (is-listed user one)))
        ∙ facts-open s (keys_in s b.users) b.walls w once
        ∙ ap (λ (ns : List ℕ). facts_at s (keys_in s ns) w) first

    closed-users : AllByRecursion (Closed d (members_of now) b.walls ran.halls.items) (u ∷ us)
    closed-users =
        let o = closes.order in
        subst (AllByRecursion (Closed d (members_of now) b.walls ran.halls.items)) (o.seated ∙ same ∙ first)
        (seats-closed d start.server (members_of now) b.walls ran.halls.items closes.seats b.walls_are
        (λ w. once-rising w b.walls b.all_walls.rise)
        (seats-found (members_of now) closes.clients closes.seats (even-of closes.clients closes.seats o.same)
        (members-found d start.server users now closes.last closes.clients closes.seats keeps.members o))
        o.seats_are (recursion_from_All (AreClosedOn d ran.halls.items) closes.seats closes.closed))

    halls-are : AllZip (IsHallOf d s b.users first-run played-so.run.heards) b.walls ran.halls.items
    halls-are =
        subst (λ (ns : List ℕ). AllZip (IsHallOf d s ns first-run played-so.run.heards) b.walls ran.halls.items)
        (sym first)
        (zip-halls d s u us first-run (run_view view now) played-so
        (λ user wall. unseen-open s is b.users b.walls b.all_users b.all_walls b.users user wall) b.walls
        ran.halls.items
        (each-so (λ (w : ℕ). IsListedWall s w) (λ (w : ℕ). (user : ℕ) → IsUser (u ∷ us) user
        → (first-run.seat user w).facts ≡ facts_at s (keys_in s (u ∷ us)) w) b.walls
        (λ w there. facts-at w (listed-once (has_wall s.walls) b.walls b.all_walls w there))
        (recursion_from_All (IsListedWall s) b.walls b.all_walls.each))
        (zip-users u us (λ (user w : ℕ) (h : standing.Hall). IsClosedOn d user ((member_at user (members_of now)).seat w) h)
        b.walls ran.halls.items
        (λ user one. user-so (Closed d (members_of now) b.walls ran.halls.items) (u ∷ us) user closed-users one))
        (recursion_from_All (IsKept d) ran.halls.items closes.kept)
        (recursion_from_All (HasNoStranger (u ∷ us)) ran.halls.items
        (closes.known (u ∷ us) (subst (HasUsers start.server) first b.users_are))))

    books-are : AllZip (IsBookOf s (run_view view now)) b.users ran.world.users
    books-are =
        let o = closes.order in
        let at = subst (λ (ns : List ℕ). AllZip (λ (n : ℕ) (c : Standing). client_of c
        ≡ (member_at n (members_of now)).client) ns closes.clients) same
        (clients-at d start.server users now closes.last closes.clients closes.seats keeps.members o) in
        let alike = all-same s is d view start b run now clients seats sixteen (tasks_from 1 s.phases)
        (ran-of s is d view start b run now clients seats sixteen played) b.users closes.clients listed-users at in
        subst (AllZip (IsBookOf s (run_view view now)) b.users)
        (sym (ap (λ (w : World). w.users) closes.comes.world))
        (zip-books d s b.users b.walls (run_view view now) b.users closes.clients
        (each-so (IsListedUser s) (Contains b.users) b.users (λ n there. b.all_users.all n there) listed-users) alike at
        closes.comes.ended
        (among-all s is b.users b.walls b.all_users b.all_walls b.users closes.clients alike))

    whole-run : RunOf d view s run.wires.items ran
    whole-run =
        let o = closes.order in
        let comes = closes.comes in
        record {
          users = b.users;
          walls = b.walls;
          all_users = b.all_users;
          all_walls = b.all_walls;
          end = run_view view now;
          run = played-so.run;
          outcomes = comes.commands ∙ ap (λ (os : _). os.items) o.outcomes;
          wires_are = λ session. ap (λ (ws : _). wire_at session (map view ws.items)) (sym (comes.wires ∙ o.wires));
          sixteen = ap (λ (ws : _). length ws.items) (comes.wires ∙ o.wires) ∙ keeps.wires;
          halls = halls-are;
          books = books-are;
          notes = ap (λ (w : World). w.walls) comes.world ∙ b.notes;
          kept = comes.kept;
          audited = comes.audited;
          ends = comes.ends;
        }

  pub run-is : RunOf d view s run.wires.items ran
  run-is =
      with-first (RunOf d view s run.wires.items ran) b.users (some-users s is b.users b.walls b.all_users b.all_walls)
      (λ u us first. whole-run u us first)

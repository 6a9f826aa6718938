-- The clients of a run that ends are together: each is as its user's was at first, but for what it accepted and signed.
use Rattle.std.proofs.Common.{◌≡◌, ◌∙◌, ℕ, zero, suc, ◌+◌, ◌<◌, ◌≤◌, Bool, true, false, List, [], ◌∷◌, ◌++◌, length, map, Some, refl, sym, ap, subst, append_assoc, eq-eqb, arith}
use Rattle.std.specs.Prelude.{nat_eq, ◌||◌}
use Rattle.std.specs.List.{AllByRecursion, AllZip, Contains, list_any}
use Rattle.fr_digest.specs.Digest.{Digest}
use Rattle.lms_tree.specs.Valid.{Key}
use Rattle.world_book.specs.declared.world.WallNote.{WallNote}
use Rattle.world_book.specs.Records.{Rise, note_of}
use Rattle.client_core.specs.Clients.{Standing, opening_side}
use Rattle.client_core.specs.Keeping.{note_of_side, notes_of, users_of}
use Rattle.client_core.specs.Sides.{SideView, side_view, sides_view}
use Rattle.client_core.proofs.Places.{length-view}
use Rattle.hall_server.specs.declared.seats.Seats.{Seats}
use Rattle.hall_server.specs.declared.server.Server.{Server}
use Rattle.hall_server.specs.Sights.{user_of}
use Rattle.script_read.specs.declared.script.Script.{Script}
use Rattle.script_read.specs.declared.script.ScriptUser.{ScriptUser}
use Rattle.script_read.specs.declared.script.ScriptWall.{ScriptWall}
use Rattle.script_read.specs.Limits.{IsScript}
use Rattle.script_read.specs.Users.{has_user}
use Rattle.script_read.specs.Walls.{has_wall}
use Rattle.session_laws.specs.Doing.{Heard, PlainClient, last, plain, stream}
use Rattle.session_run.specs.Views.{client_of}
use Rattle.run_phases.specs.declared.running.Running.{Running}
use Rattle.run_phases.specs.Members.{Member, member_at, members, times}
use Rattle.run_phases.specs.Members as members_
use Rattle.run_phases.specs.Phases.{AreMembers, members_of}
use Rattle.run_phases.proofs.Boarding.{even-of}
use Rattle.run_phases.proofs.Landing.{length-map}
use Rattle.run_phases.proofs.Launching.{each-so, once-before}
use Rattle.run_phases.proofs.Staying.{Same, last-same}
use Rattle.run_phases.proofs.Tallies.{at-here, tally-more, times-here}
use Rattle.run_start.specs.Clients.{opening_client, shared_in, start_on}
use Rattle.run_start.specs.Keys.{keys_in, note_at, notes_in}
use Rattle.run_start.specs.Numbers.{Lists, the_user}
use Rattle.run_end.specs.Ends.{AreTogether, IsAmong, user_in}
use Rattle.run_script.specs.Order.{InOrder}
use Rattle.run_script.proofs.Opening.{map-map, map-same, sides-are}

or-true : (a b : Bool) → a ≡ true → (a || b) ≡ true
or-true a b is = ap (λ (x : Bool). x || b) is

-- ---- some users and some walls

within : (ns : List ℕ) (n : ℕ) → Contains ns n → 0 < length ns
within [] n c = absurd (let lt = c.1 in omega (lt, arith))
within (m ∷ ns) n c = omega arith

some-listed : {A : Type 0} (number : A → ℕ) (xs : List A) (ns : List ℕ) → 0 < length xs
    → ((n : ℕ) → list_any (λ (x : A). nat_eq (number x) n) xs ≡ true → Contains ns n) → 0 < length ns
some-listed number [] ns some all = absurd (omega (some, arith))
some-listed {A} number (x ∷ xs) ns some all =
    within ns (number x) (all (number x) (or-true (nat_eq (number x) (number x))
    (list_any (λ (y : A). nat_eq (number y) (number x)) xs) (eq-eqb (number x) (number x) refl)))

module _ (s : Script) (is : IsScript s) (users walls : List ℕ) (all_users : Lists (has_user s.users) users)
    (all_walls : Lists (has_wall s.walls) walls) where
  pub some-users : 0 < length users
  some-users =
      some-listed (λ (u : ScriptUser). u.user) s.users users (let few = is.users.few.0 in omega (few, arith))
      all_users.all

  pub some-walls : 0 < length walls
  some-walls =
      some-listed (λ (w : ScriptWall). w.wall) s.walls walls (let few = is.walls.few.0 in omega (few, arith))
      all_walls.all

-- ---- members by their places

pub found-all : (whole front ms : List Member) → whole ≡ front ++ ms → ((u : ℕ) → times u (members_.users_of whole) ≤ 1)
    → AllByRecursion (λ (m : Member). member_at m.user whole ≡ m) ms
found-all whole front [] is once = tt
found-all whole front (m ∷ ms) is once =
    let most : times m.user (members_.users_of (front ++ m ∷ ms)) ≤ 1 =
    subst (λ (l : List Member). times m.user (members_.users_of l) ≤ 1) is (once m.user) in
    let sum = tally-more m.user front m ms in
    let one = times-here m.user m.user refl in
    let none : times m.user (members_.users_of front) ≡ 0 = omega (most, sum, one, arith) in (
      ap (member_at m.user) is ∙ at-here m.user m front ms none refl,
      found-all whole (front ++ m ∷ []) ms (is ∙ sym (append_assoc front (m ∷ []) ms)) once,
    )

module _ {D : Type 0} where
  at-places : (now : List Member) (cs : List Standing) (ss : List (Seats D)) (ns : List ℕ) → map user_of ss ≡ ns
      → length cs ≡ length ss → AllByRecursion (λ (m : Member). member_at m.user now ≡ m) (members cs ss)
      → AllZip (λ (n : ℕ) (c : Standing). client_of c ≡ (member_at n now).client) ns cs
  at-places now [] [] [] seated even all = tt
  at-places now [] [] (n ∷ ns) seated even all = absurd cc
  at-places now [] (t ∷ ss) ns seated even all = absurd (omega (even, arith))
  at-places now (c ∷ cs) [] ns seated even all = absurd (omega (even, arith))
  at-places now (c ∷ cs) (t ∷ ss) [] seated even all = absurd cc
  at-places now (c ∷ cs) (t ∷ ss) (n ∷ ns) seated even all =
      let user : user_of t ≡ n = cc in
      let rest : map user_of ss ≡ ns = cc in (
        sym (ap (λ (m : Member). m.client) (sym (ap (λ (u : ℕ). member_at u now) user) ∙ all.0)),
        at-places now cs ss ns rest (omega (even, arith)) all.1,
      )

module _ {D W : Type 0} (d : Digest) (server : Server D) (users : List ℕ) (now end : Running D W)
    (clients : List Standing) (seats : List (Seats D)) (are : AreMembers d server now.clients.items now.seats.items)
    (o : InOrder d server users now end clients seats) where
  pub members-found : AllByRecursion (λ (m : Member). member_at m.user (members_of now) ≡ m) (members clients seats)
  members-found =
      let whole = members_of end ++ members clients seats in
      let once = λ (u : ℕ). let le : times u (members_.users_of whole) ≤ 1 =
      subst (λ (n : ℕ). n ≤ 1) (o.moved.counted u) (once-before d server now are u) in le in
      each-so (λ (m : Member). member_at m.user whole ≡ m) (λ (m : Member). member_at m.user (members_of now) ≡ m)
      (members clients seats) (λ m at. o.moved.same m.user ∙ at)
      (found-all whole (members_of end) (members clients seats) refl once)

  -- each client is the one that its user had in the run
  pub clients-at : AllZip (λ (n : ℕ) (c : Standing). client_of c ≡ (member_at n (members_of now)).client) users clients
  clients-at = at-places (members_of now) clients seats users o.seated (even-of clients seats o.same) members-found

-- ---- what clients know

heads : (xs : List SideView) (k : List (ℕ × Key)) (ks : List (List (ℕ × Key)))
    → map (λ (x : SideView). x.known.users) xs ≡ k ∷ ks → users_of xs ≡ k
heads [] k ks e = absurd cc
heads (x ∷ xs) k ks e = cc

module _ (s : Script) (is : IsScript s) (users walls : List ℕ) (all_users : Lists (has_user s.users) users)
    (all_walls : Lists (has_wall s.walls) walls) where
  notes-open : (n : ℕ) → map note_of_side (opening_client s users walls n).sides ≡ notes_in s walls
  notes-open n =
      ap (map note_of_side) (sides-are s is users walls all_users all_walls n)
      ∙ map-map (λ (w : ℕ). opening_side n (start_on s (shared_in s users walls) (the_user s n) (note_at s w)))
      note_of_side walls

  keys-open : (n : ℕ) → map (λ (x : SideView). x.known.users) (opening_client s users walls n).sides
      ≡ map (λ (w : ℕ). keys_in s users) walls
  keys-open n =
      ap (map (λ (x : SideView). x.known.users)) (sides-are s is users walls all_users all_walls n)
      ∙ map-map (λ (w : ℕ). opening_side n (start_on s (shared_in s users walls) (the_user s n) (note_at s w)))
      (λ (x : SideView). x.known.users) walls

  head-keys : (xs : List SideView) (ws : List ℕ) → 0 < length ws
      → map (λ (x : SideView). x.known.users) xs ≡ map (λ (w : ℕ). keys_in s users) ws → users_of xs ≡ keys_in s users
  head-keys xs [] some e = absurd (omega (some, arith))
  head-keys xs (w ∷ ws) some e = heads xs (keys_in s users) (map (λ (v : ℕ). keys_in s users) ws) e

  -- a client that has only accepted and signed since the beginning
  among : (n : ℕ) (c : Standing) → Same (plain (opening_client s users walls n)) (client_of c)
      → IsAmong (notes_in s walls) (keys_in s users) c
  among n c same =
      let notes : notes_of (sides_view c.sides) ≡ notes_in s walls = same.notes ∙ notes-open n in
      record {
        some =
            (let long = length-view c.sides in
            let a : length (notes_of (sides_view c.sides)) ≡ length (notes_in s walls) = ap length notes in
            let b = length-map note_of_side (sides_view c.sides) in
            let e = length-map (note_at s) walls in
            let some = some-walls s is users walls all_users all_walls in omega (long, a, b, e, some, arith));
        users_are =
            head-keys (sides_view c.sides) walls (some-walls s is users walls all_users all_walls)
            (same.users ∙ keys-open n);
        noted = λ wall note at. subst (λ (l : List WallNote). note_of l wall ≡ Some note) notes at;
      }

  pub among-all : (ns : List ℕ) (cs : List Standing)
      → AllZip (λ (n : ℕ) (c : Standing). Same (plain (opening_client s users walls n)) (client_of c)) ns cs
      → AllByRecursion (IsAmong (notes_in s walls) (keys_in s users)) cs
  among-all [] [] all = tt
  among-all [] (c ∷ cs) all = absurd all
  among-all (n ∷ ns) [] all = absurd all
  among-all (n ∷ ns) (c ∷ cs) all = (among n c all.0, among-all ns cs all.1)

  numbers-of : (ns : List ℕ) (cs : List Standing)
      → AllZip (λ (n : ℕ) (c : Standing). Same (plain (opening_client s users walls n)) (client_of c)) ns cs
      → map user_in cs ≡ ns
  numbers-of [] [] all = refl
  numbers-of [] (c ∷ cs) all = absurd all
  numbers-of (n ∷ ns) [] all = absurd all
  numbers-of (n ∷ ns) (c ∷ cs) all = λ i. all.0.user i ∷ numbers-of ns cs all.1 i

  pub together-of : (cs : List Standing)
      → AllZip (λ (n : ℕ) (c : Standing). Same (plain (opening_client s users walls n)) (client_of c)) users cs
      → AreTogether (notes_in s walls) cs
  together-of cs all =
      let numbers = numbers-of users cs all in
      record {
        users = subst Rise (sym numbers) all_users.rise;
        walls = subst Rise (sym (map-map (note_at s) (λ (n : WallNote). n.wall) walls ∙ map-same walls))
            all_walls.rise;
        keys = keys_in s users;
        listed = map-map _ (λ (p : ℕ × Key). p.0) users ∙ map-same users ∙ sym numbers;
        each = among-all users cs all;
      }

-- A script that was run over straight wires is an honest run.
use Rattle.std.proofs.Common.{◌≡◌, ◌∙◌, ◌⊎◌, inl, inr, ℕ, zero, suc, ◌<◌, ◌≤◌, Bool, true, cond, false, List, [], ◌∷◌, ◌++◌, length, map, take, Some, None, refl, sym, ap, subst, eq-eqb, ne_eqb, arith}
use Rattle.std.specs.Prelude.{find, nat_eq, slice_get, slice_index_or, if◌then◌else◌}
use Rattle.std.specs.List.{AllByRecursion, AllZip, Contains, list_any, scan}
use Rattle.std.proofs.lemmas.Bool.{cases_eq}
use Rattle.std.proofs.lemmas.List.Elements.{recursion_from_All}
use Rattle.fr_bytes.proofs.Lists.{each-append}
use Rattle.fr_digest.specs.Collision.{Strings}
use Rattle.fr_digest.specs.Digest.{Digest}
use Rattle.fr_edges.specs.Wire.{WireView}
use Rattle.op_types.specs.Spelling.{IsLeaf}
use Rattle.op_types.specs.declared.op.Leaf.{Leaf}
use Rattle.world_book.specs.declared.book.UserBook.{UserBook}
use Rattle.world_book.specs.declared.world.WallNote.{WallNote}
use Rattle.world_book.specs.declared.world.World.{World}
use Rattle.world_book.specs.Records.{Rise, note_of}
use Rattle.tree_model.specs.declared.entry.Entry.{Entry}
use Rattle.tree_model.specs.AccessList.{IsRising}
use Rattle.world_book.proofs.Places.{each-of}
use Rattle.hall_core.specs.declared.ask.Called.{Called}
use Rattle.hall_core.specs.declared.facts.WallFacts.{WallFacts}
use Rattle.hall_core.specs.Calls.{play, turns}
use Rattle.hall_core.proofs.Honesty.{honest-kept}
use Rattle.hall_core.specs.Standing as standing
use Rattle.script_form.specs.declared.outcome.AuditLine.{AuditLine}
use Rattle.script_form.specs.declared.outcome.AuditLine.TheVariants as lines
use Rattle.script_form.specs.declared.outcome.Outcomes.{Outcomes}
use Rattle.script_form.specs.Status.{fails}
use Rattle.audit_run.specs.Answer.{count_grounded, count_records}
use Rattle.script_read.specs.declared.script.Script.{Script}
use Rattle.script_read.specs.declared.script.ScriptUser.{ScriptUser}
use Rattle.script_read.specs.declared.script.ScriptWall.{ScriptWall}
use Rattle.script_read.specs.Limits.{IsListedUser, IsListedWall, IsScript}
use Rattle.script_read.specs.Users.{has_user}
use Rattle.session_laws.specs.Doing.{Did, Exchange, dids, on, Heard, PlainClient, Task, all_dids, client_of, did_behind, exchanges_of, over, plain, stream, wall_of}
use Rattle.session_laws.specs.Halves.{Delivery, Serves}
use Rattle.session_laws.specs.Histories.{IsUser, Ordered}
use Rattle.session_laws.specs.Runs.{RunView}
use Rattle.run_phases.specs.Members.{Member, wire_at}
use Rattle.fr_bytes.specs.Bytes.{Text}
use Rattle.key_graph.specs.declared.change.Setting.{Setting}
use Rattle.key_graph.specs.KeyBook.{new_book}
use Rattle.key_graph.specs.KeyTree.{leaf_text}
use Rattle.key_graph.specs.Reach.{tree_of}
use Rattle.client_core.specs.Clients.{opening_keys}
use Rattle.client_core.specs.Keys.{KeysView, leaf_of, member, owner, secret_of}
use Rattle.run_phases.specs.Tasks.{numbers_from}
use Rattle.run_start.specs.Clients.{opening_client, owned_by, owned_of, secrets_in, shared_in}
use Rattle.run_start.proofs.Chosen.{known-user, known-wall}
use Rattle.run_start.specs.Keys.{facts_at, keys_in, note_at}
use Rattle.run_start.specs.Numbers.{no_wall, the_user, the_wall}
use Rattle.run_start.proofs.Listing.{found, there-listed}
use Rattle.run_phases.proofs.Landing.{length-map}
use Rattle.run_end.specs.Ends.{TellsOf}
use Rattle.run_script.specs.Runs.{IsBookOf, IsHallOf, opening_run}
use Rattle.run_script.proofs.Ending.{user-so}
use Rattle.run_script.proofs.Halls.{contained}
use Rattle.run_script.proofs.Numbers.{listed-once}
use Rattle.run_script.proofs.Opening.{at-opened, sides-are}
use Rattle.run_laws.specs.Following.{KeepsUp}
use Rattle.run_laws.specs.HonestRun.{IsHonestWall}
use Rattle.run_laws.specs.Listed.{AdmitsUsers}
use Rattle.run_laws.specs.Standing as ends
use Rattle.run_laws.specs.Standing.{IsHonestRun, IsNoted, IsSoundRun, counts_of}
use Rattle.run_laws.specs.Straight.{AreStraight, EndsByHall, IsUntouched}
use Rattle.run_laws.specs.Reading.{AreByList, IsPosted}
use Rattle.run_laws.specs.Telling.{TellsAll}
use Rattle.run_laws.specs.Untampered.{IsStraight, KeepsAlong}
use Rattle.run_laws.specs.Whole.{Whole}
use Rattle.run_laws.proofs.Ending.{no-clash, no-forgery, run-sound}
use Rattle.run_laws.proofs.Entries.{as-many}
use Rattle.run_laws.proofs.Bases.{AreBased, IsBased}
use Rattle.run_laws.proofs.Fronts.{all-more, all-parts}
use Rattle.run_laws.proofs.Listing.{IsMadeOp, IsPostedOp, exchanges-made, exchanges-posted, user-by-list}
use Rattle.run_laws.proofs.Asks.{ExchangeFor}
use Rattle.op_types.specs.declared.op.Op.{Op}
use Rattle.op_types.specs.Kinds.{is_change}
use Rattle.wall_law.specs.State.{state_of}
use Rattle.wall_law.proofs.Histories.{law-stands}
use Rattle.run_laws.proofs.Openings.{fresh-open, has-note, keeps-open, noted-at, side-on}
use Rattle.run_laws.proofs.Phases.{in-order}
use Rattle.run_laws.proofs.Runs.{leaves-for, user-well}
use Rattle.run_laws.proofs.Signing.{last-later}
use Rattle.run_laws.proofs.Tasks.{IsDoable, script-tasks}

-- ---- lists

-- what holds of the images holds of the elements so
all-map : {A B : Type 0} (f : A → B) (P : B → Type 0) (xs : List A) → AllByRecursion P (map f xs)
    → AllByRecursion (λ (x : A). P (f x)) xs
all-map f P [] all = tt
all-map f P (x ∷ xs) all = (all.0, all-map f P xs all.1)

user-in : (us : List ℕ) (u : ℕ) → Contains us u → IsUser us u
user-in = contained

-- one of the users holds what all do
all-callers : (users : List ℕ) (calls : List Called) → AllByRecursion (λ (e : Called). Contains users e.caller) calls
    → AllByRecursion (λ (call : Called). IsUser users call.caller) calls
all-callers users [] all = tt
all-callers users (call ∷ calls) all = (contained users call.caller all.0, all-callers users calls all.1)

-- ---- numbers

-- a user's entry of an access list, as it were
abbrev entry_by : ℕ → Entry
entry_by n = record { user = n; role = 0; next = 0 }

above-all : (m : ℕ) (ns : List ℕ) → ((j n : ℕ) → slice_get ns j ≡ Some n → m < n)
    → AllByRecursion (λ (e : Entry). m < e.user) (map entry_by ns)
above-all m [] above = tt
above-all m (n ∷ ns) above = (above 0 n refl, above-all m ns (λ j k at. above (suc j) k at))

rising-of : (ns : List ℕ) → Rise ns → IsRising (map entry_by ns)
rising-of [] rise = tt
rising-of (n ∷ ns) rise = (
  above-all n ns (λ j k at. rise 0 (suc j) n k (omega arith) refl at),
  rising-of ns (λ i j a b less at there. rise (suc i) (suc j) a b (omega (less, arith)) at there),
)

-- ---- sessions

-- what holds of the exchanges of each session holds of all
over-all : (P : Exchange → Type 0) (ds : List Did)
    → ((session : ℕ) → 1 ≤ session → session ≤ 16 → AllByRecursion P (exchanges_of (over session ds)))
    → AllByRecursion (λ (x : Did). (1 ≤ x.task.place.session) × (x.task.place.session ≤ 16)) ds
    → AllByRecursion P (exchanges_of ds)
over-all P [] each in' = tt
over-all P (x ∷ ds) each in' =
    let mine : AllByRecursion P (x.exchanges ++ exchanges_of (over x.task.place.session ds)) =
    subst (λ (ys : List Did). AllByRecursion P (exchanges_of ys)) (own x.task.place.session refl)
    (each x.task.place.session in'.0.0 in'.0.1) in
    each-append P x.exchanges (exchanges_of ds)
    (all-parts P x.exchanges (exchanges_of (over x.task.place.session ds)) mine).0
    (over-all P ds rest in'.1)
  where
    own : (session : ℕ) → x.task.place.session ≡ session → over session (x ∷ ds) ≡ x ∷ over session ds
    own session is = ap (λ (b : Bool). cond b (x ∷ over session ds) (over session ds))
        (eq-eqb x.task.place.session session is)

    rest : (session : ℕ) → 1 ≤ session → session ≤ 16 → AllByRecursion P (exchanges_of (over session ds))
    rest session one few = elim (cases_eq x.task.place.session session) [
      | inl is ↦
          let all : AllByRecursion P (x.exchanges ++ exchanges_of (over session ds)) =
          subst (λ (ys : List Did). AllByRecursion P (exchanges_of ys)) (own session is) (each session one few) in
          (all-parts P x.exchanges (exchanges_of (over session ds)) all).1
      | inr ne ↦
          subst (λ (ys : List Did). AllByRecursion P (exchanges_of ys))
          (ap (λ (b : Bool). cond b (x ∷ over session ds) (over session ds)) (ne_eqb x.task.place.session session ne))
          (each session one few)
    ]

-- the tasks of what was done are those that were heard of
all-tasks : (d : Digest) (start : ℕ → PlainClient) (P : Task → Type 0) (earlier hs : List Heard)
    → AllByRecursion (λ (h : Heard). P h.task) hs
    → AllByRecursion (λ (x : Did). P x.task) (scan (λ (zs : List Heard) (h : Heard). zs ++ h ∷ []) (did_behind d start) earlier hs)
all-tasks d start P earlier [] all = tt
all-tasks d start P earlier (h ∷ hs) all = (all.0, all-tasks d start P (earlier ++ h ∷ []) hs all.1)

-- ---- wires

wire-straight : (ws : List WireView) (k : ℕ) (none : WireView) → k < length ws
    → AllByRecursion (λ (wire : WireView). wire.straight ≡ true) ws → (slice_index_or ws k none).straight ≡ true
wire-straight [] k none lt all = absurd (omega (lt, arith))
wire-straight (w ∷ ws) zero none lt all = all.0
wire-straight (w ∷ ws) (suc k) none lt all = wire-straight ws k none (omega (lt, arith)) all.1

session-straight : (ws : List WireView) (session : ℕ) → AreStraight ws → 1 ≤ session → session ≤ 16
    → (wire_at session ws).straight ≡ true
session-straight ws zero is one few = absurd (omega (one, arith))
session-straight ws (suc k) is one few =
    let all = is.sixteen in wire-straight ws k _ (omega (few, all, arith)) is.each

-- ---- halls

-- the entries of the hall of a wall
abbrev entries_at : List ℕ → List standing.Hall → ℕ → List Called
entries_at [] halls wall = []
entries_at (w ∷ ws) [] wall = []
entries_at (w ∷ ws) (h ∷ halls) wall = cond (nat_eq w wall) h.entries (entries_at ws halls wall)

-- A hall of the wall, whose entries these are.
record HasHall (R : ℕ → standing.Hall → Type 0) (wall : ℕ) (entries : List Called) : Type 0 where
  hall : standing.Hall
  is : R wall hall
  entries_are : entries ≡ hall.entries

hall-at : (R : ℕ → standing.Hall → Type 0) (ws : List ℕ) (halls : List standing.Hall) (wall : ℕ) → AllZip R ws halls
    → IsUser ws wall → HasHall R wall (entries_at ws halls wall)
hall-at R [] halls wall zip none = absurd none
hall-at R (w ∷ ws) [] wall zip there = absurd zip
hall-at R (w ∷ ws) (h ∷ halls) wall zip there = elim (cases_eq w wall) [
  | inl is ↦ record {
    hall = h;
    is = subst (λ (v : ℕ). R v h) is zip.0;
    entries_are = ap (λ (b : Bool). cond b h.entries (entries_at ws halls wall)) (eq-eqb w wall is);
  }
  | inr ne ↦
      let rest = hall-at R ws halls wall zip.1 (other there ne) in
      record {
        hall = rest.hall;
        is = rest.is;
        entries_are =
            ap (λ (b : Bool). cond b h.entries (entries_at ws halls wall)) (ne_eqb w wall ne) ∙ rest.entries_are;
      }
]
  where
    other : (w ≡ wall) ⊎ IsUser ws wall → (w ≡ wall → ⊥) → IsUser ws wall
    other (inl is) ne = absurd (ne is)
    other (inr rest) ne = rest

rise-above : (v : ℕ) (ws : List ℕ) → ((j n : ℕ) → slice_get ws j ≡ Some n → v < n) → AllByRecursion (λ (n : ℕ). v < n) ws
rise-above v [] above = tt
rise-above v (w ∷ ws) above = (above 0 w refl, rise-above v ws (λ j n at. above (suc j) n at))

-- what follows of a wall and its hall follows of each
zip-own : (R Q : ℕ → standing.Hall → Type 0) (ws : List ℕ) (halls : List standing.Hall) → Rise ws → AllZip R ws halls
    → ((wall : ℕ) → IsUser ws wall → (hall : standing.Hall) → R wall hall → entries_at ws halls wall ≡ hall.entries
    → Q wall hall) → AllZip Q ws halls
zip-own R Q [] [] rise zip step = tt
zip-own R Q [] (h ∷ hs) rise zip step = absurd zip
zip-own R Q (v ∷ vs) [] rise zip step = absurd zip
zip-own R Q (v ∷ vs) (h ∷ hs) rise zip step = (
  step v (inl refl) h zip.0 (ap (λ (b : Bool). cond b h.entries (entries_at vs hs v)) (eq-eqb v v refl)),
  zip-own R Q vs hs (λ i j a b less at there. rise (suc i) (suc j) a b (omega (less, arith)) at there) zip.1
      (λ wall there hall r same. step wall (inr there) hall r
      (ap (λ (b : Bool). cond b h.entries (entries_at vs hs wall)) (ne_eqb v wall (other wall there)) ∙ same)),
)
  where
    other : (wall : ℕ) → IsUser vs wall → v ≡ wall → ⊥
    other wall there is =
        let less : v < wall = user-so (λ (n : ℕ). v < n) vs wall
        (rise-above v vs (λ j n at. rise 0 (suc j) v n (omega arith) refl at)) there in
        absurd (omega arith)

-- ---- a whole run

module _ (d : Digest) (s : Script) (limits : IsScript s) (wires wires' : List WireView) (w : World)
    (halls : List standing.Hall) (outcomes : Outcomes) (run : Whole d s wires wires' w halls outcomes)
    (straight : AreStraight wires) where
  abbrev users : List ℕ
  users = run.users

  abbrev walls : List ℕ
  walls = run.walls

  abbrev start : RunView
  start = opening_run s users walls wires

  abbrev heards : List Heard
  heards = run.run.heards

  abbrev facts : ℕ → WallFacts
  facts wall = facts_at s (keys_in s users) wall

  abbrev calls : ℕ → List Called
  calls wall = entries_at walls halls wall

  -- ---- tasks

  doable : AllByRecursion (λ (h : Heard). IsDoable users walls h.task) heards
  doable = all-map (λ (h : Heard). h.task) (IsDoable users walls) heards
      (subst (AllByRecursion (IsDoable users walls)) (sym run.run.asked)
      (script-tasks s users walls run.all_users run.all_walls limits))

  all-straight : AllByRecursion IsStraight (exchanges_of (all_dids d start.client heards))
  all-straight = over-all IsStraight (all_dids d start.client heards)
      (λ session one few.
      let half = run.run.wires session in
      all-more (Delivery (start.wire session).straight) IsStraight
      (λ x through. through (session-straight wires session straight one few))
      (exchanges_of (over session (all_dids d start.client heards))) half.through)
      (all-tasks d start.client (λ (t : Task). (1 ≤ t.place.session) × (t.place.session ≤ 16)) [] heards
      (all-more (λ (h : Heard). IsDoable users walls h.task)
      (λ (h : Heard). (1 ≤ h.task.place.session) × (h.task.place.session ≤ 16)) (λ h is. (is.first, is.last)) heards
      doable))

  -- ---- users

  listed : (user : ℕ) → IsUser users user → IsListedUser s user
  listed user there = user-so (IsListedUser s) users user
      (recursion_from_All (IsListedUser s) users run.all_users.each) there

  listed-wall : (wall : ℕ) → IsUser walls wall → IsListedWall s wall
  listed-wall wall there = user-so (IsListedWall s) walls wall
      (recursion_from_All (IsListedWall s) walls run.all_walls.each) there

  opens : (user : ℕ) → IsUser users user → start.client user ≡ plain (opening_client s users walls user)
  opens user there = ap (λ (m : Member). m.client) (at-opened s limits users walls run.all_users run.all_walls users user
      (listed-once (has_user s.users) users run.all_users user (listed user there)))

  owner-there : (wall : ℕ) → IsUser walls wall → IsUser users (facts wall).owner
  unfolding the_wall
  owner-there wall there =
      let one = found (λ (v : ScriptWall). v.wall) (λ (v : ScriptWall). IsListedUser s v.owner) no_wall s.walls wall
      (listed-wall wall there) (recursion_from_All (λ (v : ScriptWall). IsListedUser s v.owner) s.walls limits.owners) in
      contained users (facts wall).owner (run.all_users.all (facts wall).owner one.0)

  -- ---- walls

  few-users : length users ≤ 32
  few-users =
      let most = as-many (map entry_by users) (map (λ (u : ScriptUser). u.user) s.users)
      (rising-of users run.all_users.rise)
      (all-listed users (recursion_from_All (IsListedUser s) users run.all_users.each)) in
      let a = length-map entry_by users in
      let b = length-map (λ (u : ScriptUser). u.user) s.users in
      let few = limits.users.few.1 in
      omega arith
    where
      all-listed : (ns : List ℕ) → AllByRecursion (IsListedUser s) ns
          → AllByRecursion (λ (e : Entry). IsUser (map (λ (u : ScriptUser). u.user) s.users) e.user) (map entry_by ns)
      all-listed [] all = tt
      all-listed (n ∷ ns) all = (
        contained (map (λ (u : ScriptUser). u.user) s.users) n
            (there-listed (λ (u : ScriptUser). u.user) s.users n all.0),
        all-listed ns all.1,
      )

  honest-wall : (wall : ℕ) → IsUser walls wall → IsHonestWall d users start.client heards (facts wall) (calls wall)
  honest-wall wall there =
      let at = hall-at (IsHallOf d s users start heards) walls halls wall run.histories there in
      let hall = at.hall in
      let is = at.is in
      subst (λ (cs : List Called). IsHonestWall d users start.client heards (facts wall) cs) (sym at.entries_are)
      (subst (λ (f : WallFacts). IsHonestWall d users start.client heards f hall.entries) is.facts
      (record {
        few = few-users;
        owner = subst (λ (f : WallFacts). IsUser users f.owner) (sym is.facts) (owner-there wall there);
        admits = all-more (λ (h : Heard). IsDoable users walls h.task)
            (λ (h : Heard). AdmitsUsers users h.task.command) (λ h can. can.admits) heards doable;
        legal = is.kept.legal;
        spelled = subst (AllByRecursion IsLeaf) is.kept.played is.kept.spelled;
        callers = all-callers users hall.entries
            (recursion_from_All (λ (e : Called). Contains users e.caller) hall.entries is.known);
        starts = λ user known. subst (λ (f : WallFacts). KeepsUp d f [] (start.client user)) (sym is.facts)
            (subst (λ (c : PlainClient). KeepsUp d (facts wall) [] c) (sym (opens user known))
            (keeps-open d s limits users walls run.all_users run.all_walls user wall there));
        served = λ user known. subst (λ (v : ℕ). AllZip (Serves d hall.facts)
            (on v (exchanges_of (dids d (start.client user) (stream user heards))))
            (turns d hall.facts user hall.entries)) (sym (ap (λ (f : WallFacts). f.wall) is.facts)) (is.served user known);
        straight = all-straight;
      }))

  -- ---- books

  -- each listed user's book is its client's
  book-there : (us : List ℕ) (bs : List UserBook) (user : ℕ) (book : UserBook) → AllZip (IsBookOf s run.end) us bs
      → find (λ (b : UserBook). nat_eq b.user user) bs ≡ Some book → IsUser us user × IsBookOf s run.end user book
  book-there [] [] user book zip found = absurd cc
  book-there [] (b ∷ bs) user book zip found = absurd zip
  book-there (u ∷ us) [] user book zip found = absurd zip
  book-there (u ∷ us) (b ∷ bs) user book zip found = elim (cases_eq b.user user) [
    | inl is ↦
        let name : u ≡ user = sym zip.0.user_is ∙ is in
        let first : Some b ≡ Some book =
        sym (ap (λ (x : Bool). if x then Some b else find (λ (c : UserBook). nat_eq c.user user) bs)
        (eq-eqb b.user user is)) ∙ found in
        let same : b ≡ book = cc in (
          inl name,
          subst (λ (c : UserBook). IsBookOf s run.end user c) same
              (subst (λ (v : ℕ). IsBookOf s run.end v b) name zip.0),
        )
    | inr ne ↦
        let rest = book-there us bs user book zip.1
        (sym (ap (λ (x : Bool). if x then Some b else find (λ (c : UserBook). nat_eq c.user user) bs)
        (ne_eqb b.user user ne)) ∙ found) in
        (inr rest.0, rest.1)
  ]

  client-end : (user : ℕ) → run.end.client user ≡ client_of d start.client user heards
  client-end user = run.run.clients user

  book-is : (user : ℕ) (book : UserBook) → IsUser users user → IsBookOf s run.end user book
      → ends.IsBookOf (client_of d start.client user heards) book
  book-is user book known is =
      let later = last-later d (stream user heards) (start.client user) in
      record {
        rogue = is.rogue ∙ sym (later.rogue ∙ ap (λ (c : PlainClient). c.rogue) (opens user known));
        took = is.took ∙ ap (λ (c : PlainClient). c.took) (client-end user);
        signed = is.signed ∙ ap (λ (c : PlainClient). c.signed) (client-end user);
      }

  -- ---- the run

  honest-run : IsHonestRun d users start.client heards w facts calls
  honest-run = record {
    names = λ user known. ap (λ (c : PlainClient). c.user) (opens user known);
    listed = λ user book found. (book-there users w.users user book run.books found).0;
    books = λ user book found.
        let there = book-there users w.users user book run.books found in book-is user book there.0 there.1;
    noted = λ wall note noted. sym (ap (λ (n : WallNote). n.wall) (note-is wall note noted));
    owned = λ wall note noted. sym (ap (λ (n : WallNote). n.owner) (note-is wall note noted));
    walls = λ wall note noted. honest-wall wall (note-in wall note noted);
    asked = all-more (λ (h : Heard). IsDoable users walls h.task) (λ (h : Heard). IsUser users h.task.user)
        (λ h is. is.user) heards doable;
    asked_of = all-more (λ (h : Heard). IsDoable users walls h.task) (λ (h : Heard). IsNoted w (wall_of h.task.command))
        (λ h is. (
          note_at s (wall_of h.task.command),
          ap (λ (ns : List WallNote). note_of ns (wall_of h.task.command)) run.notes
              ∙ has-note s walls (wall_of h.task.command) is.wall,
        )) heards doable;
  }
    where
      note-in : (wall : ℕ) (note : WallNote) → note_of w.walls wall ≡ Some note → IsUser walls wall
      note-in wall note noted = (noted-at s walls wall note
          (sym (ap (λ (ns : List WallNote). note_of ns wall) run.notes) ∙ noted)).0

      note-is : (wall : ℕ) (note : WallNote) → note_of w.walls wall ≡ Some note → note ≡ note_at s wall
      note-is wall note noted = sym (noted-at s walls wall note
          (sym (ap (λ (ns : List WallNote). note_of ns wall) run.notes) ∙ noted)).1

  is-sound : IsSoundRun d start.client heards w (λ (wall : ℕ). play d (facts wall) (calls wall))
  is-sound = run-sound d users start.client heards w facts calls honest-run run.kept

  -- ---- keys

  abbrev setting_of : ℕ → Setting
  setting_of wall = record { wall = wall; depth = (the_wall s wall).depth; master = (the_wall s wall).master }

  abbrev secrets : List (ℕ × Text)
  secrets = secrets_in s users

  -- the keys with which a user begins on a wall
  abbrev base : ℕ → ℕ → KeysView
  base user wall = (side-on d s limits users walls run.all_users run.all_walls user wall).keys

  owned-keys : (wall : ℕ) → IsUser walls wall
      → base (facts wall).owner wall ≡ owner (tree_of (setting_of wall) []) secrets
  owned-keys wall there =
      let u = (facts wall).owner in
      let name = (known-user s limits u (listed u (owner-there wall there))).number in
      ap (λ (b : Bool). opening_keys u wall (the_wall s wall).depth (the_user s u).secret
      (if b then Some (owned_of (the_wall s wall) (shared_in s users walls)) else None))
      (eq-eqb (the_user s u).user u name)

  booked-keys : (wall u : ℕ) → (u ≡ (facts wall).owner → ⊥) → IsUser users u
      → base u wall ≡ member (new_book wall (the_wall s wall).depth u (leaf_of wall secrets u))
  booked-keys wall u other known =
      let name = (known-user s limits u (listed u known)).number in
      ap (λ (b : Bool). opening_keys u wall (the_wall s wall).depth (the_user s u).secret
      (if b then Some (owned_of (the_wall s wall) (shared_in s users walls)) else None))
      (ne_eqb (the_user s u).user (facts wall).owner (λ e. other (sym name ∙ e)))
      ∙ ap (λ (x : Text). member (new_book wall (the_wall s wall).depth u (leaf_text x wall)))
      (sym (secret-there users u known))
    where
      behind : (v : ℕ) (vs : List ℕ) (u : ℕ) → (v ≡ u) ⊎ IsUser vs u → (v ≡ u → ⊥) → IsUser vs u
      behind v vs u (inl is) ne = absurd (ne is)
      behind v vs u (inr rest) ne = rest

      secret-there : (us : List ℕ) (u : ℕ) → IsUser us u → secret_of (secrets_in s us) u ≡ (the_user s u).secret
      secret-there [] u none = absurd none
      secret-there (v ∷ vs) u there = elim (cases_eq v u) [
        | inl is ↦
            ap (λ (b : Bool). if b then (the_user s v).secret else secret_of (secrets_in s vs) u) (eq-eqb v u is)
            ∙ ap (λ (w : ℕ). (the_user s w).secret) is
        | inr ne ↦
            ap (λ (b : Bool). if b then (the_user s v).secret else secret_of (secrets_in s vs) u) (ne_eqb v u ne)
            ∙ secret-there vs u (behind v vs u there ne)
      ]

  based-all : (u : ℕ) → IsUser users u → AreBased (base u) (start.client u)
  based-all u known = subst (λ (c : PlainClient). AreBased (base u) c) (sym (opens u known))
      (subst (AllByRecursion (IsBased (base u))) (sym (sides-are s limits users walls run.all_users run.all_walls u))
      (all-sides walls))
    where
      all-sides : (ws : List ℕ) → AllByRecursion (IsBased (base u))
          (map (side-on d s limits users walls run.all_users run.all_walls u) ws)
      all-sides [] = tt
      all-sides (v ∷ vs) = (
        sym (fresh-open u v (the_wall s v).depth (the_user s u).secret
            (owned_by s (shared_in s users walls) (the_user s u) (note_at s v))),
        all-sides vs,
      )

  -- ---- by the list

  names : (u : ℕ) → IsUser users u → (start.client u).user ≡ u
  names u known = ap (λ (c : PlainClient). c.user) (opens u known)

  module _ (wall : ℕ) (there : IsUser walls wall) where
    abbrev L : List Leaf
    L = play d (facts wall) (calls wall)

    along : (u : ℕ) → IsUser users u → KeepsAlong d (facts wall) L (start.client u) (stream u heards)
    along u known = (user-well d users start.client heards (facts wall) (calls wall) (honest-wall wall there) u known).along

    -- what holds of each operation that was asked of the wall holds of its leaves
    leaves-so : (P : Op → Type 0) → ((u : ℕ) → IsUser users u
        → AllByRecursion (ExchangeFor P) (exchanges_of (dids d (start.client u) (stream u heards))))
        → (k : ℕ) (leaf : Leaf) → slice_get L k ≡ Some leaf → P leaf.op
    leaves-so P each k leaf at = each-of (λ (l : Leaf). P l.op) L k leaf
        (leaves-for d users start.client heards (facts wall) (calls wall) (honest-wall wall there) P each) at

    wall-by-list : (user : ℕ) → IsUser users user
        → AreByList d (the_wall s wall).depth (facts wall).owner wall (IsPosted d start.client heards) L
        (start.client user) (stream user heards)
    wall-by-list user known =
        let honest = honest-wall wall there in
        user-by-list d (facts wall) (setting_of wall) secrets
        (known-wall s limits wall (listed-wall wall there)).ranges.depth.0
        base (owned-keys wall there) (IsUser users) (booked-keys wall) L
        (honest-kept d (facts wall) L (calls wall) (record {
          legal = honest.legal;
          played = refl;
          spelled = honest.spelled;
        }))
        start.client heards names along based-all
        (leaves-so (IsMadeOp d (facts wall) base (IsUser users) L start.client heards names along based-all)
        (λ u is. exchanges-made d (facts wall) base (IsUser users) L start.client heards names along based-all u is))
        user known

    wall-posts : (k : ℕ) (leaf : Leaf) → slice_get L k ≡ Some leaf → is_change leaf.op.kind ≡ false
        → (text : Text) × IsPosted d start.client heards leaf.op text
    wall-posts k leaf at post =
        let honest = honest-wall wall there in
        let kept = honest-kept d (facts wall) L (calls wall) (record {
          legal = honest.legal;
          played = refl;
          spelled = honest.spelled;
        }) in
        leaves-so (IsPostedOp d (facts wall) base (IsUser users) L start.client heards names along based-all)
        (λ u is. exchanges-posted d (facts wall) base (IsUser users) L start.client heards names along based-all u is)
        k leaf at (law-stands (state_of (facts wall).owner (take k L)) wall k leaf.op (kept.lawful k leaf at).lawful).same_wall
        post

  -- ---- what it comes to

  audit-sound : (line : AuditLine) → TellsOf d w line → line ≡ lines.Sound (count_records w) (count_grounded w)
  audit-sound (lines.Sound records grounded) tells =
      ap (λ (n : ℕ). lines.Sound n grounded) tells.records ∙ ap (lines.Sound (count_records w)) tells.grounded
  audit-sound (lines.Collision a b) tells =
      absurd (no-clash d w (counts_of w) (let strings : Strings = record { a = a; b = b } in strings) is-sound.finds tells)
  audit-sound (lines.Forged user wall bytes) tells =
      absurd (no-forgery d w (counts_of w) user wall tells.0 is-sound.finds tells.1)

  ends-by-hall : (wall : ℕ) → IsUser walls wall → (hall : standing.Hall)
      → IsHallOf d s users start heards wall hall → calls wall ≡ hall.entries
      → EndsByHall d s users start heards w wall hall
  ends-by-hall wall there hall is same =
      record {
        tells = λ user known. subst (λ (f : WallFacts). TellsAll d f (start.client user) (stream user heards)
            (turns d f user hall.entries)) (sym is.facts)
            (subst (λ (cs : List Called). TellsAll d (facts wall) (start.client user) (stream user heards)
            (turns d (facts wall) user cs)) same
            (user-well d users start.client heards (facts wall) (calls wall) (honest-wall wall there) user known).tells);
        listed = λ user known. subst (λ (f : WallFacts). AreByList d (the_wall s wall).depth f.owner wall
            (IsPosted d start.client heards) hall.leaves (start.client user) (stream user heards)) (sym is.facts)
            (subst (λ (L : List Leaf). AreByList d (the_wall s wall).depth (facts wall).owner wall
            (IsPosted d start.client heards) L (start.client user) (stream user heards))
            (ap (λ (cs : List Called). play d (facts wall) cs) same
            ∙ ap (λ (f : WallFacts). play d f hall.entries) (sym is.facts) ∙ sym is.kept.played)
            (wall-by-list wall there user known));
        posts =
            let all : play d (facts wall) (calls wall) ≡ hall.leaves =
            ap (λ (cs : List Called). play d (facts wall) cs) same
            ∙ ap (λ (f : WallFacts). play d f hall.entries) (sym is.facts) ∙ sym is.kept.played in
            subst (λ (L : List Leaf). (k : ℕ) (leaf : Leaf) → slice_get L k ≡ Some leaf
            → is_change leaf.op.kind ≡ false → (text : Text) × IsPosted d start.client heards leaf.op text) all
            (wall-posts wall there);
        phased = in-order d users start.client heards (facts wall) (calls wall) s.phases run.run.asked
            (all-more (λ (h : Heard). IsDoable users walls h.task) (λ (h : Heard). IsUser users h.task.user)
            (λ h can. can.user) heards doable)
            (subst (Ordered users d start.client heards wall (numbers_from 1 s.phases)) (sym same) is.ordered)
            (λ user known. (user-well d users start.client heards (facts wall) (calls wall) (honest-wall wall there) user
            known).tells) (along wall there);
        stories = λ r L at on history.
            is-sound.stories r L at history ∙ ap (λ (v : ℕ). take r.size (play d (facts v) (calls v))) on
            ∙ ap (λ (cs : List Called). take r.size (play d (facts wall) cs)) same
            ∙ ap (λ (f : WallFacts). take r.size (play d f hall.entries)) (sym is.facts)
            ∙ ap (take r.size) (sym is.kept.played);
      }

  pub untouched : IsUntouched d s wires wires' w halls outcomes run
  untouched = record {
    calm = ap (list_any fails) (run.told ∙ run.run.told) ∙ is-sound.calm;
    ended = zip-own (IsHallOf d s users start heards) (EndsByHall d s users start heards w) walls halls run.all_walls.rise
        run.histories ends-by-hall;
    sound = audit-sound outcomes.audit run.audited;
  }

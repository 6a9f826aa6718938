-- The world of a run over straight wires at an honest server is sound.
use Rattle.std.proofs.Common.{◌≡◌, ◌∙◌, ℕ, suc, ◌+◌, Bool, true, false, not, List, [], ◌∷◌, length, take, drop, Option, Some, None, refl, sym, ap, subst, append-nil}
use Rattle.std.specs.Prelude.{nat_eq, slice_get}
use Rattle.std.specs.List.{AllByRecursion, flat_map, list_any}
use Rattle.std.specs.Option.{option_map}
use Rattle.std.proofs.lemmas.Bool.{eqb-true}
use Rattle.std.proofs.lemmas.Option.{slice_get-map}
use Rattle.fr_bytes.proofs.Lists.{each-append}
use Rattle.fr_digest.specs.Collision.{Strings}
use Rattle.fr_digest.specs.Digest.{Digest}
use Rattle.op_types.specs.declared.op.Leaf.{Leaf}
use Rattle.op_types.specs.declared.op.Op.{Op}
use Rattle.pruned_list.specs.PrunedList.{PrunesDict}
use Rattle.wall_law.specs.State.{state_of}
use Rattle.honest_replies.proofs.Lists.{at-drop}
use Rattle.world_book.specs.declared.book.UserBook.{UserBook}
use Rattle.world_book.specs.declared.took.Signed.{Signed}
use Rattle.world_book.specs.declared.took.Took.{Took}
use Rattle.world_book.specs.declared.world.WallNote.{WallNote}
use Rattle.world_book.specs.declared.world.World.{World}
use Rattle.world_book.specs.Kept.{Kept}
use Rattle.world_book.specs.Records.{IsIn, Signs, book_of, is_no_rogue, note_of, records_of}
use Rattle.world_book.proofs.Places.{each-of, find-some, flat-place, place-right, place-take}
use Rattle.world_book.proofs.Records.{book-found, record-facts}
use Rattle.world_audit.specs.Comparisons.{Agrees, all_compared, compared, order, owner_in, owner_of, record_compared, some_in}
use Rattle.world_audit.specs.Sound.{AllAgree, NothingUnsigned}
use Rattle.world_audit.specs.Story.{story}
use Rattle.world_audit.specs.Truth.{ShowsTruth, TellsTruth}
use Rattle.world_audit.proofs.Audits.{sound}
use Rattle.world_audit.proofs.Firsts.{none-differs}
use Rattle.world_audit.proofs.Orders.{order-only}
use Rattle.world_audit.proofs.Truths.{story-front, truth-agrees}
use Rattle.audit_run.specs.declared.answer.Sound.{Sound}
use Rattle.audit_run.specs.Ends.{FindsClash, FindsForged, FindsNothing}
use Rattle.audit_run.specs.Unsigned.{shown_leaves}
use Rattle.hall_core.specs.declared.ask.Called.{Called}
use Rattle.hall_core.specs.declared.facts.WallFacts.{WallFacts}
use Rattle.hall_core.specs.Calls.{Turn, play, turns}
use Rattle.script_form.specs.declared.outcome.Outcome.{Outcome}
use Rattle.script_form.specs.Status.{fails}
use Rattle.session_laws.specs.Doing.{Did, Heard, PlainClient, Task, TookView, after, all_dids, client_of, dids, exchanges_of, outcomes_of, stream, took_view, wall_of}
use Rattle.session_laws.specs.Histories.{IsUser}
use Rattle.run_laws.specs.Following.{IsTrue}
use Rattle.run_laws.specs.Standing.{AreShown, HasSigned, IsAuthors, IsHonestRun, IsNoted, IsSoundRun, counts_of, signed_of}
use Rattle.run_laws.specs.Telling.{TellsAll}
use Rattle.run_laws.proofs.Asks.{ExchangeFor, asks-more, some-of}
use Rattle.run_laws.proofs.Fronts.{all-more}
use Rattle.run_laws.proofs.Runs.{all-users, leaves-for, user-well}
use Rattle.run_laws.proofs.Signing.{all-signed, last-later}

-- ---- lists

pub all-flat : {A B : Type 0} (P : B → Type 0) (f : A → List B) (xs : List A)
    → ((x : A) → IsIn xs x → AllByRecursion P (f x)) → AllByRecursion P (flat_map f xs)
all-flat P f [] each = tt
all-flat P f (x ∷ xs) each = each-append P (f x) (flat_map f xs)
    (each x (record { place = 0; there = refl }))
    (all-flat P f xs (λ y at. each y (record { place = suc at.place; there = at.there })))

-- what is in the rest of a front is in the list
in-part : {A : Type 0} (n m : ℕ) (xs : List A) (x : A) → IsIn (drop n (take m xs)) x → IsIn xs x
in-part n m xs x at =
    let there : slice_get (take m xs) (n + at.place) ≡ Some x = sym (at-drop (take m xs) n at.place) ∙ at.there in
    record { place = n + at.place; there = (place-take m xs (n + at.place) x there).1 }

pub each-in : {A : Type 0} (P : A → Type 0) (xs : List A) (x : A) → AllByRecursion P xs → IsIn xs x → P x
each-in P xs x all at = each-of P xs at.place x all at.there

-- ---- a world whose walls are shown

module _ (d : Digest) (w : World) (client : ℕ → PlainClient) (facts : ℕ → WallFacts) (leaves : ℕ → List Leaf)
    (kept : Kept d w) (shown : AreShown d w client facts leaves) where
  -- a record, with its book and what is noted of its wall
  record-true : (note : WallNote) (wall : ℕ) → note_of w.walls wall ≡ Some note → (r : Took) → IsIn (records_of w) r
      → r.wall ≡ wall → TellsTruth d (owner_of w wall) (leaves wall) r
  record-true note wall noted r at on =
      let is = shown.each wall note noted in
      let of = flat-place (λ (b : UserBook). b.took) w.users at.place r at.there in
      let b = of.0 in
      let found : book_of w b.user ≡ Some b = book-found d w kept b of.1 in
      let mine = shown.books b.user b found in
      let there : slice_get (client b.user).took of.2.place ≡ Some (took_view r) =
      ap (λ (ts : List TookView). slice_get ts of.2.place) (sym mine.took)
      ∙ slice_get-map took_view b.took of.2.place ∙ ap (option_map took_view) of.2.there in
      let name : note.wall ≡ wall =
      eqb-true note.wall wall (find-some (λ (n : WallNote). nat_eq n.wall wall) w.walls note noted).1 in
      let it : IsTrue d (facts wall).owner (leaves wall) (took_view r) =
      each-of (λ (v : TookView). v.wall ≡ (facts wall).wall → IsTrue d (facts wall).owner (leaves wall) v)
      (client b.user).took of.2.place (took_view r) (is.records b.user b found) there
      (on ∙ sym (is.wall ∙ name)) in
      let owner : (facts wall).owner ≡ owner_of w wall = is.owner ∙ ap owner_in (sym noted) in
      record {
        covered = it.covered;
        proof = it.proof;
        leaves = it.leaves;
        lists = λ i p here. subst (λ (o : ℕ). PrunesDict d p (state_of o (take (r.from + i) (leaves wall))).entries) owner
            (it.lists i p here);
      }

  -- all records of a wall show its leaves
  wall-true : (r : Took) → IsIn (records_of w) r → ShowsTruth d w r.wall (leaves r.wall)
  wall-true r at s within on = let f = record-facts d w kept r at in record-true f.note r.wall f.noted s within on

  pub stories-true : (r : Took) (L : List Leaf) → IsIn (records_of w) r → story w r ≡ Some L
      → L ≡ take r.size (leaves r.wall)
  stories-true r L at history =
      story-front d w kept r.wall (leaves r.wall) (wall-true r at) r L at refl history

  all-agreeing : AllAgree d w
  all-agreeing r L at history = truth-agrees d w kept r.wall (leaves r.wall) (wall-true r at) r L at refl history

  none-unsigned : NothingUnsigned w
  none-unsigned r leaf at within honest =
      let f = record-facts d w kept r at in
      let it = record-true f.note r.wall f.noted r at refl in
      let there : IsIn (leaves r.wall) leaf = in-part r.from r.size (leaves r.wall) leaf
      (subst (λ (ls : List Leaf). IsIn ls leaf) it.leaves within) in
      each-in (λ (l : Leaf). IsAuthors w l.op) (leaves r.wall) leaf (shown.each r.wall f.note f.noted).authors there honest

  record-agrees : (r : Took) → IsIn (order w) r → AllByRecursion (Agrees d) (record_compared w r)
  record-agrees r at =
      let has = order-only d w kept r at in
      subst (λ (o : Option (List Leaf)). AllByRecursion (Agrees d) (flat_map (compared w r) (some_in o))) (sym has.history)
      (subst (AllByRecursion (Agrees d)) (sym (append-nil (compared w r has.leaves)))
      (all-agreeing r has.leaves has.kept has.history))

  compared-agrees : AllByRecursion (Agrees d) (all_compared w)
  unfolding all_compared
  compared-agrees = all-flat (Agrees d) (record_compared w) (order w) record-agrees

  -- An audit finds nothing.
  pub finds-nothing : FindsNothing d w (counts_of w)
  finds-nothing = record {
    records = refl;
    grounded = refl;
    unsigned = none-unsigned;
    compared = none-differs d (all_compared w) compared-agrees;
    sound = sound d w kept none-unsigned all-agreeing;
  }

-- It finds no clash, and no forgery.
pub no-clash : (d : Digest) (w : World) (found : Sound) (s : Strings) → FindsNothing d w found → FindsClash d w s → ⊥
no-clash d w found s nothing clash = let e = sym nothing.compared ∙ clash.first in absurd cc

pub no-forgery : (d : Digest) (w : World) (found : Sound) (user wall : ℕ) (op : Op) → FindsNothing d w found
    → FindsForged w user wall op → ⊥
no-forgery d w found user wall op nothing forged =
    let there : IsIn (shown_leaves w) forged.leaf = record {
      place = length forged.first.before + 0;
      there = ap (λ xs. slice_get xs (length forged.first.before + 0)) forged.first.shown
          ∙ place-right forged.first.before (forged.leaf ∷ forged.first.behind) 0;
    } in
    let of = flat-place (λ (r : Took). r.leaves) (records_of w) there.place forged.leaf there.there in
    forged.first.unsigned (nothing.unsigned of.0 forged.leaf of.1 of.2 forged.first.honest)

-- ---- commands that don't fail

not-so : (b : Bool) → not b ≡ true → b ≡ false
not-so true e = absurd cc
not-so false e = refl

note-name : (notes : List WallNote) (wall : ℕ) (note : WallNote) → note_of notes wall ≡ Some note → note.wall ≡ wall
note-name notes wall note noted =
    eqb-true note.wall wall (find-some (λ (n : WallNote). nat_eq n.wall wall) notes note noted).1

-- it is on the wall and doesn't fail, or on another
abbrev CalmOn : ℕ → Did → Type 0
CalmOn wall x = wall_of x.task.command ≡ wall → fails x.outcome ≡ false

tells-calm : (d : Digest) (facts : WallFacts) (hs : List Heard) (c : PlainClient) (ts : List Turn)
    → TellsAll d facts c hs ts → AllByRecursion (CalmOn facts.wall) (dids d c hs)
tells-calm d facts [] c ts all = tt
tells-calm d facts (h ∷ hs) c ts (now, later, split, tells, rest) =
    (tells.calm, tells-calm d facts hs (after d c h) later rest)

all-walls : (W : ℕ → Type 0) (xs : List Did) → ((wall : ℕ) → W wall → AllByRecursion (CalmOn wall) xs)
    → AllByRecursion (λ (x : Did). W (wall_of x.task.command)) xs
    → AllByRecursion (λ (x : Did). fails x.outcome ≡ false) xs
all-walls W [] each all = tt
all-walls W (x ∷ xs) each all = (
  (each (wall_of x.task.command) all.0).0 refl,
  all-walls W xs (λ wall is. (each wall is).1) all.1,
)

each-task : (d : Digest) (P : Task → Type 0) (hs : List Heard) (c : PlainClient)
    → AllByRecursion (λ (h : Heard). P h.task) hs → AllByRecursion (λ (x : Did). P x.task) (dids d c hs)
each-task d P [] c all = tt
each-task d P (h ∷ hs) c all = (all.0, each-task d P hs (after d c h) all.1)

none-any : (p : Outcome → Bool) (xs : List Did) → AllByRecursion (λ (x : Did). p x.outcome ≡ false) xs
    → list_any p (outcomes_of xs) ≡ false
none-any p [] all = refl
none-any p (x ∷ xs) all = rw all.0 (none-any p xs all.1)

-- ---- a whole run

module _ (d : Digest) (users : List ℕ) (start : ℕ → PlainClient) (heards : List Heard) (w : World)
    (facts : ℕ → WallFacts) (calls : ℕ → List Called) (run : IsHonestRun d users start heards w facts calls) where
  abbrev client : ℕ → PlainClient
  client user = client_of d start user heards

  -- what a client signed is signed in the world
  signed-there : (user : ℕ) → IsUser users user → (op : Op) → HasSigned (client user) op → IsAuthors w op
  signed-there user listed op signed honest = by (book_of w op.author) refl honest
    where
      name : op.author ≡ user
      name = signed.author ∙ (last-later d (stream user heards) (start user)).user ∙ run.names user listed

      by : (o : Option UserBook) → book_of w op.author ≡ o → is_no_rogue o ≡ true → Signs w op.author op
      by None found is = absurd cc
      by (Some b) found is =
          let there : book_of w user ≡ Some b = subst (λ (u : ℕ). book_of w u ≡ Some b) name found in
          let mine = run.books user b there in
          let at = signed.kept (sym mine.rogue ∙ not-so b.rogue is) in
          record {
            book = b;
            found = found;
            signed = signed_of (client user) op;
            kept = subst (λ (ss : List Signed). IsIn ss (signed_of (client user) op)) (sym mine.signed) at;
            same = refl;
          }

  wall-authors : (wall : ℕ) (note : WallNote) → note_of w.walls wall ≡ Some note
      → AllByRecursion (λ (leaf : Leaf). IsAuthors w leaf.op) (play d (facts wall) (calls wall))
  wall-authors wall note noted =
      leaves-for d users start heards (facts wall) (calls wall) (run.walls wall note noted) (IsAuthors w)
      (λ user listed. all-more (ExchangeFor (HasSigned (client user))) (ExchangeFor (IsAuthors w))
      (λ x it. asks-more (HasSigned (client user)) (IsAuthors w) (signed-there user listed) x.ask it)
      (exchanges_of (dids d (start user) (stream user heards))) (all-signed d (stream user heards) (start user)))

  abbrev leaves : ℕ → List Leaf
  leaves wall = play d (facts wall) (calls wall)

  run-shown : AreShown d w client facts leaves
  run-shown = record {
    books = run.books;
    each = λ wall note noted. record {
      wall = run.noted wall note noted;
      owner = run.owned wall note noted;
      records = λ user book found. (user-well d users start heards (facts wall) (calls wall) (run.walls wall note noted)
          user (run.listed user book found)).follows.records;
      authors = wall-authors wall note noted;
    };
  }

  -- ---- no command fails

  abbrev IsCalm : Did → Type 0
  IsCalm x = fails x.outcome ≡ false

  user-calm : (user : ℕ) → IsUser users user → AllByRecursion IsCalm (dids d (start user) (stream user heards))
  user-calm user listed = all-walls (IsNoted w) (dids d (start user) (stream user heards))
      (λ wall noted.
      let well = user-well d users start heards (facts wall) (calls wall) (run.walls wall noted.0 noted.1) user listed in
      let name : (facts wall).wall ≡ wall = run.noted wall noted.0 noted.1 ∙ note-name w.walls wall noted.0 noted.1 in
      subst (λ (v : ℕ). AllByRecursion (CalmOn v) (dids d (start user) (stream user heards))) name
      (tells-calm d (facts wall) (stream user heards) (start user) (turns d (facts wall) user (calls wall)) well.tells))
      (each-task d (λ (t : Task). IsNoted w (wall_of t.command)) (stream user heards) (start user)
      (some-of (λ (h : Heard). IsNoted w (wall_of h.task.command)) (λ (h : Heard). nat_eq h.task.user user) heards
      run.asked_of))

  calm-all : list_any fails (outcomes_of (all_dids d start heards)) ≡ false
  calm-all = none-any fails (all_dids d start heards)
      (all-users d start users IsCalm [] heards user-calm run.asked)

  pub run-sound : Kept d w → IsSoundRun d start heards w leaves
  run-sound kept = record {
    calm = calm-all;
    finds = finds-nothing d w client facts leaves kept run-shown;
    stories = stories-true d w client facts leaves kept run-shown;
  }

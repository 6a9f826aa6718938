-- The records of a kept world, and how they are found.
use Rattle.std.proofs.Common.{◌≡◌, inl, inr, ℕ, ◌<◌, true, false, List, length, map, take, Option, Some, None, refl, ap, sym, subst, ◌∙◌, arith, eq-eqb}
use Rattle.std.specs.Prelude.{find, nat_eq, not, option_and_then, slice_get}
use Rattle.std.specs.Option.{option_map}
use Rattle.std.proofs.lemmas.Bool.{and_parts, cases_Bool, eqb-true}
use Rattle.std.proofs.lemmas.Option.{option_and_then_some, slice_get-map}
use Rattle.fr_digest.specs.Digest.{Digest}
use Rattle.hist_proof.specs.View.{tree_view}
use Rattle.op_types.specs.declared.op.Op.{Op}
use Rattle.check_rules.specs.Accepted.{Accepted}
use Rattle.check_rules.specs.Shown.{leaves_from}
use Rattle.world_book.specs.declared.book.UserBook.{UserBook}
use Rattle.world_book.specs.declared.took.Took.{Took}
use Rattle.world_book.specs.declared.world.WallNote.{WallNote}
use Rattle.world_book.specs.declared.world.World.{World}
use Rattle.world_book.specs.Kept.{HoldsLeaves, IsRecord, Kept, KeptBook, known_by, lists_of, size_of, view_of}
use Rattle.world_book.specs.Records.{IsIn, Signs, book_of, is_honest, is_no_rogue, is_record, keys_of, last_on, note_of, record_of, records_of}
use Rattle.world_book.proofs.Chains.{finds, last-in}
use Rattle.world_book.proofs.Places.{each-of, find-only, find-some, flat-place, place-flat, place-take}

some-before : (before : Option Took) → 0 < size_of before → (p : Took) × (before ≡ Some p)
some-before None some = absurd (omega arith)
some-before (Some p) some = (p, refl)

-- The record before one that doesn't begin at the first position.
pub record Before (w : World) (r : Took) (before : Option Took) (p : Took) : Type 0 where
  pub last : before ≡ Some p
  pub record_is : IsIn (records_of w) p
  pub user : p.user ≡ r.user
  pub wall : p.wall ≡ r.wall
  pub size : p.size ≡ r.have
  pub found : record_of w r.user r.wall r.have ≡ Some p

-- What is known of a record of a kept world.
pub record Facts (d : Digest) (w : World) (r : Took) : Type 0 where
  pub honest : is_honest w r.user ≡ true
  pub note : WallNote
  pub noted : note_of w.walls r.wall ≡ Some note
  pub wall : note.wall ≡ r.wall
  pub before : Option Took
  pub have : r.have ≡ size_of before
  pub prev : 0 < r.have → (p : Took) × Before w r before p
  pub accepted : Accepted d (known_by note (keys_of w.users) before) (view_of r) r.from (tree_view r.proof) (lists_of r)
  pub spelled : HoldsLeaves (tree_view r.proof)
  pub leaves : r.leaves ≡ leaves_from (tree_view r.proof) r.size r.from
  pub lists : length r.dicts ≡ length r.leaves

module _ (d : Digest) (w : World) (kept : Kept d w) where
  -- ---- books

  book-kept : (b : UserBook) → IsIn w.users b → KeptBook d w.walls (keys_of w.users) b
  book-kept b at = each-of (KeptBook d w.walls (keys_of w.users)) w.users at.place b kept.books at.there

  user-at : (b : UserBook) (i : ℕ) → slice_get w.users i ≡ Some b
      → slice_get (map (λ (x : UserBook). x.user) w.users) i ≡ Some b.user
  user-at b i at = slice_get-map (λ (x : UserBook). x.user) w.users i ∙ ap (option_map (λ (x : UserBook). x.user)) at

  pub book-found : (b : UserBook) → IsIn w.users b → book_of w b.user ≡ Some b
  book-found b at = find-only (λ (x : UserBook). nat_eq x.user b.user) w.users at.place b at.there
      (eq-eqb b.user b.user refl)
      (λ k y less there is.
      let same = eqb-true y.user b.user is in
      let up = kept.users k at.place y.user b.user less (user-at y k there) (user-at b at.place at.there) in
      omega arith)

  book-in : (user : ℕ) (b : UserBook) → book_of w user ≡ Some b → IsIn w.users b × (b.user ≡ user)
  book-in user b e =
      let it = find-some (λ (x : UserBook). nat_eq x.user user) w.users b e in (it.0, eqb-true b.user user it.1)

  no-rogue : (b : UserBook) (r : Took) → IsIn w.users b → IsIn b.took r → b.rogue ≡ false
  no-rogue b r at there = elim (cases_Bool b.rogue) [
    | inl is ↦
        let empty = ((book-kept b at).rogue is).0 in
        let none = sym (ap (λ (ts : List Took). slice_get ts there.place) empty) ∙ there.there in
        absurd cc
    | inr e ↦ e
  ]

  -- ---- records

  book-of-record : (r : Took) → IsIn (records_of w) r → (b : UserBook) × IsIn w.users b × IsIn b.took r
  book-of-record r at = flat-place (λ (b : UserBook). b.took) w.users at.place r at.there

  record-of-book : (b : UserBook) (r : Took) → IsIn w.users b → IsIn b.took r → IsIn (records_of w) r
  record-of-book b r at there = place-flat (λ (x : UserBook). x.took) w.users at.place b r at.there there

  its-book : (b : UserBook) (r : Took) → IsIn w.users b → (there : IsIn b.took r)
      → IsRecord d w.walls (keys_of w.users) b.user (take there.place b.took) r
  its-book b r at there = (book-kept b at).records there.place r there.there

  found-in : (b : UserBook) (r : Took) → IsIn w.users b → IsIn b.took r → record_of w r.user r.wall r.size ≡ Some r
  found-in b r at there =
      let it = its-book b r at there in
      ap (λ (u : ℕ). record_of w u r.wall r.size) it.by
      ∙ ap (option_and_then (λ (x : UserBook). find (is_record r.wall r.size) x.took)) (book-found b at)
      ∙ finds d w.walls (keys_of w.users) b.user b.took (book-kept b at).records there.place r there.there

  -- A record is found by its user, its wall and its size.
  pub record-self : (r : Took) → IsIn (records_of w) r → record_of w r.user r.wall r.size ≡ Some r
  record-self r at = let it = book-of-record r at in found-in it.0 r it.1 it.2

  -- What is found is such a record.
  pub record-found : (user wall size : ℕ) (s : Took) → record_of w user wall size ≡ Some s
      → IsIn (records_of w) s × (s.user ≡ user) × (s.wall ≡ wall) × (s.size ≡ size)
  record-found user wall size s e =
      option_and_then_some (λ (x : UserBook). find (is_record wall size) x.took) (book_of w user) s e
      (λ b at there.
      let it = book-in user b at in
      let one = find-some (is_record wall size) b.took s there in
      let both = and_parts (nat_eq s.wall wall) (nat_eq s.size size) one.1 in (
        record-of-book b s it.0 one.0,
        (its-book b s it.0 one.0).by ∙ it.1,
        eqb-true s.wall wall both.0,
        eqb-true s.size size both.1,
      ))

  -- Records are of honest users.
  pub record-honest : (r : Took) → IsIn (records_of w) r → is_honest w r.user ≡ true
  record-honest r at =
      let it = book-of-record r at in
      ap (is_honest w) (its-book it.0 r it.1 it.2).by
      ∙ ap is_no_rogue (book-found it.0 it.1)
      ∙ ap not (no-rogue it.0 r it.1 it.2)

  before-in : (b : UserBook) (r : Took) → IsIn w.users b → (there : IsIn b.took r) → 0 < r.have
      → (p : Took) × Before w r (last_on r.wall (take there.place b.took)) p
  before-in b r at there some =
      let it = its-book b r at there in
      let have = it.have in
      let last = some-before (last_on r.wall (take there.place b.took)) (omega arith) in
      let p = last.0 in
      let front = last-in r.wall (take there.place b.took) p last.1 in
      let place : IsIn b.took p = record {
        place = front.0.place;
        there = (place-take there.place b.took front.0.place p front.0.there).1;
      } in
      let user : p.user ≡ r.user = (its-book b p at place).by ∙ sym it.by in
      let size : p.size ≡ r.have = sym (have ∙ ap size_of last.1) in (
        p,
        record {
          last = last.1;
          record_is = record-of-book b p at place;
          user = user;
          wall = front.1;
          size = size;
          found = ap (λ (u : ℕ). record_of w u r.wall r.have) (sym user)
              ∙ ap (λ (x : ℕ). record_of w p.user x r.have) (sym front.1)
              ∙ ap (record_of w p.user p.wall) (sym size)
              ∙ found-in b p at place;
        },
      )

  pub record-facts : (r : Took) → IsIn (records_of w) r → Facts d w r
  record-facts r at =
      let of = book-of-record r at in
      let it = its-book of.0 r of.1 of.2 in
      record {
        honest = record-honest r at;
        note = it.note;
        noted = it.noted;
        wall = eqb-true it.note.wall r.wall
            (find-some (λ (n : WallNote). nat_eq n.wall r.wall) w.walls it.note it.noted).1;
        before = last_on r.wall (take of.2.place of.0.took);
        have = it.have;
        prev = before-in of.0 r of.1 of.2;
        accepted = it.accepted;
        spelled = it.spelled;
        leaves = it.leaves;
        lists = it.lists;
      }

  -- ---- signed operations

  -- The view that a signed operation embeds is that of a record of its author.
  pub signed-seen : (user : ℕ) (op : Op) → Signs w user op → 0 < op.view.size
      → (s : Took) × (record_of w user op.wall op.view.size ≡ Some s) × (s.root ≡ op.view.root)
  signed-seen user op signs some =
      let of = book-in user signs.book signs.found in
      let it = (book-kept signs.book of.0).signed signs.kept.place signs.signed signs.kept.there in
      let seen = it.seen (subst (λ (o : Op). 0 < o.view.size) (sym signs.same) some) in
      let s = seen.0 in
      let its = its-book signs.book s of.0 seen.1 in (
        s,
        ap (λ (u : ℕ). record_of w u op.wall op.view.size) (sym (its.by ∙ of.1))
            ∙ ap (λ (o : Op). record_of w s.user o.wall o.view.size) (sym signs.same)
            ∙ ap (λ (x : ℕ). record_of w s.user x signs.signed.op.view.size) (sym seen.2)
            ∙ ap (record_of w s.user s.wall) (sym seen.3)
            ∙ found-in signs.book s of.0 seen.1,
        seen.4 ∙ ap (λ (o : Op). o.view.root) signs.same,
      )

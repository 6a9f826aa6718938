-- What is known of the leaves of a record.
use Rattle.std.proofs.Common.{◌≡◌, inl, inr, ℕ, zero, suc, ◌+◌, ◌-◌, ◌<◌, ◌≤◌, Bool, true, not, ◌&&◌, List, [], ◌∷◌, length, Option, Some, refl, ap, sym, subst, ◌∙◌, arith}
use Rattle.std.specs.Prelude.{nat_lt, slice_get}
use Rattle.std.specs.Option.{option_map}
use Rattle.std.proofs.lemmas.Bool.{and_parts, both_ways, lt-ltb, not_from_true, or_cases}
use Rattle.std.proofs.lemmas.Option.{slice_get-map}
use Rattle.fr_digest.specs.Digest.{Digest}
use Rattle.fr_bytes.specs.Bytes.{Text}
use Rattle.op_types.specs.declared.op.Leaf.{Leaf}
use Rattle.op_types.specs.declared.view.View.{View}
use Rattle.lms_tree.specs.Valid.{Key}
use Rattle.hist_proof.specs.Pruned.{at as root_at}
use Rattle.hist_proof.specs.View.{tree_view}
use Rattle.pruned_list.specs.PrunedList.{PrunedList}
use Rattle.dict_proof.specs.View.{list_view}
use Rattle.signed_ops.specs.Signed.{is_view_signed, key_of}
use Rattle.signed_ops.proofs.Signatures.{is_signed}
use Rattle.wall_law.specs.Lawful.{Told}
use Rattle.wall_law.specs.Position.{PositionPasses, is_root, is_seen}
use Rattle.wall_law.proofs.Histories.{law_of-stands}
use Rattle.check_rules.specs.declared.known.Known.{Known}
use Rattle.check_rules.specs.Accepted.{told_at}
use Rattle.check_rules.specs.Shown.{anchor}
use Rattle.check_rules.specs.Verdict.{finding, told_before}
use Rattle.check_rules.proofs.Tests.{root-is}
use Rattle.world_book.specs.declared.took.Took.{Took}
use Rattle.world_book.specs.declared.world.World.{World}
use Rattle.world_book.specs.Kept.{Kept, known_by, lists_of, root_of}
use Rattle.world_book.specs.Records.{IsIn, keys_of, records_of}
use Rattle.world_book.proofs.Records.{Facts, record-facts}
use Rattle.world_book.proofs.Shown.{ShowsLeaf, ShowsLeaves, shown-anchor, shown-from}

place-beside : {A B : Type 0} (xs : List A) (ys : List B) (i : ℕ) (x : A) → length ys ≡ length xs
    → slice_get xs i ≡ Some x
    → (y : B) × (slice_get ys i ≡ Some y)
place-beside [] ys i x e at = absurd cc
place-beside (a ∷ xs) [] i x e at = absurd cc
place-beside (a ∷ xs) (b ∷ ys) zero x e at = (b, refl)
place-beside (a ∷ xs) (b ∷ ys) (suc i) x e at = place-beside xs ys i x
    (let same : length ys ≡ length xs = omega arith in same) at

seen-root : (version : ℕ → Option Text) (signed : View → Bool) (view : View) → is_seen version signed view ≡ true
    → 0 < view.size → version view.size ≡ Some view.root
seen-root version signed view seen some = elim (or_cases (not (nat_lt 0 view.size)) (is_root
    (version view.size) view.root && signed view) seen) [
      | inl none ↦ absurd (both_ways (not (nat_lt 0 view.size)) (not_from_true (nat_lt 0 view.size)
          (lt-ltb 0 view.size some)) none)
      | inr both ↦ root-is (version view.size) view.root (and_parts (is_root (version view.size) view.root)
          (signed view) both).0
    ]

module _ (d : Digest) (w : World) (kept : Kept d w) (r : Took) (at : IsIn (records_of w) r) where
  abbrev pub facts : Facts d w r
  facts = record-facts d w kept r at

  abbrev pub known : Known
  known = known_by facts.note (keys_of w.users) facts.before

  -- what was told in front of the first leaf
  abbrev pub told_first : Told
  told_first = told_before d known.owner (anchor (tree_view r.proof) r.size r.from)

  shown-leaves : ShowsLeaves (tree_view r.proof) r.size r.from (r.size - r.from) r.leaves
  shown-leaves = subst (ShowsLeaves (tree_view r.proof) r.size r.from (r.size - r.from)) (sym facts.leaves)
      (shown-from (tree_view r.proof) r.size r.from facts.spelled facts.accepted.some facts.accepted.shows)

  -- A record's leaves are those of the positions from `from` on.
  pub count-leaves : r.from + length r.leaves ≡ r.size
  count-leaves = let many = shown-leaves.many in let some = facts.accepted.some in omega arith

  pub leaf-shown : (i : ℕ) (l : Leaf) → slice_get r.leaves i ≡ Some l
      → ShowsLeaf (tree_view r.proof) r.size (r.from + i) l
  leaf-shown i l here = shown-leaves.each i l here

  pub anchor-shown : 0 < r.from → (l : Leaf) × ShowsLeaf (tree_view r.proof) r.size (r.from - 1) l
      × (anchor (tree_view r.proof) r.size r.from ≡ Some l)
  anchor-shown pos = shown-anchor
      (tree_view r.proof) r.size r.from facts.spelled pos facts.accepted.some facts.accepted.shows

  -- A leaf passes, over the list that is shown in front of it.
  pub leaf-passes : (i : ℕ) (l : Leaf) → slice_get r.leaves i ≡ Some l
      → (list : PrunedList) × (slice_get (lists_of r) i ≡ Some list)
      × PositionPasses (told_at told_first r.leaves i) facts.note.wall (r.from + i) l
      (finding d known (tree_view r.proof) r.size list l)
  leaf-passes i l here =
      let one = place-beside r.leaves r.dicts i l facts.lists here in
      let there : slice_get (lists_of r) i ≡ Some (list_view one.0) =
      slice_get-map list_view r.dicts i ∙ ap (option_map list_view) one.1 in (
        list_view one.0,
        there,
        subst (λ (ls : List Leaf). PositionPasses (told_at told_first ls i) facts.note.wall (r.from + i) l
            (finding d known (tree_view r.proof) r.size (list_view one.0) l)) (sym facts.leaves)
            (facts.accepted.positions i l (list_view one.0)
            (sym (ap (λ (ls : List Leaf). slice_get ls i) facts.leaves) ∙ here) there),
      )

  pub leaf-wall : (i : ℕ) (l : Leaf) → slice_get r.leaves i ≡ Some l → l.op.wall ≡ r.wall
  leaf-wall i l here =
      let it = (leaf-passes i l here).2 in
      (law_of-stands it.author it.changed (told_at told_first r.leaves i).epoch facts.note.wall
      (r.from + i) l.op it.lawful).same_wall
      ∙ facts.wall

  -- Its view covers earlier positions alone.
  pub leaf-view : (i : ℕ) (l : Leaf) → slice_get r.leaves i ≡ Some l → l.op.view.size ≤ r.from + i
  leaf-view i l here =
      let it = (leaf-passes i l here).2 in
      (law_of-stands it.author it.changed (told_at told_first r.leaves i).epoch facts.note.wall
      (r.from + i) l.op it.lawful).early_view

  -- Its author is listed.
  pub leaf-listed : (i : ℕ) (l : Leaf) → slice_get r.leaves i ≡ Some l
      → (key : Key) × (key_of (keys_of w.users) l.op.author ≡ Some key)
  leaf-listed i l here =
      let it = is_signed (keys_of w.users) l.op (leaf-passes i l here).2.signed in (it.key, it.listed)

  -- The root of its view's version is the view's.
  pub leaf-root : (i : ℕ) (l : Leaf) → slice_get r.leaves i ≡ Some l → 0 < l.op.view.size
      → root_at d (tree_view r.proof) r.size l.op.view.size ≡ Some l.op.view.root
  leaf-root i l here some =
      seen-root (root_at d (tree_view r.proof) r.size) (is_view_signed facts.note.server) l.op.view
      (leaf-passes i l here).2.seen some

  -- The root of the version that the record begins with is that of the record before.
  pub before-root : (p : Took) → facts.before ≡ Some p → 0 < r.have
      → root_at d (tree_view r.proof) r.size r.have ≡ Some p.root
  before-root p last some =
      let have = facts.have in
      ap (root_at d (tree_view r.proof) r.size) have ∙ facts.accepted.extends (omega arith)
      ∙ ap (λ (o : Option Took). Some (root_of o)) last

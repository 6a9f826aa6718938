-- The roots that a record's tree has at the sizes of the records that its comparisons speak of.
use Rattle.std.proofs.Common.{◌≡◌, inl, inr, ℕ, ◌<◌, true, List, ◌++◌, Option, Some, None, ap, sym, ◌∙◌, arith}
use Rattle.std.specs.Prelude.{filter, if◌then◌else◌, is_some, nat_eq, nat_lt, slice_get}
use Rattle.std.specs.List.{flat_map}
use Rattle.std.proofs.lemmas.Bool.{cases_Bool, cond-true, cond-false, eqb-false, lt-ltb, ltb-true}
use Rattle.fr_digest.specs.Digest.{Digest}
use Rattle.op_types.specs.declared.op.Leaf.{Leaf}
use Rattle.hist_proof.specs.Pruned.{at as root_at}
use Rattle.hist_proof.specs.View.{tree_view}
use Rattle.world_book.specs.declared.took.Took.{Took}
use Rattle.world_book.specs.declared.world.World.{World}
use Rattle.world_book.specs.Kept.{Kept}
use Rattle.world_book.specs.Records.{IsIn, is_honest, record_of, records_of}
use Rattle.world_book.proofs.Leaves.{before-root, facts, leaf-root, leaf-wall}
use Rattle.world_book.proofs.Places.{place-flat}
use Rattle.world_book.proofs.Records.{signed-seen}
use Rattle.world_audit.specs.Comparisons.{base, needed, seen_by, some_in}
use Rattle.world_audit.specs.Sound.{NothingUnsigned}
use Rattle.world_audit.specs.Story.{prev, record_seen, story, vouched}
use Rattle.world_audit.proofs.Members.{filter-in, left-in, right-in, some-in}
use Rattle.world_audit.proofs.Stories.{prev-smaller, vouched-smaller}

module _ (w : World) (r : Took) where
  abbrev skipped : Option Took
  skipped = if nat_eq r.from r.have then None else vouched w r

  abbrev seen : List Took
  seen = flat_map (λ (l : Leaf). some_in (seen_by w r.wall l)) r.leaves

  abbrev views : List Took
  views = filter (λ (s : Took). is_some (story w s)) seen

  pub prev-in : (p : Took) → prev w r ≡ Some p → IsIn (needed w r) p
  prev-in p is = left-in (some_in (prev w r)) (some_in skipped ++ views) p (some-in (prev w r) p is)

  -- The record that it rests on is one that it needs.
  pub base-in : (b : Took) → base w r ≡ Some b → IsIn (needed w r) b
  base-in b is = elim (cases_Bool (nat_eq r.from r.have)) [
    | inl level ↦ prev-in b (sym (cond-true (nat_eq r.from r.have) (prev w r) (vouched w r) level) ∙ is)
    | inr skip ↦ right-in (some_in (prev w r)) (some_in skipped ++ views) b (left-in (some_in skipped) views b
        (some-in skipped b (cond-false (nat_eq r.from r.have) None (vouched w r) skip
        ∙ sym (cond-false (nat_eq r.from r.have) (prev w r) (vouched w r) skip) ∙ is)))
  ]

  pub seen-in : (i : ℕ) (l : Leaf) (s : Took) (M : List Leaf) → slice_get r.leaves i ≡ Some l
      → seen_by w r.wall l ≡ Some s → story w s ≡ Some M → IsIn (needed w r) s
  seen-in i l s M here sees history =
      let there =
      place-flat (λ (x : Leaf). some_in (seen_by w r.wall x)) r.leaves i l s here (some-in
      (seen_by w r.wall l) s sees) in
      right-in (some_in (prev w r)) (some_in skipped ++ views) s (right-in (some_in skipped) views s
      (filter-in (λ (x : Took). is_some (story w x)) seen there.place s there.there (ap is_some history)))

module _ (d : Digest) (w : World) (kept : Kept d w) (unsigned : NothingUnsigned w) (r : Took) (at : IsIn
    (records_of w) r) where
  pub some-prev : (p : Took) → prev w r ≡ Some p → 0 < r.have
  some-prev p is = elim (cases_Bool (nat_lt 0 r.have)) [
    | inl e ↦ ltb-true 0 r.have e
    | inr e ↦ absurd (let f = sym (cond-false (nat_lt 0 r.have) (record_of w r.user r.wall r.have) None e) ∙ is in cc)
  ]

  pub prev-root : (p : Took) → prev w r ≡ Some p → root_at d (tree_view r.proof) r.size r.have ≡ Some p.root
  prev-root p is =
      let some = some-prev p is in
      let last = (facts d w kept r at).prev some in
      let found = cond-true (nat_lt 0 r.have) (record_of w r.user r.wall r.have) None (lt-ltb 0 r.have some)
      ∙ last.1.found in
      let same : last.0 ≡ p = let e = sym found ∙ is in cc in
      before-root d w kept r at last.0 last.1.last some ∙ ap (λ (x : Took). Some x.root) same

  pub seen-root : (i : ℕ) (l : Leaf) (s : Took) → slice_get r.leaves i ≡ Some l → is_honest w l.op.author ≡ true
      → 0 < l.op.view.size → record_seen w r.wall l ≡ Some s
      → root_at d (tree_view r.proof) r.size l.op.view.size ≡ Some s.root
  seen-root i l s here honest some found =
      let it =
      signed-seen d w kept l.op.author l.op (unsigned r l at (record { place = i; there = here }) honest) some in
      let wall = leaf-wall d w kept r at i l here in
      let e = ap (λ (n : ℕ). record_of w l.op.author n l.op.view.size) (sym wall) ∙ it.1 in
      let same : it.0 ≡ s = let f = sym e ∙ found in cc in
      leaf-root d w kept r at i l here some ∙ ap Some (sym it.2) ∙ ap (λ (x : Took). Some x.root) same

  pub base-root : (b : Took) → base w r ≡ Some b → root_at d (tree_view r.proof) r.size b.size ≡ Some b.root
  base-root b is = elim (cases_Bool (nat_eq r.from r.have)) [
    | inl level ↦
        let before = sym (cond-true (nat_eq r.from r.have) (prev w r) (vouched w r) level) ∙ is in
        ap (root_at d (tree_view r.proof) r.size) (prev-smaller d w kept r b at before).1 ∙ prev-root b before
    | inr skip ↦
        let beside = sym (cond-false (nat_eq r.from r.have) (prev w r) (vouched w r) skip) ∙ is in
        let it = (vouched-smaller d w kept r b at beside).1 in
        let by = it.1 in
        let covers = by.covers in
        let have = (facts d w kept r at).have in
        let least = (facts d w kept r at).accepted.old in
        let apart = eqb-false r.from r.have skip in
        ap (root_at d (tree_view r.proof) r.size) by.size
        ∙ seen-root by.shown.place it.0 b by.shown.there by.honest (omega (arith, apart)) by.found
  ]

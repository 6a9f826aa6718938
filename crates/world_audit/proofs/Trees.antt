-- The tree of a record prunes its history, where what is cut of it prunes the history that it rests on.
use Rattle.std.proofs.Common.{◌≡◌, inl, inr, ℕ, ◌<◌, ◌≤◌, true, List, ◌++◌, length, take, Some, ap, sym, subst, ◌∙◌, arith}
use Rattle.std.specs.Prelude.{slice_get}
use Rattle.std.specs.List.{AllByRecursion}
use Rattle.std.specs.Option.{option_map}
use Rattle.std.proofs.lemmas.Bool.{cases_lt}
use Rattle.std.proofs.lemmas.List.{length-map, length-take-le, take-map}
use Rattle.std.proofs.lemmas.Option.{slice_get-map, slice_get_within}
use Rattle.fr_bytes.specs.Bytes.{Text}
use Rattle.fr_digest.specs.Digest.{Digest}
use Rattle.op_types.specs.declared.op.Leaf.{Leaf}
use Rattle.op_types.specs.Spelling.{leaf_text}
use Rattle.tree_model.specs.History.{root, root_of_all}
use Rattle.hist_proof.specs.Pruned.{Prunes, Tree, cut, digest_of, fits}
use Rattle.hist_proof.specs.Pruned.{at as root_at}
use Rattle.hist_proof.specs.Shown.{ShowsFrom, shown}
use Rattle.hist_proof.specs.View.{tree_view}
use Rattle.hist_proof.proofs.Trees.{cut-shown, full, glue, prunes-cut, prunes-digest, prunes-texts}
use Rattle.world_book.specs.declared.took.Took.{Took}
use Rattle.world_book.specs.declared.world.World.{World}
use Rattle.world_book.specs.Kept.{Kept}
use Rattle.world_book.specs.Records.{IsIn, records_of}
use Rattle.world_book.proofs.Leaves.{facts}
use Rattle.world_book.proofs.Places.{place-left, take-place}
use Rattle.world_audit.specs.Comparisons.{Agrees, base_compared, texts_of}
use Rattle.world_audit.specs.Story.{story}
use Rattle.world_audit.proofs.Agreements.{base-agrees}
use Rattle.world_audit.proofs.Fronts.{Built, Upon, built, story-leaves, story-shown}
use Rattle.world_audit.proofs.Stories.{mapped, story-length}
use Rattle.world_audit.proofs.Texts.{place-of, same-leaf, same-places}

-- the text of a leaf that stands at a place
text-at : (L : List Leaf) (k : ℕ) (l : Leaf) → slice_get L k ≡ Some l → slice_get (texts_of L) k ≡ Some (leaf_text l)
text-at L k l at = slice_get-map leaf_text L k ∙ ap (option_map leaf_text) at

-- and the leaf back from its text
pub leaf-at : (L : List Leaf) (k : ℕ) (t : Text) → slice_get (texts_of L) k ≡ Some t
    → (l : Leaf) × (slice_get L k ≡ Some l) × (leaf_text l ≡ t)
leaf-at L k t at = mapped leaf_text (slice_get L k) t (sym (slice_get-map leaf_text L k) ∙ at)

-- The root of a version of a tree that prunes a list is that of the list.
pub version-root : (d : Digest) (p : Tree) (M : List Text) (v : ℕ) (x : Text) → Prunes d p M
    → root_at d p (length M) v ≡ Some x
    → root d M v ≡ x
unfolding root root_at
version-root d p M v x prunes e =
    let it = mapped (digest_of d) (cut p (length M) v) x e in
    sym (prunes-digest d it.0 (take v M) (prunes-cut d p M v it.0 prunes it.1)) ∙ it.2

module _ (d : Digest) (w : World) (kept : Kept d w) (r : Took) (L : List Leaf) (at : IsIn (records_of w) r)
    (history : story w r ≡ Some L) where
  -- The tree is of the history's length.
  pub tree-size : length (texts_of L) ≡ r.size
  tree-size = length-map L leaf_text ∙ story-length d w kept r L at history

  tree-fits : fits (tree_view r.proof) (length (texts_of L)) ≡ true
  tree-fits = ap (fits (tree_view r.proof)) tree-size ∙ (facts d w kept r at).accepted.fitting

  shows-behind : (v : ℕ) → r.from ≤ v → ShowsFrom (tree_view r.proof) v (texts_of L)
  shows-behind v less k behind within =
      let long = length-map L leaf_text in
      let l = place-of L k (omega arith) in
      let it = story-shown d w kept r L at (built d w kept r L at history) k l.0 (omega arith) l.1 in
      ap (λ (n : ℕ). shown (tree_view r.proof) n k) tree-size ∙ it.text ∙ sym (text-at L k l.0 l.1)

module _ (d : Digest) (w : World) (kept : Kept d w) (r : Took) (L : List Leaf) (at : IsIn (records_of w) r)
    (history : story w r ≡ Some L) (front : List Leaf) (joined : L ≡ front ++ r.leaves) (b : Took) (M : List Leaf)
    (upon : Upon w r front b M) (prunes : Prunes d upon.short (texts_of M)) where
  -- a leaf that both the tree and what is cut of it show
  same-behind : (k : ℕ) (m : Leaf) → r.from ≤ k → slice_get M k ≡ Some m → slice_get L k ≡ Some m
  same-behind k m behind here =
      let fewer = upon.smaller.fewer in
      let long = upon.long in
      let within = slice_get_within M k m here in
      let size = story-length d w kept r L at history in
      let l = place-of L k (omega arith) in
      let it = story-shown d w kept r L at (built d w kept r L at history) k l.0 behind l.1 in
      let of = length-map M leaf_text in
      let below : shown upon.short (length (texts_of M)) k ≡ Some (leaf_text l.0) =
      ap (λ (n : ℕ). shown upon.short n k) (of ∙ long)
      ∙ cut-shown (tree_view r.proof) r.size b.size upon.short k upon.cuts (omega arith) ∙ it.text in
      let other = leaf-at M k (leaf_text l.0) (prunes-texts d upon.short (texts_of M) k (leaf_text l.0) prunes below) in
      let same : other.0 ≡ m = let e = sym other.1 ∙ here in cc in
      let spelled = (story-leaves d w kept b M upon.smaller.kept upon.history).each k other.0 other.1 in
      let one = same-leaf other.0 l.0 spelled it.is_leaf other.2 in
      l.1 ∙ ap Some (sym one ∙ same)

  same-front : (k : ℕ) (m : Leaf) → k < r.from → slice_get M k ≡ Some m → slice_get L k ≡ Some m
  same-front k m less here =
      ap (λ (ls : List Leaf). slice_get ls k) joined
      ∙ place-left front r.leaves k m
      (ap (λ (ls : List Leaf). slice_get ls k) upon.front_is ∙ take-place r.from M k less ∙ here)

  -- The history begins with the whole history that it rests on.
  pub begins : take b.size L ≡ M
  begins =
      let fewer = upon.smaller.fewer in
      let size = story-length d w kept r L at history in
      let long = upon.long in
      let short = length-take-le b.size L (omega arith) in
      sym (same-places M (take b.size L) (omega arith) (λ k m here.
      let within = slice_get_within M k m here in
      take-place b.size L k (omega arith) ∙ elim (cases_lt k r.from) [
        | inl less ↦ same-front k m less here
        | inr behind ↦ same-behind k m behind here
      ]))

module _ (d : Digest) (w : World) (kept : Kept d w) (r : Took) (L : List Leaf) (at : IsIn (records_of w) r)
    (history : story w r ≡ Some L) (agree : AllByRecursion (Agrees d) (base_compared w r)) where
  base-prunes : (front : List Leaf) (b : Took) (M : List Leaf) (upon : Upon w r front b M)
      → Prunes d upon.short (texts_of M)
  base-prunes front b M upon = base-agrees d w r L agree b M upon.short upon.is upon.history upon.cuts

  pub story-begins : (of : Built w r L) (b : Took) (M : List Leaf) → Upon w r of.front b M → take b.size L ≡ M
  story-begins of b M upon = begins d w kept r L at history of.front of.joined b M upon (base-prunes of.front b M upon)

  prunes-upon : (of : Built w r L) (b : Took) (M : List Leaf) → Upon w r of.front b M
      → Prunes d (tree_view r.proof) (texts_of L)
  prunes-upon of b M upon = glue d (tree_view r.proof) (texts_of L) b.size upon.short
      (ap (λ (n : ℕ). cut (tree_view r.proof) n b.size) (tree-size d w kept r L at history) ∙ upon.cuts)
      (subst (Prunes d upon.short) (sym (take-map leaf_text b.size L ∙ ap texts_of (story-begins of b M upon)))
      (base-prunes of.front b M upon))
      (shows-behind d w kept r L at history b.size upon.covers)

  -- The tree prunes the history.
  pub tree-prunes : Prunes d (tree_view r.proof) (texts_of L)
  tree-prunes =
      let of = built d w kept r L at history in
      elim of.rests [
        | inl none ↦ full d (tree_view r.proof) (texts_of L) (tree-fits d w kept r L at history)
            (shows-behind d w kept r L at history 0 (omega arith))
        | inr it ↦ prunes-upon of it.0 it.1 it.2
      ]

  -- The history has the record's root.
  pub tree-root : root_of_all d (texts_of L) ≡ r.root
  tree-root = sym (prunes-digest d (tree_view r.proof) (texts_of L) tree-prunes) ∙ (facts d w kept r at).accepted.root

-- What an honest server's tree shows are the wall's own leaves.
use Rattle.std.proofs.Common.{◌≡◌, ℕ, zero, suc, ◌+◌, ◌-◌, ◌<◌, ◌≤◌, Bool, true, false, ◌&&◌, List, ◌∷◌, length, drop, Option, Some, None, refl, ap, sym, ◌∙◌, arith}
use Rattle.std.specs.Prelude.{slice_get, IsSome, is_some, option_and_then}
use Rattle.std.specs.List.{AllByRecursion}
use Rattle.std.proofs.lemmas.List.{drop_all, length-map}
use Rattle.fr_digest.specs.Digest.{Digest}
use Rattle.op_types.specs.declared.op.Leaf.{Leaf}
use Rattle.op_types.specs.Spelling.{IsLeaf, leaf_text}
use Rattle.op_types.proofs.Ops.{leaf_again}
use Rattle.hist_proof.specs.Pruned.{Tree, Prunes}
use Rattle.hist_proof.specs.Shown.{shown}
use Rattle.hist_proof.proofs.Trees.{prunes-texts}
use Rattle.check_rules.specs.Heard.{leaf_of}
use Rattle.check_rules.specs.Shown.{leaf_shown, leaves_among, present, leaves_from, shows_among, with_some}
use Rattle.honest_replies.specs.HonestNews.{texts_of}
use Rattle.honest_replies.proofs.Lists.{all-at, at-below, drop-at, map-at, some-is}

module _ (d : Digest) (tree : Tree) (L : List Leaf) (spelled : AllByRecursion IsLeaf L) (prunes : Prunes d tree (texts_of L)) where
  -- a position that is shown shows its leaf's text
  pub text-shown : (k : ℕ) (l : Leaf) → slice_get L k ≡ Some l → IsSome (shown tree (length L) k)
      → shown tree (length L) k ≡ Some (leaf_text l)
  text-shown k l at is =
      let some = some-is (shown tree (length L) k) is in
      let size : length (texts_of L) ≡ length L = length-map L leaf_text in
      let there = prunes-texts d tree (texts_of L) k some.0 prunes (ap (λ n. shown tree n k) size ∙ some.1) in
      let same : some.0 ≡ leaf_text l = (let own = map-at leaf_text L k l at in cc) in
      some.1 ∙ ap (λ t. Some t) same

  pub leaf-shown : (k : ℕ) (l : Leaf) → slice_get L k ≡ Some l → IsSome (shown tree (length L) k)
      → leaf_shown tree (length L) k ≡ Some l
  leaf-shown k l at is =
      ap (option_and_then leaf_of) (text-shown k l at is)
      ∙ leaf_again (leaf_text l) l (record { is_leaf = all-at IsLeaf L k l spelled at; text = refl })

  pub among-shown : (count k : ℕ) → k + count ≡ length L
      → ((i : ℕ) → k ≤ i → i < length L → IsSome (shown tree (length L) i))
      → leaves_among tree (length L) k count ≡ drop k L
  unfolding present
  among-shown zero k whole each = sym (drop_all k L (omega arith))
  among-shown (suc count) k whole each =
      let it = at-below L k (omega arith) in
      let own = leaf-shown k it.0 it.1 (each k (omega arith) (omega arith)) in
      ap (λ o. with_some o (leaves_among tree (length L) (k + 1) count)) own
      ∙ ap (λ ls. it.0 ∷ ls) (among-shown count (k + 1) (omega arith) (λ i le less. each i (omega arith) less))
      ∙ sym (drop-at L k it.0 it.1)

  pub from-shown : (from : ℕ) → from ≤ length L
      → ((i : ℕ) → from ≤ i → i < length L → IsSome (shown tree (length L) i))
      → leaves_from tree (length L) from ≡ drop from L
  from-shown from within each = among-shown (length L - from) from (omega arith) each

some-true : {A : Type 0} (o : Option A) → IsSome o → is_some o ≡ true
some-true None h = absurd cc
some-true (Some a) h = refl

pub and-true : (a b : Bool) → a ≡ true → b ≡ true → (a && b) ≡ true
and-true true b e f = f
and-true false b e f = absurd cc

pub shows-among : (tree : Tree) (size count k : ℕ) → ((i : ℕ) → k ≤ i → i < k + count → IsSome (shown tree size i))
    → shows_among tree size k count ≡ true
unfolding shows_among
shows-among tree size zero k each = refl
shows-among tree size (suc count) k each = and-true (is_some (shown tree size k)) (shows_among tree size (k + 1) count)
    (some-true (shown tree size k) (each k (omega arith) (omega arith)))
    (shows-among tree size count (k + 1) (λ i le less. each i (omega arith) (omega arith)))

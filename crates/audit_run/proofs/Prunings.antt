-- The parts of a pruned tree beside those of a history.
use Rattle.std.proofs.Common.{◌≡◌, inl, inr, ℕ, zero, suc, ◌+◌, ◌-◌, ◌^◌, ◌<◌, ◌≤◌, List, [], ◌∷◌, length, take, drop, Some, refl, sym, ap, subst, arith}
use Rattle.std.specs.Prelude.{min, slice_get}
use Rattle.std.proofs.lemmas.List.{length-take-le, take_all}
use Rattle.std.proofs.lemmas.Bool.{cases_lt}
use Rattle.std.proofs.lemmas.Nat.{pow_pos}
use Rattle.fr_bytes.specs.Bytes.{Text}
use Rattle.fr_digest.specs.Digest.{Digest}
use Rattle.tree_model.specs.History.{depth, part}
use Rattle.tree_model.proofs.HistoryLaws.{depth-fits, depth-least}
use Rattle.hist_proof.specs.Pruned.{Prunes, PrunesAt, Tree, hidden, leaf, node, single}
use Rattle.hist_tree.specs.Nodes.{node_texts}
use Rattle.hist_tree.proofs.Nodes.{left-half, length-node, only-half, right-half, twice}

pub positive : (n : ℕ) → (n ≡ 0 → ⊥) → 0 < n
positive zero some = absurd (some refl)
positive (suc n) some = omega arith

min-left : (a b : ℕ) → min a b ≤ a
min-left a b = omega arith

one-text : (xs : List Text) (k : ℕ) (t : Text) → slice_get xs k ≡ Some t → take 1 (drop k xs) ≡ t ∷ []
one-text [] k t at = absurd cc
one-text (x ∷ xs) zero t at = let same : x ≡ t = cc in ap (λ y. y ∷ []) same
one-text (x ∷ xs) (suc k) t at = one-text xs k t at

place-front : (xs : List Text) (n k : ℕ) (t : Text) → k < n → slice_get xs k ≡ Some t → slice_get (take n xs) k ≡ Some t
place-front [] n k t less at = absurd cc
place-front (x ∷ xs) zero k t less at = absurd (omega (arith, less))
place-front (x ∷ xs) (suc n) zero t less at = at
place-front (x ∷ xs) (suc n) (suc k) t less at = place-front xs n k t (omega (arith, less)) at

more-half : (size j start : ℕ) (M : List Text) → size ≤ length M → 2 ^ j < size - start
    → 2 ^ j < length (node_texts size (suc j) start M)
more-half size j start M within more =
    let long = length-node size (suc j) start M within in
    let double = twice j in
    let pos = pow_pos j in
    omega arith

-- the top node has all texts of the version
node-all : (size : ℕ) (M : List Text) → size ≤ length M → node_texts size (depth size) 0 M ≡ take size M
unfolding node_texts
node-all size M within =
    let fits = depth-fits size in
    let long = length-take-le size M within in
    take_all (2 ^ depth size) (take size M) (omega arith)

module _ (d : Digest) (size start : ℕ) (M : List Text) where
  pub hidden-part : (level : ℕ) (x : Text) → x ≡ part d level (node_texts size level start M)
      → PrunesAt d level (hidden x) (node_texts size level start M)
  unfolding PrunesAt
  hidden-part zero x is = is
  hidden-part (suc j) x is = is

  pub leaf-part : (level : ℕ) (t : Text) → level ≡ 0 → start < size → size ≤ length M → slice_get M start ≡ Some t
      → PrunesAt d level (leaf t) (node_texts size level start M)
  unfolding PrunesAt node_texts
  leaf-part level t bottom within version there = by level bottom
    where
      by : (j : ℕ) → j ≡ 0 → PrunesAt d j (leaf t) (node_texts size j start M)
      by zero e = one-text (take size M) start t (place-front M size start t within there)
      by (suc j) e = absurd cc

  pub single-part : (level : ℕ) (l : Tree) → (level ≡ 0 → ⊥) → size ≤ length M → size - start ≤ 2 ^ (level - 1)
      → PrunesAt d (level - 1) l (node_texts size (level - 1) start M)
      → PrunesAt d level (single l) (node_texts size level start M)
  unfolding PrunesAt
  single-part level l some within few inner =
      let e : level ≡ suc (level - 1) = omega (arith, positive level some) in
      subst (λ (j : ℕ). PrunesAt d j (single l) (node_texts size j start M)) (sym e) (by (level - 1) few inner)
    where
      by : (j : ℕ) → size - start ≤ 2 ^ j → PrunesAt d j l (node_texts size j start M)
          → PrunesAt d (suc j) (single l) (node_texts size (suc j) start M)
      by j less under =
          let same = only-half size j start M within less in
          let long = length-node size j start M within in (
            let e = ap length same in
                let low = min-left (2 ^ j) (size - start) in omega arith,
            subst (PrunesAt d j l) (sym same) under,
          )

  pub node-part : (level : ℕ) (l r : Tree) → (level ≡ 0 → ⊥) → size ≤ length M → 2 ^ (level - 1) < size - start
      → PrunesAt d (level - 1) l (node_texts size (level - 1) start M)
      → PrunesAt d (level - 1) r (node_texts size (level - 1) (start + 2 ^ (level - 1)) M)
      → PrunesAt d level (node l r) (node_texts size level start M)
  unfolding PrunesAt
  node-part level l r some within more left right =
      let e : level ≡ suc (level - 1) = omega (arith, positive level some) in
      subst (λ (j : ℕ). PrunesAt d j (node l r) (node_texts size j start M)) (sym e) (by (level - 1) more left right)
    where
      by : (j : ℕ) → 2 ^ j < size - start → PrunesAt d j l (node_texts size j start M)
          → PrunesAt d j r (node_texts size j (start + 2 ^ j) M)
          → PrunesAt d (suc j) (node l r) (node_texts size (suc j) start M)
      by j most first second = (
        more-half size j start M within most,
        subst (PrunesAt d j l) (sym (left-half size j start M)) first,
        subst (PrunesAt d j r) (sym (right-half size j start M)) second,
      )

-- the whole tree
pub whole-tree : (d : Digest) (size : ℕ) (M : List Text) (p : Tree) → 0 < size → size ≤ length M
    → PrunesAt d (depth size) p (node_texts size (depth size) 0 M) → Prunes d p (take size M)
whole-tree d size M p some within parts =
    let long = length-take-le size M within in
    let all = node-all size M in
    record {
      some = omega (arith, long, some);
      parts = subst (λ (n : ℕ). PrunesAt d (depth n) p (take size M)) (sym long)
          (subst (PrunesAt d (depth size) p) (all within) parts);
    }

pub low-level : (size level : ℕ) → size < 2 ^ 64 → level ≤ depth size → level ≤ 64
low-level size level fits low = elim (cases_lt 64 level) [
  | inl more ↦ let high = depth-least size 64 (omega (arith, more, low)) in absurd (omega (arith, high, fits))
  | inr le ↦ le
]

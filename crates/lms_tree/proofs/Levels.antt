-- The numbers of the nodes of one level, and a list that holds a tree.
use Rattle.std.proofs.Common.{◌≡◌, ◌⊎◌, ℕ, zero, suc, ◌+◌, ◌-◌, ◌*◌, ◌/◌, ◌%◌, ◌^◌, ◌≤◌, ◌<◌, List, [], length, slice_index_or, set, arith, refl, sym, ap, ◌∙◌, inl, inr}
use Rattle.std.proofs.lemmas.Bool.{cases_eq}
use Rattle.std.proofs.lemmas.List.{get_or-set_same, get_or-set_other}
use Rattle.std.proofs.Math.Pow.{pow_mono}
use Rattle.std.proofs.lemmas.Nat.{pow_pos}
use Rattle.std.proofs.lemmas.Grind.{pow_more}
use Rattle.lms_params.specs.declared.pair.Pair.{Pair}
use Rattle.lms_ots.specs.OneTime.{one_time_public}
use Rattle.lms_tree.specs.Valid.{inner_node, leaf_node}
use Rattle.lms_tree.specs.Signer.{node, sibling}

-- a level has twice the nodes of the one above it
pub twice : (h j : ℕ) → j < h → 2 ^ (h - j) ≡ 2 * 2 ^ (h - (j + 1))
twice h j l =
    let e : h - j ≡ h - (j + 1) + 1 = omega arith in
    let more = pow_more 2 (h - (j + 1)) in
    rw e (omega (arith, more))

-- a sibling is of the same level
pub sibling_least : (n p : ℕ) → 2 * p ≤ n → 2 * p ≤ sibling n
unfolding sibling
sibling_least n p low = grind arith

pub sibling_most : (n p : ℕ) → n < 4 * p → sibling n < 4 * p
unfolding sibling
sibling_most n p high = grind arith

pub small_level : (h j : ℕ) → 2 ^ (h - j) ≤ 2 ^ h
small_level h j = let l : h - j ≤ h = omega arith in pow_mono l

-- a list whose leaves are written up to q, and the next one
pub leaf_more : (private id : List ℕ) (pair : Pair) (nodes : List (List ℕ)) (q : ℕ) (value : List ℕ) →
    2 ^ pair.lms.h + q < length nodes →
    value ≡ leaf_node id (2 ^ pair.lms.h + q) (one_time_public pair.ots id q private) →
    ((r : ℕ) → 2 ^ pair.lms.h ≤ r → r < 2 ^ pair.lms.h + q → slice_index_or nodes r [] ≡ node private id pair 0 r) →
    (r : ℕ) → 2 ^ pair.lms.h ≤ r → r < 2 ^ pair.lms.h + (q + 1) →
    slice_index_or (set nodes (2 ^ pair.lms.h + q) value) r [] ≡ node private id pair 0 r
unfolding node
leaf_more private id pair nodes q value room is before r low high =
    let at = 2 ^ pair.lms.h + q in
    elim (cases_eq r at) [
      | inl same ↦
          let number : at - 2 ^ pair.lms.h ≡ q = omega arith in
          rw (same, number) (get_or-set_same nodes at value [] room ∙ is)
      | inr differs ↦ get_or-set_other nodes at r value [] differs ∙ before r low (omega arith)
    ]

module _ (private id : List ℕ) (pair : Pair) (nodes : List (List ℕ))
    (leaves : (r : ℕ) → 2 ^ pair.lms.h ≤ r → r < 2 * 2 ^ pair.lms.h → slice_index_or nodes r [] ≡ node private id pair 0 r)
    (inner : (r : ℕ) → 0 < r → r < 2 ^ pair.lms.h → slice_index_or nodes r []
    ≡ inner_node id r (slice_index_or nodes (2 * r) []) (slice_index_or nodes (2 * r + 1) [])) where
  pub tree_from : (level r : ℕ) → level ≤ pair.lms.h → 2 ^ (pair.lms.h - level) ≤ r →
      r < 2 * 2 ^ (pair.lms.h - level) → slice_index_or nodes r [] ≡ node private id pair level r
  unfolding node
  tree_from zero r l low high =
      let e : pair.lms.h - 0 ≡ pair.lms.h = omega arith in
      leaves r (rw e at low) (rw e at high)
  tree_from (suc level) r l low high =
      let h = pair.lms.h in
      let next : h - suc level ≡ h - (level + 1) = omega arith in
      let double : 2 ^ (h - level) ≡ 2 * 2 ^ (h - (level + 1)) = twice h level (omega arith) in
      let least : 2 ^ (h - (level + 1)) ≤ r = rw next at low in
      let most : r < 2 * 2 ^ (h - (level + 1)) = rw next at high in
      let some : 0 < 2 ^ (h - (level + 1)) = pow_pos (h - (level + 1)) in
      let bound : 2 ^ (h - level) ≤ 2 ^ h = small_level h level in
      let left = tree_from level (2 * r) (omega arith) (omega arith) (omega arith) in
      let right = tree_from level (2 * r + 1) (omega arith) (omega arith) (omega arith) in
      rw (← left, ← right) (inner r (omega arith) (omega arith))

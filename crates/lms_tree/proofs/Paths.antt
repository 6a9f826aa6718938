-- Merkle paths, one level on.
use Rattle.std.proofs.Common.{◌≡◌, ℕ, zero, suc, ◌+◌, ◌-◌, ◌*◌, ◌/◌, ◌^◌, ◌<◌, ◌≤◌, List, drop, take, slice_range, arith, refl, ap, sym, ◌∙◌, add-one}
use Rattle.std.proofs.Math.Nat.{div-div-eq-div-mul}
use Rattle.std.proofs.lemmas.Grind.{pow_more}
use Rattle.std.proofs.lemmas.List.{drop-drop}
use Rattle.lms_tree.specs.Valid.{parent_node, path_node}

pub half_more : (r j : ℕ) → r / 2 ^ j / 2 ≡ r / 2 ^ (j + 1)
half_more r j = rw pow_more (div-div-eq-div-mul r (2 ^ j) 2)

pub path_more : (id : List ℕ) (r : ℕ) (leaf : List ℕ) (path : ℕ → List ℕ) (j : ℕ) →
    path_node id r leaf path (j + 1) ≡ parent_node id (r / 2 ^ j) (path_node id r leaf path j) (path j)
unfolding path_node
path_more id r leaf path j = rw add-one

pub path_same : (id : List ℕ) (r : ℕ) (leaf : List ℕ) (f g : ℕ → List ℕ) (n : ℕ) → ((j : ℕ) → j < n → f j ≡ g j) →
    path_node id r leaf f n ≡ path_node id r leaf g n
unfolding path_node
path_same id r leaf f g zero h = refl
path_same id r leaf f g (suc n) h =
    let below = path_same id r leaf f g n (λ j l. h j (omega arith)) in
    let last : f n ≡ g n = h n (omega arith) in
    rw (below, last) refl

-- a piece of what is left of a string
pub piece_behind : (s : List ℕ) (a j : ℕ) →
    slice_range (drop a s) (32 * j) (32 * j + 32) ≡ slice_range s (a + 32 * j) (a + 32 * j + 32)
piece_behind s a j =
    let one : 32 * j + 32 - 32 * j ≡ 32 = omega arith in
    let other : a + 32 * j + 32 - (a + 32 * j) ≡ 32 = omega arith in
    rw (one, other) (ap (λ xs. take 32 xs) (drop-drop (32 * j) a s))

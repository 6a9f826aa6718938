-- Leaves and their texts.
use Rattle.std.proofs.Common.{◌≡◌, ℕ, zero, suc, ◌<◌, List, [], ◌∷◌, length, take, Some, refl, arith}
use Rattle.std.specs.Prelude.{slice_get}
use Rattle.op_types.specs.declared.op.Leaf.{Leaf}
use Rattle.op_types.specs.Spelling.{IsLeaf, leaf_text}
use Rattle.op_types.proofs.Ops.{leaf_text-one}
use Rattle.world_book.proofs.Places.{place-take}
use Rattle.world_audit.specs.Comparisons.{texts_of}

pub place-of : {A : Type 0} (xs : List A) (k : ℕ) → k < length xs → (x : A) × (slice_get xs k ≡ Some x)
place-of [] k within = absurd (omega arith)
place-of (x ∷ xs) zero within = (x, refl)
place-of (x ∷ xs) (suc k) within = place-of xs k (omega arith)

pub same-places : {A : Type 0} (xs ys : List A) → length xs ≡ length ys
    → ((k : ℕ) (x : A) → slice_get xs k ≡ Some x → slice_get ys k ≡ Some x) → xs ≡ ys
same-places [] [] long same = refl
same-places [] (y ∷ ys) long same = absurd (omega arith)
same-places (x ∷ xs) [] long same = absurd (omega arith)
same-places (x ∷ xs) (y ∷ ys) long same =
    let first : y ≡ x = let e = same 0 x refl in cc in
    let rest = same-places xs ys (let e : length xs ≡ length ys = omega arith in e) (λ k z at. same (suc k) z at) in
    cc

-- Each of them has a spelling.
pub record AreLeaves (leaves : List Leaf) : Type 0 where
  pub each : (k : ℕ) (l : Leaf) → slice_get leaves k ≡ Some l → IsLeaf l

pub take-leaves : (n : ℕ) (leaves : List Leaf) → AreLeaves leaves → AreLeaves (take n leaves)
take-leaves n leaves are = record { each = λ k l at. are.each k l (place-take n leaves k l at).1 }

pub same-leaf : (x y : Leaf) → IsLeaf x → IsLeaf y → leaf_text x ≡ leaf_text y → x ≡ y
same-leaf x y hx hy e =
    leaf_text-one x y (leaf_text x) (record { is_leaf = hx; text = refl }) (record { is_leaf = hy; text = e })

-- Leaves of equal texts are equal.
pub same-leaves : (xs ys : List Leaf) → AreLeaves xs → AreLeaves ys → texts_of xs ≡ texts_of ys → xs ≡ ys
same-leaves [] [] hx hy e = refl
same-leaves [] (y ∷ ys) hx hy e = absurd cc
same-leaves (x ∷ xs) [] hx hy e = absurd cc
same-leaves (x ∷ xs) (y ∷ ys) hx hy e =
    let text : leaf_text x ≡ leaf_text y = cc in
    let others : texts_of xs ≡ texts_of ys = cc in
    let first = same-leaf x y (hx.each 0 x refl) (hy.each 0 y refl) text in
    let rest =
    same-leaves xs ys (record { each = λ k l at. hx.each (suc k) l at }) (record {
      each = λ k l at. hy.each
          (suc k) l at;
    }) others in
    cc

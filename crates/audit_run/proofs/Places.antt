-- Lists and their places.
use Rattle.std.proofs.Common.{◌≡◌, ◌∙◌, ℕ, zero, suc, ◌+◌, ◌<◌, List, [], ◌∷◌, ◌++◌, length, take, Some, refl, sym, ap, arith}
use Rattle.std.specs.Prelude.{slice_get}

-- Lists of one length that have the same at each place are one list.
pub same-places : {A : Type 0} (xs ys : List A) → length xs ≡ length ys
    → ((k : ℕ) → k < length xs → slice_get xs k ≡ slice_get ys k) → xs ≡ ys
same-places [] [] long same = refl
same-places [] (y ∷ ys) long same = absurd (omega (arith, long))
same-places (x ∷ xs) [] long same = absurd (omega (arith, long))
same-places (x ∷ xs) (y ∷ ys) long same =
    let first = same 0 (omega arith) in
    let here : x ≡ y = cc in
    let rest = same-places xs ys (let n : length xs ≡ length ys = omega (arith, long) in n)
    (λ k less. same (suc k) (omega (arith, less))) in
    ap (λ z. z ∷ xs) here ∙ ap (λ zs. y ∷ zs) rest

-- the front with one more
pub take-next : {A : Type 0} (xs : List A) (k : ℕ) (x : A) → slice_get xs k ≡ Some x → take k xs ++ x ∷ [] ≡ take (k + 1) xs
take-next [] k x at = absurd cc
take-next (y ∷ ys) zero x at = let same : y ≡ x = cc in ap (λ z. z ∷ []) (sym same)
take-next (y ∷ ys) (suc k) x at =
    let e : suc (k + 1) ≡ suc k + 1 = omega arith in
    ap (λ zs. y ∷ zs) (take-next ys k x at) ∙ ap (λ n. take n (y ∷ ys)) e

pub grown : {A : Type 0} (xs ys zs : List A) (k : ℕ) (x : A) → ys ≡ take k xs → zs ≡ ys ++ x ∷ [] → slice_get xs k ≡ Some x
    → zs ≡ take (k + 1) xs
grown xs ys zs k x front more at =
    more ∙ ap (λ ws. ws ++ x ∷ []) front ∙ take-next xs k x at

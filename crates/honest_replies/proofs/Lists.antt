-- Places in lists.
use Rattle.std.proofs.Common.{◌≡◌, ℕ, zero, suc, ◌+◌, ◌<◌, List, [], ◌∷◌, length, drop, map, Option, Some, None, refl, ap, sym, subst, ◌∙◌, arith}
use Rattle.std.specs.Prelude.{slice_get, IsSome}
use Rattle.std.specs.List.{AllByRecursion}

pub some-is : {A : Type 0} (o : Option A) → IsSome o → (a : A) × (o ≡ Some a)
some-is None h = absurd cc
some-is (Some a) h = (a, refl)

pub all-at : {A : Type 0} (P : A → Type 0) (xs : List A) (k : ℕ) (x : A) → AllByRecursion P xs
    → slice_get xs k ≡ Some x → P x
all-at P [] k x each at = absurd cc
all-at P (y ∷ ys) zero x each at = let same : y ≡ x = cc in subst P same each.0
all-at P (y ∷ ys) (suc k) x each at = all-at P ys k x each.1 at

pub at-below : {A : Type 0} (xs : List A) (k : ℕ) → k < length xs → (x : A) × (slice_get xs k ≡ Some x)
at-below [] k below = absurd (omega arith)
at-below (x ∷ xs) zero below = (x, refl)
at-below (x ∷ xs) (suc k) below = at-below xs k (omega arith)

pub below-at : {A : Type 0} (xs : List A) (k : ℕ) (x : A) → slice_get xs k ≡ Some x → k < length xs
below-at [] k x at = absurd cc
below-at (y ∷ ys) zero x at = omega arith
below-at (y ∷ ys) (suc k) x at = let h = below-at ys k x at in omega arith

pub drop-at : {A : Type 0} (xs : List A) (k : ℕ) (x : A) → slice_get xs k ≡ Some x → drop k xs ≡ x ∷ drop (k + 1) xs
drop-at [] k x at = absurd cc
drop-at (y ∷ ys) zero x at = let same : y ≡ x = cc in ap (λ z. z ∷ ys) same
drop-at (y ∷ ys) (suc k) x at =
    let e : suc (k + 1) ≡ suc k + 1 = omega arith in
    drop-at ys k x at ∙ ap (λ n. x ∷ drop n (y ∷ ys)) e

pub at-drop : {A : Type 0} (xs : List A) (n k : ℕ) → slice_get (drop n xs) k ≡ slice_get xs (n + k)
at-drop xs zero k = let e : zero + k ≡ k = omega arith in ap (slice_get xs) (sym e)
at-drop [] (suc n) k = refl
at-drop (x ∷ xs) (suc n) k = let e : suc n + k ≡ suc (n + k) = omega arith in at-drop xs n k ∙ ap (slice_get (x ∷ xs)) (sym e)

-- of all of a list, and so of the rest behind any number
pub all-drop : {A : Type 0} (P : A → Type 0) (n : ℕ) (xs : List A) → AllByRecursion P xs → AllByRecursion P (drop n xs)
all-drop P zero xs each = each
all-drop P (suc n) [] each = each
all-drop P (suc n) (x ∷ xs) each = all-drop P n xs each.1

pub map-at : {A B : Type 0} (f : A → B) (xs : List A) (k : ℕ) (x : A) → slice_get xs k ≡ Some x
    → slice_get (map f xs) k ≡ Some (f x)
map-at f [] k x at = absurd cc
map-at f (y ∷ ys) zero x at = let same : y ≡ x = cc in ap (λ z. Some (f z)) same
map-at f (y ∷ ys) (suc k) x at = map-at f ys k x at

-- Places in lists.
use Rattle.std.proofs.Common.{◌≡◌, ◌⊎◌, inl, inr, ℕ, zero, suc, ◌+◌, ◌-◌, ◌<◌, ◌≤◌, Bool, true, List, [], ◌∷◌, ◌++◌, length, take, Some, refl, ap, sym, subst, ◌∙◌, arith}
use Rattle.std.specs.Prelude.{find, fold, slice_get}
use Rattle.std.specs.List.{AllByRecursion, flat_map}
use Rattle.std.proofs.lemmas.Bool.{cases_Bool, cond-true, cond-false, false_from_ne_true}
use Rattle.std.proofs.lemmas.List.{take_more}
use Rattle.std.proofs.lemmas.Option.{get_or_from_slice_get, slice_get_within}
use Rattle.world_book.specs.Records.{IsIn}

pub each-of : {A : Type 0} (P : A → Type 0) (xs : List A) (i : ℕ) (x : A) → AllByRecursion P xs
    → slice_get xs i ≡ Some x → P x
each-of P [] i x all at = absurd cc
each-of P (a ∷ xs) zero x all at = let same : a ≡ x = cc in subst P same all.0
each-of P (a ∷ xs) (suc i) x all at = each-of P xs i x all.1 at

-- ---- joined lists

pub place-left : {A : Type 0} (xs ys : List A) (i : ℕ) (x : A) → slice_get xs i ≡ Some x
    → slice_get (xs ++ ys) i ≡ Some x
place-left [] ys i x at = absurd cc
place-left (a ∷ xs) ys zero x at = at
place-left (a ∷ xs) ys (suc i) x at = place-left xs ys i x at

pub place-right : {A : Type 0} (xs ys : List A) (i : ℕ) → slice_get (xs ++ ys) (length xs + i) ≡ slice_get ys i
place-right [] ys i = ap (slice_get ys) (let e : 0 + i ≡ i = omega arith in e)
place-right (a ∷ xs) ys i =
    let e : suc (length xs) + i ≡ suc (length xs + i) = omega arith in
    ap (slice_get (a ∷ (xs ++ ys))) e ∙ place-right xs ys i

pub place-either : {A : Type 0} (xs ys : List A) (i : ℕ) (x : A) → slice_get (xs ++ ys) i ≡ Some x
    → (slice_get xs i ≡ Some x) ⊎ ((length xs ≤ i) × (slice_get ys (i - length xs) ≡ Some x))
place-either [] ys i x at =
    let e : i ≡ i - 0 = omega arith in inr (omega arith, subst (λ (n : ℕ). slice_get ys n ≡ Some x) e at)
place-either (a ∷ xs) ys zero x at = inl at
place-either (a ∷ xs) ys (suc i) x at = elim (place-either xs ys i x at) [
  | inl there ↦ inl there
  | inr behind ↦
      let e : i - length xs ≡ suc i - suc (length xs) = omega arith in
      inr (let less = behind.0 in omega arith, subst (λ (n : ℕ). slice_get ys n ≡ Some x) e behind.1)
]

-- of a list and one more
pub place-last : {A : Type 0} (xs : List A) (y : A) (i : ℕ) (x : A) → slice_get (xs ++ y ∷ []) i ≡ Some x
    → (slice_get xs i ≡ Some x) ⊎ ((i ≡ length xs) × (x ≡ y))
place-last [] y zero x at = inr (refl, let same : x ≡ y = cc in same)
place-last [] y (suc i) x at = absurd cc
place-last (a ∷ xs) y zero x at = inl at
place-last (a ∷ xs) y (suc i) x at = elim (place-last xs y i x at) [
  | inl there ↦ inl there
  | inr last ↦ inr (ap suc last.0, last.1)
]

-- ---- fronts

pub take-place : {A : Type 0} (n : ℕ) (xs : List A) (k : ℕ) → k < n → slice_get (take n xs) k ≡ slice_get xs k
take-place zero xs k less = absurd (omega arith)
take-place (suc n) [] k less = refl
take-place (suc n) (a ∷ xs) zero less = refl
take-place (suc n) (a ∷ xs) (suc k) less = take-place n xs k (omega arith)

pub place-take : {A : Type 0} (n : ℕ) (xs : List A) (k : ℕ) (x : A) → slice_get (take n xs) k ≡ Some x
    → (k < n) × (slice_get xs k ≡ Some x)
place-take zero xs k x at = absurd cc
place-take (suc n) [] k x at = absurd cc
place-take (suc n) (a ∷ xs) zero x at = (omega arith, at)
place-take (suc n) (a ∷ xs) (suc k) x at = let r = place-take n xs k x at in (let less = r.0 in omega arith, r.1)

pub take-next : {A : Type 0} (xs : List A) (i : ℕ) (x : A) → slice_get xs i ≡ Some x
    → take (i + 1) xs ≡ take i xs ++ x ∷ []
take-next xs i x at =
    take_more xs i x (slice_get_within xs i x at) ∙ ap (λ y. take i xs ++ y ∷ []) (get_or_from_slice_get xs i x x at)

-- within the front nothing changes where a list grows
pub take-append : {A : Type 0} (n : ℕ) (xs ys : List A) → n ≤ length xs → take n (xs ++ ys) ≡ take n xs
take-append zero xs ys less = refl
take-append (suc n) [] ys less = absurd (omega arith)
take-append (suc n) (a ∷ xs) ys less = ap (λ zs. a ∷ zs) (take-append n xs ys (omega arith))

-- ---- lists of lists

pub place-flat : {A B : Type 0} (f : A → List B) (xs : List A) (i : ℕ) (x : A) (y : B) → slice_get xs i ≡ Some x
    → IsIn (f x) y
    → IsIn (flat_map f xs) y
place-flat f [] i x y at inner = absurd cc
place-flat f (a ∷ xs) zero x y at inner =
    let same : a ≡ x = cc in
    record {
      place = inner.place;
      there = place-left (f a) (flat_map f xs) inner.place y (subst (λ z. slice_get (f z) inner.place ≡ Some y)
          (sym same) inner.there);
    }
place-flat f (a ∷ xs) (suc i) x y at inner =
    let r = place-flat f xs i x y at inner in
    record { place = length (f a) + r.place; there = place-right (f a) (flat_map f xs) r.place ∙ r.there }

pub flat-place : {A B : Type 0} (f : A → List B) (xs : List A) (k : ℕ) (y : B) → slice_get (flat_map f xs) k ≡ Some y
    → (x : A) × IsIn xs x × IsIn (f x) y
flat-place f [] k y at = absurd cc
flat-place f (a ∷ xs) k y at = elim (place-either (f a) (flat_map f xs) k y at) [
  | inl here ↦ (a, record { place = 0; there = refl }, record { place = k; there = here })
  | inr behind ↦
      let r = flat-place f xs (k - length (f a)) y behind.1 in
      (r.0, record { place = suc r.1.place; there = r.1.there }, r.2)
]

-- ---- searches

pub find-only : {A : Type 0} (p : A → Bool) (xs : List A) (i : ℕ) (x : A) → slice_get xs i ≡ Some x → p x ≡ true
    → ((k : ℕ) (y : A) → k < i → slice_get xs k ≡ Some y → p y ≡ true → ⊥) → find p xs ≡ Some x
find-only p [] i x at is alone = absurd cc
find-only p (a ∷ xs) zero x at is alone =
    let same : a ≡ x = cc in cond-true (p a) (Some a) (find p xs) (ap p same ∙ is) ∙ ap Some same
find-only p (a ∷ xs) (suc i) x at is alone =
    cond-false (p a) (Some a) (find p xs) (false_from_ne_true (p a) (λ e. alone 0 a (omega arith) refl e))
    ∙ find-only p xs i x at is (λ k y less there e. alone (suc k) y (omega arith) there e)

pub find-some : {A : Type 0} (p : A → Bool) (xs : List A) (x : A) → find p xs ≡ Some x → IsIn xs x × (p x ≡ true)
find-some p [] x e = absurd cc
find-some p (a ∷ xs) x e = elim (cases_Bool (p a)) [
  | inl is ↦
      let same : a ≡ x = let f = sym (cond-true (p a) (Some a) (find p xs) is) ∙ e in cc in
      (record { place = 0; there = ap Some same }, ap p (sym same) ∙ is)
  | inr not ↦
      let r = find-some p xs x (sym (cond-false (p a) (Some a) (find p xs) not) ∙ e) in
      (record { place = suc r.0.place; there = r.0.there }, r.1)
]

-- where one is met, the first one that is met
pub find-first : {A : Type 0} (p : A → Bool) (xs : List A) (i : ℕ) (x : A) → slice_get xs i ≡ Some x → p x ≡ true
    → (y : A) × (find p xs ≡ Some y)
find-first p [] i x at is = absurd cc
find-first p (a ∷ xs) zero x at is =
    let same : a ≡ x = cc in (a, cond-true (p a) (Some a) (find p xs) (ap p same ∙ is))
find-first p (a ∷ xs) (suc i) x at is = elim (cases_Bool (p a)) [
  | inl here ↦ (a, cond-true (p a) (Some a) (find p xs) here)
  | inr not ↦ let r = find-first p xs i x at is in (r.0, cond-false (p a) (Some a) (find p xs) not ∙ r.1)
]

pub fold-last : {A B : Type 0} (f : B → A → B) (b : B) (xs : List A) (x : A)
    → fold f b (xs ++ x ∷ []) ≡ f (fold f b xs) x
fold-last f b [] x = refl
fold-last f b (a ∷ xs) x = fold-last f (f b a) xs x

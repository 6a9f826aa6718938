-- Members of lists.
use Rattle.std.proofs.Common.{◌≡◌, ◌⊎◌, inl, inr, ℕ, zero, suc, ◌+◌, ◌-◌, ◌<◌, Bool, true, List, [], ◌∷◌, ◌++◌, length, get_or, Option, Some, None, refl, ap, sym, subst, ◌∙◌, arith}
use Rattle.std.specs.Prelude.{filter, is_some, reverse, slice_get}
use Rattle.std.specs.List.{list_any}
use Rattle.std.proofs.lemmas.Bool.{cases_Bool, cond-true, cond-false, or_cases, or_left, or_right}
use Rattle.std.proofs.lemmas.List.{get_or-reverse, length-reverse}
use Rattle.std.proofs.lemmas.Option.{get_or_from_slice_get, slice_get-get_or, slice_get_within}
use Rattle.world_book.specs.Records.{IsIn}
use Rattle.world_book.proofs.Places.{place-either, place-left, place-right}
use Rattle.world_audit.specs.Comparisons.{some_in}

pub in-either : {A : Type 0} (xs ys : List A) (x : A) → IsIn (xs ++ ys) x → IsIn xs x ⊎ IsIn ys x
in-either xs ys x at = elim (place-either xs ys at.place x at.there) [
  | inl there ↦ inl (record { place = at.place; there = there })
  | inr behind ↦ inr (record { place = at.place - length xs; there = behind.1 })
]

pub in-cons : {A : Type 0} (a : A) (xs : List A) (x : A) → IsIn (a ∷ xs) x → (a ≡ x) ⊎ IsIn xs x
in-cons a xs x at = by at.place at.there
  where
    by : (i : ℕ) → slice_get (a ∷ xs) i ≡ Some x → (a ≡ x) ⊎ IsIn xs x
    by zero at = inl (let same : a ≡ x = cc in same)
    by (suc i) at = inr (record { place = i; there = at })

pub in-behind : {A : Type 0} (a : A) (xs : List A) (x : A) → IsIn xs x → IsIn (a ∷ xs) x
in-behind a xs x at = record { place = suc at.place; there = at.there }

pub in-some : {A : Type 0} (o : Option A) (x : A) → IsIn (some_in o) x → o ≡ Some x
in-some None x at = absurd (let e = at.there in cc)
in-some (Some a) x at = elim (in-cons a [] x at) [
  | inl same ↦ ap Some same
  | inr none ↦ absurd
      (let e = none.there in cc)
]

pub in-filter : {A : Type 0} (p : A → Bool) (xs : List A) (x : A) → IsIn (filter p xs) x → IsIn xs x × (p x ≡ true)
in-filter p [] x at = absurd (let e = at.there in cc)
in-filter p (a ∷ xs) x at = elim (cases_Bool (p a)) [
  | inl is ↦ elim (in-cons a (filter p xs) x
      (subst (λ ys. IsIn ys x) (cond-true (p a) (a ∷ filter p xs) (filter p xs) is) at)) [
        | inl same ↦ (record { place = 0; there = ap Some same }, ap p (sym same) ∙ is)
        | inr rest ↦ let it = in-filter p xs x rest in (in-behind a xs x it.0, it.1)
      ]
  | inr not ↦
      let it = in-filter p xs x (subst (λ ys. IsIn ys x) (cond-false (p a) (a ∷ filter p xs) (filter p xs) not) at) in
      (in-behind a xs x it.0, it.1)
]

pub filter-in : {A : Type 0} (p : A → Bool) (xs : List A) (i : ℕ) (x : A) → slice_get xs i ≡ Some x → p x ≡ true
    → IsIn (filter p xs) x
filter-in p [] i x at is = absurd cc
filter-in p (a ∷ xs) zero x at is =
    let same : a ≡ x = cc in
    record {
      place = 0;
      there = ap (λ ys. slice_get ys 0) (cond-true (p a) (a ∷ filter p xs) (filter p xs) (ap p same ∙ is))
          ∙ ap Some same;
    }
filter-in p (a ∷ xs) (suc i) x at is =
    let rest = filter-in p xs i x at is in
    elim (cases_Bool (p a)) [
      | inl here ↦ subst (λ ys. IsIn ys x) (sym (cond-true (p a) (a ∷ filter p xs) (filter p xs) here))
          (in-behind a (filter p xs) x rest)
      | inr not ↦ subst (λ ys. IsIn ys x) (sym (cond-false (p a) (a ∷ filter p xs) (filter p xs) not)) rest
    ]

pub left-in : {A : Type 0} (xs ys : List A) (x : A) → IsIn xs x → IsIn (xs ++ ys) x
left-in xs ys x at = record { place = at.place; there = place-left xs ys at.place x at.there }

pub right-in : {A : Type 0} (xs ys : List A) (x : A) → IsIn ys x → IsIn (xs ++ ys) x
right-in xs ys x at = record { place = length xs + at.place; there = place-right xs ys at.place ∙ at.there }

pub some-in : {A : Type 0} (o : Option A) (x : A) → o ≡ Some x → IsIn (some_in o) x
some-in None x e = absurd cc
some-in (Some a) x e = record { place = 0; there = e }

-- ---- tests

pub any-some : {A : Type 0} (p : A → Bool) (xs : List A) → list_any p xs ≡ true → (x : A) × IsIn xs x × (p x ≡ true)
any-some p [] e = absurd cc
any-some p (a ∷ xs) e = elim (or_cases (p a) (list_any p xs) e) [
  | inl here ↦ (a, record { place = 0; there = refl }, here)
  | inr rest ↦ let it = any-some p xs rest in (it.0, in-behind a xs it.0 it.1, it.2)
]

pub some-any : {A : Type 0} (p : A → Bool) (xs : List A) (i : ℕ) (x : A) → slice_get xs i ≡ Some x → p x ≡ true
    → list_any p xs ≡ true
some-any p [] i x at is = absurd cc
some-any p (a ∷ xs) zero x at is = let same : a ≡ x = cc in or_left (p a) (list_any p xs) (ap p same ∙ is)
some-any p (a ∷ xs) (suc i) x at is = or_right (p a) (list_any p xs) (some-any p xs i x at is)

-- ---- places of a list from its end

pub reverse-place : {A : Type 0} (xs : List A) (i : ℕ) (x : A) → slice_get (reverse xs) i ≡ Some x
    → (i < length xs) × (slice_get xs (length xs - 1 - i) ≡ Some x)
reverse-place xs i x at =
    let long = length-reverse xs in
    let within = slice_get_within (reverse xs) i x at in
    let less : i < length xs = omega arith in (
      less,
      slice_get-get_or xs (length xs - 1 - i) x (omega arith)
          ∙ ap Some (sym (get_or-reverse xs i x less) ∙ get_or_from_slice_get (reverse xs) i x x at),
    )

pub place-reverse : {A : Type 0} (xs : List A) (i : ℕ) (x : A) → slice_get xs i ≡ Some x
    → slice_get (reverse xs) (length xs - 1 - i) ≡ Some x
place-reverse xs i x at =
    let long = length-reverse xs in
    let within = slice_get_within xs i x at in
    let e : length xs - 1 - (length xs - 1 - i) ≡ i = omega arith in
    slice_get-get_or (reverse xs) (length xs - 1 - i) x (omega arith)
    ∙ ap Some (get_or-reverse xs (length xs - 1 - i) x (omega arith) ∙ ap (λ (n : ℕ). get_or xs n x) e
    ∙ get_or_from_slice_get xs i x x at)

pub there-is : {A : Type 0} (o : Option A) → is_some o ≡ true → (x : A) × (o ≡ Some x)
there-is None e = absurd cc
there-is (Some x) e = (x, refl)

-- Filters of filters, with the smaller and the greater users of each other; and a list around an entry.
use Rattle.std.proofs.Common.{◌≡◌, ℕ, ◌≤◌, Bool, true, false, ltb, List, [], ◌∷◌, refl, ap, inl, inr, arith}
use Rattle.std.specs.Prelude.{filter}
use Rattle.std.specs.List.{AllByRecursion}
use Rattle.std.proofs.lemmas.Bool.{lt-ltb, le-ltb, ltb-true, cases_Bool}
use Rattle.tree_model.specs.declared.entry.Entry.{Entry}
use Rattle.tree_model.specs.AccessList.{smaller, greater}

-- ---- any filters

pub filter-swap : {X : Type 0} (p q : X → Bool) (xs : List X) → filter p (filter q xs) ≡ filter q (filter p xs)
filter-swap p q [] = refl
filter-swap {X} p q (x ∷ xs) =
    let others = filter-swap p q xs in
    elim (cases_Bool (q x)) [
      | inl kept ↦ elim (cases_Bool (p x)) [
        | inl kept' ↦ rw (kept, kept') (rw kept (ap (λ (ys : List X). x ∷ ys) others))
        | inr lost' ↦ rw (kept, lost') others
      ]
      | inr lost ↦ elim (cases_Bool (p x)) [
        | inl kept' ↦ rw (lost, kept') (rw lost others)
        | inr lost' ↦ rw (lost, lost') others
      ]
    ]

-- where the outer test implies the inner one
pub filter-within : {X : Type 0} (p q : X → Bool) → ((x : X) → p x ≡ true → q x ≡ true) → (xs : List X)
    → filter p (filter q xs) ≡ filter p xs
filter-within p q implies [] = refl
filter-within p q implies (x ∷ xs) =
    let others = filter-within p q implies xs in
    elim (cases_Bool (q x)) [
      | inl kept ↦ rw (kept, others) refl
      | inr lost ↦ elim (cases_Bool (p x)) [
        | inl kept' ↦ let never = implies x kept' in absurd cc
        | inr lost' ↦ rw (lost, lost') others
      ]
    ]

-- where each test excludes the other
pub filter-apart : {X : Type 0} (p q : X → Bool) → ((x : X) → q x ≡ true → p x ≡ false) → (xs : List X)
    → filter p (filter q xs) ≡ []
filter-apart p q excludes [] = refl
filter-apart p q excludes (x ∷ xs) =
    let others = filter-apart p q excludes xs in
    elim (cases_Bool (q x)) [
      | inl kept ↦ rw (kept, excludes x kept) others
      | inr lost ↦ rw lost others
    ]

pub filter-all : {X : Type 0} (p : X → Bool) (xs : List X) → AllByRecursion (λ (x : X). p x ≡ true) xs
    → filter p xs ≡ xs
filter-all p [] all = refl
filter-all {X} p (x ∷ xs) all = rw all.0 (ap (λ (ys : List X). x ∷ ys) (filter-all p xs all.1))

pub filter-none : {X : Type 0} (p : X → Bool) (xs : List X) → AllByRecursion (λ (x : X). p x ≡ false) xs
    → filter p xs ≡ []
filter-none p [] none = refl
filter-none p (x ∷ xs) none = rw none.0 (filter-none p xs none.1)

-- ---- the smaller and the greater users

pub smaller-smaller : (u t : ℕ) (es : List Entry) → u ≤ t → smaller u (smaller t es) ≡ smaller u es
smaller-smaller u t es low = filter-within (λ (x : Entry). ltb x.user u) (λ (x : Entry). ltb x.user t) (λ x less. let it = ltb-true x.user u less in lt-ltb x.user t (omega arith)) es

pub greater-greater : (u t : ℕ) (es : List Entry) → t ≤ u → greater u (greater t es) ≡ greater u es
greater-greater u t es high = filter-within (λ (x : Entry). ltb u x.user) (λ (x : Entry). ltb t x.user) (λ x more. let it = ltb-true u x.user more in lt-ltb t x.user (omega arith)) es

pub smaller-greater : (u t : ℕ) (es : List Entry) → smaller u (greater t es) ≡ greater t (smaller u es)
smaller-greater u t es = filter-swap (λ (x : Entry). ltb x.user u) (λ (x : Entry). ltb t x.user) es

-- nobody lies between
pub smaller-greater_none : (u t : ℕ) (es : List Entry) → u ≤ t → smaller u (greater t es) ≡ []
smaller-greater_none u t es low = filter-apart (λ (x : Entry). ltb x.user u) (λ (x : Entry). ltb t x.user) (λ x more. let it = ltb-true t x.user more in le-ltb x.user u (omega arith)) es

-- Numbers that are listed, sorted and looked up.
use Rattle.std.proofs.Common.{◌≡◌, ◌≢◌, ◌∙◌, ℕ, ◌<◌, ◌≤◌, zero, suc, Bool, true, false, None, List, [], ◌∷◌, length, map, get_or, refl, ap, sym, subst, inl, inr, arith, eq-eqb}
use Rattle.std.specs.Prelude.{find, nat_eq, unwrap_or}
use Rattle.std.specs.List.{All, AllByRecursion, AllPairs, Contains, IsDistinct, list_any, slice_get}
use Rattle.std.specs.List.Sorted.{IsNonDecreasing, IsPermutation}
use Rattle.std.proofs.lemmas.Bool.{cases_Bool, cases_eq, eqb-true, ne_eqb}
use Rattle.std.proofs.lemmas.Bool.Decides.{Decides-eqb}
use Rattle.std.proofs.lemmas.List.Elements.{All-contains_itself, All-weaker}
use Rattle.std.proofs.lemmas.List.Sorted.{All-permutation, Contains-permutation}
use Rattle.std.proofs.lemmas.Map.Keys.{IsDistinct-IsPermutation}
use Rattle.std.proofs.lemmas.Map.Made.{AllPairs-from_IsDistinct}
use Rattle.std.proofs.lemmas.Option.{get_or_from_slice_get, slice_get_within}
use Rattle.world_book.specs.Records.{Rise}
use Rattle.run_start.specs.Numbers.{Lists}

-- ---- rising numbers

eq-flips : (m n : ℕ) → nat_eq m n ≡ nat_eq n m
eq-flips m n = elim (cases_eq m n) [
  | inl is ↦ eq-eqb m n is ∙ sym (eq-eqb n m (sym is))
  | inr ne ↦ ne_eqb m n ne ∙ sym (ne_eqb n m (λ is. ne (sym is)))
]

-- numbers of which none stands twice, in order
pub rises : (xs : List ℕ) → AllPairs (λ (m n : ℕ). m ≢ n) xs → IsNonDecreasing xs → Rise xs
rises xs apart up i j m n less at bt =
    let within : j < length xs = slice_get_within xs j n bt in
    let a : get_or xs i 0 ≡ m = get_or_from_slice_get xs i m 0 at in
    let b : get_or xs j 0 ≡ n = get_or_from_slice_get xs j n 0 bt in
    let le : get_or xs i 0 ≤ get_or xs j 0 = up i j 0 (omega arith) within in
    let ne : m ≢ n = λ is. apart i j 0 less within (a ∙ is ∙ sym b) in
    omega arith

-- ---- listed numbers

module _ {A : Type 0} (number : A → ℕ) where
  abbrev pub is-listed : List A → ℕ → Bool
  is-listed xs n = list_any (λ (x : A). nat_eq (number x) n) xs

  apart-from : (x : A) (xs : List A) → AllByRecursion (λ (y : A). nat_eq (number x) (number y) ≡ false) xs
      → AllByRecursion (λ (m : ℕ). nat_eq (number x) m ≡ false) (map number xs)
  apart-from x [] all = tt
  apart-from x (y ∷ xs) all = (all.0, apart-from x xs all.1)

  pub numbers-apart : (xs : List A) → IsDistinct (λ (a b : A). nat_eq (number a) (number b)) xs
      → IsDistinct nat_eq (map number xs)
  unfolding IsDistinct
  numbers-apart [] apart = tt
  numbers-apart (x ∷ xs) apart = (apart-from x xs apart.0, numbers-apart xs apart.1)

  listed-at : (xs : List A) (n k : ℕ) → k < length (map number xs) → get_or (map number xs) k n ≡ n
      → is-listed xs n ≡ true
  listed-at [] n k less is = absurd (omega arith)
  listed-at (x ∷ xs) n zero less is = rw (eq-eqb (number x) n is) refl
  listed-at (x ∷ xs) n (suc k) less is = elim (cases_Bool (nat_eq (number x) n)) [
    | inl here ↦ rw here refl
    | inr other ↦ rw other (listed-at xs n k (omega arith) is)
  ]

  pub listed-there : (xs : List A) (n : ℕ) → Contains (map number xs) n → is-listed xs n ≡ true
  listed-there xs n there = listed-at xs n there.0 there.1 there.2

  pub there-listed : (xs : List A) (n : ℕ) → is-listed xs n ≡ true → Contains (map number xs) n
  there-listed [] n listed = absurd cc
  there-listed (x ∷ xs) n listed = elim (cases_Bool (nat_eq (number x) n)) [
    | inl here ↦ (0, omega arith, eqb-true (number x) n here)
    | inr other ↦
        let rest : Contains (map number xs) n = there-listed xs n (rw other at listed) in
        (suc rest.0, (let less = rest.1 in omega arith), rest.2)
  ]

  -- distinct numbers, sorted
  pub lists-sorted : (xs : List A) (numbers : List ℕ) → IsDistinct (λ (a b : A). nat_eq (number a) (number b)) xs
      → IsPermutation (map number xs) numbers → IsNonDecreasing numbers → Lists (is-listed xs) numbers
  lists-sorted xs numbers apart same up =
      let distinct : IsDistinct nat_eq numbers =
      IsDistinct-IsPermutation nat_eq eq-flips (map number xs) numbers same (numbers-apart xs apart) in
      record {
        rise = rises numbers (AllPairs-from_IsDistinct Decides-eqb numbers distinct) up;
        each =
            All-permutation (λ (n : ℕ). is-listed xs n ≡ true) (map number xs) numbers same
            (All-weaker (Contains (map number xs)) (λ (n : ℕ). is-listed xs n ≡ true) (λ n there. listed-there xs n there)
            (map number xs) (All-contains_itself (map number xs)));
        all = λ n listed. Contains-permutation (map number xs) numbers n same (there-listed xs n listed);
      }

  -- what holds of each holds of the one that is looked up, and that one has the number
  pub found : (P : A → Type 0) (none : A) (xs : List A) (n : ℕ) → is-listed xs n ≡ true → AllByRecursion P xs
      → P (unwrap_or (find (λ (x : A). nat_eq (number x) n) xs) none)
      × (number (unwrap_or (find (λ (x : A). nat_eq (number x) n) xs) none) ≡ n)
  found P none [] n listed all = absurd cc
  found P none (x ∷ xs) n listed all = elim (cases_Bool (nat_eq (number x) n)) [
    | inl here ↦ rw here (all.0, eqb-true (number x) n here)
    | inr other ↦ rw other (found P none xs n (rw other at listed) all.1)
  ]

  -- one that is listed is found
  pub none-listed : (xs : List A) (n : ℕ) → is-listed xs n ≡ true → find (λ (x : A). nat_eq (number x) n) xs ≡ None → ⊥
  none-listed [] n listed none = cc
  none-listed (x ∷ xs) n listed none = elim (cases_Bool (nat_eq (number x) n)) [
    | inl here ↦ let both = rw here at none in cc
    | inr other ↦ none-listed xs n (rw other at listed) (rw other at none)
  ]

  -- where some are listed, there are numbers
  pub some-listed : (xs : List A) (numbers : List ℕ) → 0 < length xs → Lists (is-listed xs) numbers
      → 0 < length numbers
  some-listed [] numbers some lists = absurd (omega arith)
  some-listed (x ∷ xs) numbers some lists =
      let there : Contains numbers (number x) = lists.all (number x) (rw (eq-eqb (number x) (number x) refl) refl) in
      let less = there.1 in
      omega arith

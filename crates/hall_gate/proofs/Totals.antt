-- Sums over lists that are read by `get_elem?`: after one element changes, of two places, and against a bound of each element.
use Rattle.std.proofs.Common.{◌≡◌, ◌≢◌, ℕ, zero, suc, ◌+◌, ◌<◌, ◌≤◌, List, [], ◌∷◌, ◌++◌, length, set, sym, refl, ap, subst, ⊎_elim, arith}
use mathlib.Core.Option.{some, some-injective, some-ne-none}
use lib.ListN.{get_elem?}
use Rattle.atomic_table.proofs.Lists.{at_set}
use Rattle.hall_gate.specs.Knowing.{total}

module _ {A : Type 0} (f : A → ℕ) where
  pub total_set : (l : List A) (i : ℕ) (v w : A) → get_elem? l i ≡ some v → total f (set l i w) + f v ≡ total f l + f w
  total_set [] i v w e = absurd (some-ne-none v (sym e))
  total_set (x ∷ xs) zero v w e = let is : f x ≡ f v = ap f (some-injective x v e) in omega arith
  total_set (x ∷ xs) (suc i) v w e = let r = total_set xs i v w e in omega arith

  pub total-append : (xs ys : List A) → total f (xs ++ ys) ≡ total f xs + total f ys
  total-append [] ys = omega arith
  total-append (x ∷ xs) ys = let r = total-append xs ys in omega arith

  -- the element at a place, and the elements at two places
  pub total_at : (l : List A) (i : ℕ) (v : A) → get_elem? l i ≡ some v → f v ≤ total f l
  total_at [] i v e = absurd (some-ne-none v (sym e))
  total_at (x ∷ xs) zero v e = let is : f x ≡ f v = ap f (some-injective x v e) in omega arith
  total_at (x ∷ xs) (suc i) v e = let r = total_at xs i v e in omega arith

  pub total_two : (l : List A) (i j : ℕ) (v w : A) → i ≢ j → get_elem? l i ≡ some v → get_elem? l j ≡ some w → f v + f w ≤ total f l
  total_two [] i j v w n e d = absurd (some-ne-none v (sym e))
  total_two (x ∷ xs) zero zero v w n e d = absurd (n refl)
  total_two (x ∷ xs) zero (suc j) v w n e d = let is : f x ≡ f v = ap f (some-injective x v e) in let r = total_at xs j w d in omega arith
  total_two (x ∷ xs) (suc i) zero v w n e d = let is : f x ≡ f w = ap f (some-injective x w d) in let r = total_at xs i v e in omega arith
  total_two (x ∷ xs) (suc i) (suc j) v w n e d = let r = total_two xs i j v w (λ is. n (ap suc is)) e d in omega arith

  pub total_none : (l : List A) → ((j : ℕ) (v : A) → get_elem? l j ≡ some v → f v ≡ 0) → total f l ≡ 0
  total_none [] each = refl
  total_none (x ∷ xs) each = let first = each zero x refl in let r = total_none xs (λ j. each (suc j)) in omega arith

  -- a change that the sum does not see
  pub total_same : (l : List A) (i : ℕ) (v w : A) → get_elem? l i ≡ some v → f w ≡ f v → total f (set l i w) ≡ total f l
  total_same l i v w e is = let r = total_set l i v w e in omega arith

pub total_le : {A : Type 0} (f g : A → ℕ) (l : List A) → ((j : ℕ) (v : A) → get_elem? l j ≡ some v → f v ≤ g v) → total f l ≤ total g l
total_le f g [] each = omega arith
total_le f g (x ∷ xs) each = let first = each zero x refl in let r = total_le f g xs (λ j. each (suc j)) in omega arith

module _ {A : Type 0} where
  pub place_below : (l : List A) (i : ℕ) (v : A) → get_elem? l i ≡ some v → i < length l
  place_below [] i v e = absurd (some-ne-none v (sym e))
  place_below (x ∷ xs) zero v e = omega arith
  place_below (x ∷ xs) (suc i) v e = let r = place_below xs i v e in omega arith

  -- what holds of each element after one has changed
  pub each_set : (K : ℕ → A → Type 0) (l : List A) (i : ℕ) (w : A) → K i w → ((j : ℕ) (v : A) → j ≢ i → get_elem? l j ≡ some v → K j v)
      → (j : ℕ) (v : A) → get_elem? (set l i w) j ≡ some v → K j v
  each_set K l i w mine others j v e = ⊎_elim (λ (t : (j ≡ i) × (w ≡ v)). subst (λ (x : ℕ × A). K x.0 x.1) (λ k. (sym t.0 k, t.1 k)) mine)
      (λ (t : (j ≢ i) × (get_elem? l j ≡ some v)). others j v t.0 t.1) (at_set l i j w v e)

  -- the one element of a list
  pub only : (x : A) (i : ℕ) (v : A) → get_elem? (x ∷ []) i ≡ some v → x ≡ v
  only x zero v e = some-injective x v e
  only x (suc i) v e = absurd (some-ne-none v (sym e))

  pub one_place : (l : List A) (a : A) → length l ≡ 1 → set l 0 a ≡ a ∷ []
  one_place [] a e = absurd (omega arith)
  one_place (x ∷ []) a e = refl
  one_place (x ∷ y ∷ l) a e = absurd (omega arith)

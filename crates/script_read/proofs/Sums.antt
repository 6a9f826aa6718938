-- What is left of a number from which a sum is taken, one part after the other.
use Rattle.std.proofs.Common.{◌≡◌, ℕ, ◌+◌, ◌-◌, ◌<◌, ◌≤◌, eqb, ltb, List, length, get_or, drop, refl, ap, ◌∙◌, arith, inl, inr}
use Rattle.std.specs.List.{sum_by}
use Rattle.std.proofs.lemmas.List.{drop_all}
use Rattle.std.proofs.lemmas.List.Sums.{sum_by-cons}
use Rattle.std.proofs.lemmas.Bool.{cases_lt, ne_eqb, lt-ltb, le-ltb}
use Rattle.script_read.proofs.Lists.{rest_at}

-- one part more is taken
pub taken_more : {X : Type 0} (f : X → ℕ) (i : ℕ) (xs : List X) (x : X) (left new total : ℕ)
    → i < length xs → x ≡ get_or xs i x → new ≡ left - f x
    → left - sum_by f (drop i xs) ≡ total
    → new - sum_by f (drop (i + 1) xs) ≡ total
taken_more f i xs x left new total lt is took so =
    let rest = drop (i + 1) xs in
    let split : sum_by f (drop i xs) ≡ f x + sum_by f rest =
    ap (sum_by f) (rest_at xs i x lt is) ∙ sum_by-cons f x rest in
    omega (arith, split, took, so)

-- all parts are taken
pub taken_all : {X : Type 0} (f : X → ℕ) (i : ℕ) (xs : List X) (left total : ℕ)
    → length xs ≤ i → left - sum_by f (drop i xs) ≡ total → left ≡ total
taken_all f i xs left total le so =
    let none : sum_by f (drop i xs) ≡ 0 = ap (sum_by f) (drop_all i xs le) in
    omega (arith, none, so)

-- nothing is left of one more exactly where too much is taken
pub none_left : (has took : ℕ) → eqb (has + 1 - took) 0 ≡ ltb has took
none_left has took = elim (cases_lt has took) [
  | inl lt ↦ let over : has + 1 - took ≡ 0 = omega arith in rw (over, lt-ltb has took lt) refl
  | inr le ↦ let some : has + 1 - took ≡ 0 → ⊥ = λ e. omega (arith, e) in
      rw (ne_eqb _ _ some, le-ltb has took le) refl
]

-- Sums of terms that are each at most another's.
use Rattle.std.proofs.Common.{◌≡◌, ℕ, zero, suc, ◌+◌, ◌*◌, ◌≤◌, ◌<◌, arith, add-one, inl, inr, sum_by}
use Rattle.std.proofs.lemmas.Bool.{cases_lt}
use Rattle.std.specs.List.{range_with_len}
use Rattle.lms_ots.proofs.Ranges.{sum_more}

sum_more_suc : (f : ℕ → ℕ) (n : ℕ) → sum_by f (range_with_len 0 (suc n)) ≡ sum_by f (range_with_len 0 n) + f n
sum_more_suc f n = rw add-one at (sum_more f n)

pub sum_bound : (f : ℕ → ℕ) (m n : ℕ) → ((i : ℕ) → f i ≤ m) → sum_by f (range_with_len 0 n) ≤ n * m
sum_bound f m zero h = omega arith
sum_bound f m (suc n) h = rw sum_more_suc (omega (arith, sum_bound f m n h, h n))

pub sums_le : (f g : ℕ → ℕ) (n : ℕ) → ((i : ℕ) → i < n → f i ≤ g i) →
    sum_by f (range_with_len 0 n) ≤ sum_by g (range_with_len 0 n)
sums_le f g zero h = omega arith
sums_le f g (suc n) h =
    let before = sums_le f g n (λ i l. h i (omega arith)) in
    let last : f n ≤ g n = h n (omega arith) in
    omega (arith, before, last, sum_more_suc f n, sum_more_suc g n)

-- if the larger terms have no larger sum, they are the same
pub sums_same : (f g : ℕ → ℕ) (n : ℕ) → ((i : ℕ) → i < n → f i ≤ g i) →
    sum_by g (range_with_len 0 n) ≤ sum_by f (range_with_len 0 n) → (i : ℕ) → i < n → g i ≤ f i
sums_same f g zero h s i l = omega arith
sums_same f g (suc n) h s i l =
    let below : (j : ℕ) → j < n → f j ≤ g j = λ j k. h j (omega arith) in
    let before = sums_le f g n below in
    let last : f n ≤ g n = h n (omega arith) in
    let rest : sum_by g (range_with_len 0 n) ≤ sum_by f (range_with_len 0 n) =
    omega (arith, s, last, sum_more_suc f n, sum_more_suc g n) in
    let top : g n ≤ f n = omega (arith, s, before, sum_more_suc f n, sum_more_suc g n) in
    elim (cases_lt i n) [ inl low ↦ sums_same f g n below rest i low | inr high ↦ (let e : i ≡ n = omega arith in rw e top) ]

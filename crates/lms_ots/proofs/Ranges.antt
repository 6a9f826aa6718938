-- Sums and joins over the numbers below n, one number on.
use Rattle.std.proofs.Common.{◌≡◌, ℕ, zero, suc, ◌+◌, ◌-◌, ◌*◌, ◌≤◌, List, [], ◌∷◌, ◌++◌, ap, ◌∙◌, add-one, add-zero, arith, append_assoc, append-nil, sum_by}
use Rattle.std.specs.List.{flat_map, range_with_len}
use Rattle.std.proofs.lemmas.List.Sums.{sum_by-append}
use Rattle.std.proofs.lemmas.List.Concat.{flat_map-append}

range_more_suc : (a n : ℕ) → range_with_len a (suc n) ≡ range_with_len a n ++ (a + n) ∷ []
range_more_suc a zero = rw add-zero
range_more_suc a (suc n) =
    let e : (a + 1) + n ≡ a + suc n = omega arith in
    ap (λ xs. a ∷ xs) (range_more_suc (a + 1) n ∙ ap (λ m. range_with_len (a + 1) n ++ m ∷ []) e)

pub range_more : (n : ℕ) → range_with_len 0 (n + 1) ≡ range_with_len 0 n ++ n ∷ []
range_more n =
    let e : 0 + n ≡ n = omega arith in
    rw add-one (range_more_suc 0 n ∙ ap (λ m. range_with_len 0 n ++ m ∷ []) e)

pub sum_more : (f : ℕ → ℕ) (n : ℕ) → sum_by f (range_with_len 0 (n + 1)) ≡ sum_by f (range_with_len 0 n) + f n
sum_more f n = rw range_more (sum_by-append f (range_with_len 0 n) (n ∷ []) ∙ ap (λ m. sum_by f (range_with_len 0 n) + m) (omega arith))

pub join_more : (f : ℕ → List ℕ) (n : ℕ) → flat_map f (range_with_len 0 (n + 1)) ≡ flat_map f (range_with_len 0 n) ++ f n
join_more f n =
    rw range_more (flat_map-append f (range_with_len 0 n) (n ∷ []) ∙ ap (λ xs. flat_map f (range_with_len 0 n) ++ xs) (append-nil (f n)))

pub small_more : (s i m c : ℕ) → s ≤ i * m → s + (m - c) ≤ (i + 1) * m
small_more s i m c h = omega arith

-- what is joined so far, behind a head, and one more
pub head_more : (head : List ℕ) (f : ℕ → List ℕ) (n : ℕ) →
    (head ++ flat_map f (range_with_len 0 n)) ++ f n ≡ head ++ flat_map f (range_with_len 0 (n + 1))
head_more head f n = rw join_more (append_assoc head (flat_map f (range_with_len 0 n)) (f n))

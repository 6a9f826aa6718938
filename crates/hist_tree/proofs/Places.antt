-- Places of whole subtrees: multiples of a power of two.
use Rattle.std.proofs.Common.{◌≡◌, ℕ, zero, suc, ◌+◌, ◌-◌, ◌*◌, ◌%◌, ◌^◌, ◌<◌, ◌≤◌, ap, sym, ◌∙◌, inl, inr, arith}
use Rattle.std.proofs.lemmas.Bool.{cases_lt}
use Rattle.std.proofs.lemmas.Nat.{pow-add, pow_below}
use Rattle.std.proofs.Math.Nat.{add-mod_right, dvd-mul_right, mod-eq-sub-mod, mod-eq_of_lt, mod-mod_of_dvd, zero-mod}

-- a multiple of a power is one of each smaller power
pub aligned-low : (i j x : ℕ) → i ≤ j → x % 2 ^ j ≡ 0 → x % 2 ^ i ≡ 0
aligned-low i j x le h =
    let sum : j ≡ i + (j - i) = omega arith in
    let whole : 2 ^ j ≡ 2 ^ i * 2 ^ (j - i) = ap (λ k. 2 ^ k) sum ∙ pow-add 2 i (j - i) in
    let there : x % (2 ^ i * 2 ^ (j - i)) ≡ 0 = rw whole at h in
    let same = mod-mod_of_dvd (2 ^ i) {b = 2 ^ i * 2 ^ (j - i)} x (dvd-mul_right (2 ^ i) (2 ^ (j - i))) in
    sym same ∙ ap (λ k. k % 2 ^ i) there ∙ zero-mod (2 ^ i)

-- the places of the halves of a node
pub aligned-left : (level x : ℕ) → 0 < level → x % 2 ^ level ≡ 0 → x % 2 ^ (level - 1) ≡ 0
aligned-left level x above h = aligned-low (level - 1) level x (omega arith) h

pub aligned-right : (level x : ℕ) → 0 < level → x % 2 ^ level ≡ 0 → (x + 2 ^ (level - 1)) % 2 ^ (level - 1) ≡ 0
aligned-right level x above h = add-mod_right x (2 ^ (level - 1)) ∙ aligned-left level x above h

-- what is positive and a multiple isn't less
pub multiple-le : (n w : ℕ) → 0 < n → n % w ≡ 0 → w ≤ n
multiple-le n w some h =
    elim (cases_lt n w) [ inl less ↦ let same = mod-eq_of_lt less in absurd (omega arith) | inr le ↦ le ]

pub aligned-before : (n w : ℕ) → w ≤ n → n % w ≡ 0 → (n - w) % w ≡ 0
aligned-before n w le h = sym (mod-eq-sub-mod le) ∙ h

pub aligned-end : (start w : ℕ) → start % w ≡ 0 → (start + w) % w ≡ 0
aligned-end start w h = add-mod_right start w ∙ h

-- a whole subtree of a chunk's height or less stands within one chunk
pub chunk_place-aligned : (level x : ℕ) → level ≤ 5 → x % 2 ^ level ≡ 0 → (x % 32) % 2 ^ level ≡ 0
chunk_place-aligned level x low h =
    let there : x % (2 ^ level * 2 ^ (5 - level)) % 2 ^ level ≡ x % 2 ^ level =
    mod-mod_of_dvd (2 ^ level) {b = 2 ^ level * 2 ^ (5 - level)} x (dvd-mul_right (2 ^ level) (2 ^ (5 - level))) in
    let sum : level + (5 - level) ≡ 5 = omega arith in
    let whole : 2 ^ level * 2 ^ (5 - level) ≡ 32 = sym (pow-add 2 level (5 - level)) ∙ ap (λ k. 2 ^ k) sum in
    (rw whole at there) ∙ h

pub chunk_place-fits : (level x : ℕ) → level ≤ 5 → x % 2 ^ level ≡ 0 → x % 32 + 2 ^ level ≤ 32
chunk_place-fits zero x low h = omega arith
chunk_place-fits (suc zero) x low h = omega arith
chunk_place-fits (suc (suc zero)) x low h = omega arith
chunk_place-fits (suc (suc (suc zero))) x low h = omega arith
chunk_place-fits (suc (suc (suc (suc zero)))) x low h = omega arith
chunk_place-fits (suc (suc (suc (suc (suc zero))))) x low h = omega arith
chunk_place-fits (suc (suc (suc (suc (suc (suc level)))))) x low h = absurd (omega arith)

-- the height of what a chunk can have
pub level-fits : (level : ℕ) → 2 ^ level ≤ 32 → level ≤ 5
level-fits level few =
    elim (cases_lt 5 level) [ inl more ↦ let above = pow_below 5 level more in absurd (omega arith) | inr le ↦ le ]

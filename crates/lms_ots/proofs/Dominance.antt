-- Of two hashes, one whose digits are all at least the other's is the other.
use Rattle.std.proofs.Common.{◌≡◌, ℕ, zero, suc, ◌+◌, ◌-◌, ◌*◌, ◌/◌, ◌%◌, ◌^◌, ◌≤◌, ◌<◌, List, ◌++◌, length, get_or, arith, ap, sym, ◌∙◌, refl, sum_by}
use Rattle.std.specs.List.{range_with_len}
use Rattle.std.proofs.Math.Nat.{mul-le-mul_right}
use Rattle.std.proofs.lemmas.Nat.{mod-pow-add}
use Rattle.std.proofs.lemmas.List.{get_or_append_left, get_or-append_right, ext_get_or}
use Rattle.lms_params.specs.declared.pair.OtsRow.{OtsRow}
use Rattle.lms_params.specs.Parameters.{IsOtsRow, ots_row}
use Rattle.lms_ots.specs.Digits.{IsWidth, checksum, coef, digit, shortfall, u16str}
use Rattle.lms_ots.proofs.Rows.{coef_bound}
use Rattle.lms_ots.proofs.Sums.{sum_bound, sums_le, sums_same}

-- a byte whose digits are all at least another's is at least the other
pub byte_at_least : (w k x y : ℕ) → ((t : ℕ) → t < k → y / 2 ^ (w * t) % 2 ^ w ≤ x / 2 ^ (w * t) % 2 ^ w) →
    y % 2 ^ (w * k) ≤ x % 2 ^ (w * k)
byte_at_least w zero x y h = let e : w * 0 ≡ 0 = omega arith in rw e (omega arith)
byte_at_least w (suc k) x y h =
    let below = byte_at_least w k x y (λ t l. h t (omega arith)) in
    let top = h k (omega arith) in
    let e : w * suc k ≡ w + w * k = omega arith in
    let scaled = mul-le-mul_right (2 ^ (w * k)) top in
    rw (e, mod-pow-add y w (w * k), mod-pow-add x w (w * k)) (omega (arith, below, scaled))

-- where digit t from the end of byte m stands
places : (w k m t : ℕ) → IsWidth w → w * k ≡ 8 → t < k →
    ((m * k + (k - 1 - t)) * w / 8 ≡ m) × (8 - (w * ((m * k + (k - 1 - t)) % (8 / w)) + w) ≡ w * t)
places w k m t width whole l = grind arith

low_place : (w i : ℕ) → IsWidth w → i < 256 / w → i * w / 8 < 32
low_place w i width l = grind arith

coef_at : (w k m t : ℕ) (s : List ℕ) → IsWidth w → w * k ≡ 8 → t < k →
    coef s (m * k + (k - 1 - t)) w ≡ get_or s m 0 / 2 ^ (w * t) % 2 ^ w
coef_at w k m t s width whole l = let p = places w k m t width whole l in rw (p.0, p.1)

-- the sum is what the top digits of its two shifted bytes say
sum_of_bytes : (w k ls n c : ℕ) → IsWidth w → w * k ≡ 8 → ls + w ≡ 8 → n ≤ 256 / w * (2 ^ w - 1) →
    c ≡ n * 2 ^ ls % 2 ^ 16 →
    n ≡ (c / 256 % 256) % 2 ^ (w * k) * 2 ^ w + (c % 256) / 2 ^ (w * (k - 1)) % 2 ^ w
sum_of_bytes w k ls n c width whole shift bound e = grind arith

-- the shape of a row, in digits a byte
pub record Shape (code w p ls : ℕ) : Type 0 where
  pub width : IsWidth w
  pub whole : w * (8 / w) ≡ 8
  pub count : 256 / w ≡ 32 * (8 / w)
  pub all : p ≡ 33 * (8 / w) + 1
  pub shift : ls + w ≡ 8
  pub some : 0 < 8 / w

pub shape : (code w p ls : ℕ) → IsOtsRow code w p ls → Shape code w p ls
shape code w p ls h = record { width = grind arith; whole = grind arith; count = grind arith; all = grind arith; shift = grind arith; some = grind arith }

-- a digit of the hash itself doesn't see the checksum
digit_low : (row : OtsRow) (hash : List ℕ) (i : ℕ) → IsWidth row.w → length hash ≡ 32 → i < 256 / row.w →
    digit row hash i ≡ coef hash i row.w
unfolding digit
digit_low row hash i width long l =
    let within : i * row.w / 8 < length hash = omega (arith, low_place row.w i width l) in
    ap (λ b. b / 2 ^ (8 - (row.w * (i % (8 / row.w)) + row.w)) % 2 ^ row.w)
    (get_or_append_left hash (u16str (checksum row hash)) 0 (i * row.w / 8) within)

-- a byte of the checksum, the first at m = 32
digit_high : (row : OtsRow) (hash : List ℕ) (k m t : ℕ) → IsWidth row.w → row.w * k ≡ 8 → t < k →
    length hash ≡ 32 → 32 ≤ m →
    digit row hash (m * k + (k - 1 - t)) ≡ get_or (u16str (checksum row hash)) (m - 32) 0 / 2 ^ (row.w * t) % 2 ^ row.w
unfolding digit
digit_high row hash k m t width whole l long high =
    coef_at row.w k m t (hash ++ u16str (checksum row hash)) width whole l
    ∙ ap (λ b. b / 2 ^ (row.w * t) % 2 ^ row.w)
    (get_or-append_right hash (u16str (checksum row hash)) 32 m 0 long high)

-- the shortfall is what the top digits of the checksum's bytes say
shortfall_is : (code w p ls : ℕ) → IsOtsRow code w p ls → (hash : List ℕ) →
    shortfall (ots_row code w p ls) hash
    ≡ get_or (u16str (checksum (ots_row code w p ls) hash)) 0 0 % 2 ^ (w * (8 / w)) * 2 ^ w
    + get_or (u16str (checksum (ots_row code w p ls) hash)) 1 0 / 2 ^ (w * (8 / w - 1)) % 2 ^ w
unfolding u16str checksum shortfall
shortfall_is code w p ls listed hash =
    let s = shape code w p ls listed in
    let f : ℕ → ℕ = λ i. 2 ^ w - 1 - coef hash i w in
    let bound : sum_by f (range_with_len 0 (256 / w)) ≤ 256 / w * (2 ^ w - 1) =
    sum_bound f (2 ^ w - 1) (256 / w) (λ i. omega arith) in
    sum_of_bytes w (8 / w) ls (sum_by f (range_with_len 0 (256 / w))) _ s.width s.whole s.shift bound refl

index_in : (k m t n : ℕ) → m < n → t < k → m * k + (k - 1 - t) < n * k
index_in k m t n l h =
    let scaled : (m + 1) * k ≤ n * k = mul-le-mul_right k (omega arith) in omega arith

module _ (code w p ls : ℕ) (listed : IsOtsRow code w p ls) (a b : List ℕ) (long_a : length a ≡ 32) (long_b : length b ≡ 32)
    (fits_a : (i : ℕ) → get_or a i 0 < 256) (fits_b : (i : ℕ) → get_or b i 0 < 256)
    (least : (i : ℕ) → i < p → digit (ots_row code w p ls) b i ≤ digit (ots_row code w p ls) a i) where
  low : (i : ℕ) → i < 256 / w → coef b i w ≤ coef a i w
  low i l =
      let s = shape code w p ls listed in
      let h = least i (omega (arith, s.all, s.count, s.whole)) in
      omega (arith, h, digit_low (ots_row code w p ls) a i s.width long_a l, digit_low (ots_row code w p ls) b i s.width long_b l)

  falls : (i : ℕ) → i < 256 / w → 2 ^ w - 1 - coef a i w ≤ 2 ^ w - 1 - coef b i w
  falls i l = omega (arith, low i l)

  sums : shortfall (ots_row code w p ls) a ≤ shortfall (ots_row code w p ls) b
  unfolding shortfall
  sums = sums_le (λ i. 2 ^ w - 1 - coef a i w) (λ i. 2 ^ w - 1 - coef b i w) (256 / w) falls

  bytes : (m t : ℕ) → 32 ≤ m → t < 8 / w → m * (8 / w) + (8 / w - 1 - t) < p →
      get_or (u16str (checksum (ots_row code w p ls) b)) (m - 32) 0 / 2 ^ (w * t) % 2 ^ w
      ≤ get_or (u16str (checksum (ots_row code w p ls) a)) (m - 32) 0 / 2 ^ (w * t) % 2 ^ w
  bytes m t high l in_row =
      let s = shape code w p ls listed in
      let row = ots_row code w p ls in
      let h = least (m * (8 / w) + (8 / w - 1 - t)) in_row in
      let of_a = digit_high row a (8 / w) m t s.width s.whole l long_a high in
      let of_b = digit_high row b (8 / w) m t s.width s.whole l long_b high in
      rw (of_a, of_b) at h

  sums_back : shortfall (ots_row code w p ls) b ≤ shortfall (ots_row code w p ls) a
  sums_back =
      let s = shape code w p ls listed in
      let k = 8 / w in
      let some : 0 < k = s.some in
      let top = byte_at_least w k (get_or (u16str (checksum (ots_row code w p ls) a)) 0 0) (get_or (u16str (checksum (ots_row code w p ls) b)) 0 0)
      (λ t l. bytes 32 t (omega arith) l (omega (arith, s.all))) in
      let last = bytes 33 (k - 1) (omega arith) (omega arith) (omega (arith, s.all)) in
      let scaled = mul-le-mul_right (2 ^ w) top in
      rw (shortfall_is code w p ls listed a, shortfall_is code w p ls listed b) (omega (arith, scaled, last))

  low_back : (i : ℕ) → i < 256 / w → coef a i w ≤ coef b i w
  unfolding shortfall
  low_back i l =
      let same = sums_same (λ j. 2 ^ w - 1 - coef a j w) (λ j. 2 ^ w - 1 - coef b j w) (256 / w) falls sums_back i l in
      omega (arith, same, coef_bound a i w, coef_bound b i w)

  byte_same : (m : ℕ) → m < 32 → get_or a m 0 ≡ get_or b m 0
  byte_same m l =
      let s = shape code w p ls listed in
      let k = 8 / w in
      let up = byte_at_least w k (get_or a m 0) (get_or b m 0) (λ t h.
      let at_a = coef_at w k m t a s.width s.whole h in
      let at_b = coef_at w k m t b s.width s.whole h in
      rw (at_a, at_b) at (low (m * k + (k - 1 - t)) (rw s.count (index_in k m t 32 l h)))) in
      let down = byte_at_least w k (get_or b m 0) (get_or a m 0) (λ t h.
      let at_a = coef_at w k m t a s.width s.whole h in
      let at_b = coef_at w k m t b s.width s.whole h in
      rw (at_a, at_b) at (low_back (m * k + (k - 1 - t)) (rw s.count (index_in k m t 32 l h)))) in
      let above : get_or b m 0 % 256 ≤ get_or a m 0 % 256 = rw s.whole at up in
      let below : get_or a m 0 % 256 ≤ get_or b m 0 % 256 = rw s.whole at down in
      omega (arith, above, below, fits_a m, fits_b m)

  pub hash_same : a ≡ b
  hash_same = ext_get_or 0 a b (long_a ∙ sym long_b) (λ m l. byte_same m (omega (arith, long_a)))

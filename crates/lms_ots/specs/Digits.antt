-- Byte strings and the digits of a hash, by RFC 8554, sections 3.1 and 4.4.
use Rattle.std.specs.Prelude.{◌≡◌, ◌⊎◌, ◌<◌, ◌≤◌, length, ℕ, ◌+◌, ◌-◌, ◌*◌, ◌/◌, ◌%◌, ◌^◌, List, [], ◌∷◌, ◌++◌, map, sum_by, slice_index}
use Rattle.std.specs.List.{range_with_len}
use Rattle.std.specs.Int.{w16, w32, from_be_bytes, to_be_bytes}
use Rattle.lms_params.specs.declared.pair.OtsRow.{OtsRow}

-- u32str(n): four bytes, the highest first (section 3.1.1)
unfoldable pub u32str : ℕ → List ℕ
u32str n = to_be_bytes w32 n

-- u16str(n): two bytes, the highest first (section 3.1.1)
unfoldable pub u16str : ℕ → List ℕ
u16str n = to_be_bytes w16 n

-- coef(S, i, w): digit i of the byte string S, read in digits of w bits (section 3.1.3)
abbrev pub coef : List ℕ → ℕ → ℕ → ℕ
coef s i w = slice_index s (i * w / 8) / 2 ^ (8 - (w * (i % (8 / w)) + w)) % 2 ^ w

-- by how much the digits of a hash of 32 bytes fall short of 2^w - 1, in all (section 4.4)
unfoldable pub shortfall : OtsRow → List ℕ → ℕ
shortfall row hash = sum_by (λ i. 2 ^ row.w - 1 - coef hash i row.w) (range_with_len 0 (256 / row.w))

-- Cksm(S): the shortfall, shifted left by ls in 16 bits (section 4.4)
unfoldable pub checksum : OtsRow → List ℕ → ℕ
checksum row hash = shortfall row hash * 2 ^ row.ls % 2 ^ 16

-- digit i of Q || Cksm(Q), how many steps of chain i a signature of the hash Q takes (section 4.5)
unfoldable pub digit : OtsRow → List ℕ → ℕ → ℕ
digit row hash i = coef (hash ++ u16str (checksum row hash)) i row.w

-- the p digits of a hash
unfoldable pub digits : OtsRow → List ℕ → List ℕ
digits row hash = map (digit row hash) (range_with_len 0 row.p)

-- strTou32: the number whose four bytes, the highest first, stand in s from `at` on (section 3.1.1)
unfoldable pub number_at : List ℕ → ℕ → ℕ
number_at s at = from_be_bytes w32
    (slice_index s at ∷ slice_index s (at + 1) ∷ slice_index s (at + 2) ∷ slice_index s (at + 3) ∷ [])

-- w is the width of a digit in one of the rows
abbrev pub IsWidth : ℕ → Type 0
IsWidth w = (w ≡ 1) ⊎ ((w ≡ 2) ⊎ ((w ≡ 4) ⊎ (w ≡ 8)))

-- each of a hash's digits is at least the other hash's
abbrev pub AllAtLeast : List ℕ → List ℕ → Type 0
AllAtLeast xs ys = (k : ℕ) → k < length ys → slice_index ys k ≤ slice_index xs k

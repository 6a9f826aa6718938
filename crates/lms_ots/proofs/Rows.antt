-- What each row of the table has, and the bounds of its digits.
use Rattle.std.proofs.Common.{◌≡◌, ℕ, ◌-◌, ◌^◌, ◌<◌, ◌≤◌, List, ◌++◌, get_or, arith, ◌∙◌, ap}
use Rattle.std.proofs.Math.Nat.{mod-lt}
use Rattle.std.proofs.Math.Pow.{pow_pos}
use Rattle.std.proofs.lemmas.List.FromFn.{get_or-map-range_with_len}
use Rattle.lms_params.specs.declared.pair.OtsRow.{OtsRow}
use Rattle.lms_params.specs.Parameters.{IsOtsRow}
use Rattle.lms_ots.specs.Digits.{IsWidth, coef, checksum, digit, digits, u16str}

pub row_width : (code w p ls : ℕ) → IsOtsRow code w p ls → IsWidth w
row_width code w p ls h = grind arith

pub row_small : (code w p ls : ℕ) → IsOtsRow code w p ls → p ≤ 265
row_small code w p ls h = grind arith

-- a digit of w bits is at most 2^w - 1
pub coef_bound : (s : List ℕ) (i w : ℕ) → coef s i w ≤ 2 ^ w - 1
coef_bound s i w =
    let below : coef s i w < 2 ^ w = mod-lt _ (pow_pos w) in omega (arith, below)

pub digit_bound : (row : OtsRow) (hash : List ℕ) (i : ℕ) → digit row hash i ≤ 2 ^ row.w - 1
unfolding digit
digit_bound row hash i = coef_bound (hash ++ u16str (checksum row hash)) i row.w

pub digit_read : (row : OtsRow) (hash list : List ℕ) (i : ℕ) → list ≡ digits row hash → i < row.p →
    get_or list i 0 ≡ digit row hash i
unfolding digits
digit_read row hash list i e h =
    ap (λ xs. get_or xs i 0) e ∙ get_or-map-range_with_len (digit row hash) 0 row.p i i 0 h (omega arith)

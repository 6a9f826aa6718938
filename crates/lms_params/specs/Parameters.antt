-- The parameter sets of RFC 8554 for SHA-256 with 32 bytes (n = 32 in section 4.1, m = 32 in 5.1).
use Rattle.std.specs.Prelude.{◌≡◌, ℕ, ◌+◌, ◌-◌, ◌*◌, ◌/◌, List, [], ◌∷◌, Option, Some, ◌==◌, find, option_and_then, Contains}
use Rattle.std.specs.Option.{option_map}
use Rattle.lms_params.specs.declared.pair.OtsRow.{OtsRow}
use Rattle.lms_params.specs.declared.pair.LmsRow.{LmsRow}
use Rattle.lms_params.specs.declared.pair.Pair.{Pair}

-- table 1 of section 4.1: typecode, w, p, ls and the bytes of a signature
abbrev pub ots_rows : List OtsRow
ots_rows =
    record { code = 1; w = 1; p = 265; ls = 7; sig_len = 8516 }
    ∷ record { code = 2; w = 2; p = 133; ls = 6; sig_len = 4292 }
    ∷ record { code = 3; w = 4; p = 67; ls = 4; sig_len = 2180 }
    ∷ record { code = 4; w = 8; p = 34; ls = 0; sig_len = 1124 }
    ∷ []

-- table 2 of section 5.1: typecode and height
abbrev pub lms_rows : List LmsRow
lms_rows =
    record { code = 5; h = 5 }
    ∷ record { code = 6; h = 10 }
    ∷ record { code = 7; h = 15 }
    ∷ record { code = 8; h = 20 }
    ∷ record { code = 9; h = 25 }
    ∷ []

-- the row of a typecode
abbrev pub ots_row_at : ℕ → Option OtsRow
ots_row_at code = find (λ row. row.code == code) ots_rows

abbrev pub lms_row_at : ℕ → Option LmsRow
lms_row_at code = find (λ row. row.code == code) lms_rows

-- the pair of two typecodes, where both tables have a row for theirs
abbrev pub pair_at : ℕ → ℕ → Option Pair
pair_at lms ots =
    option_and_then (λ l. option_map (λ o. record { lms = l; ots = o }) (ots_row_at ots)) (lms_row_at lms)

-- the pair is what the tables have under its own two typecodes
abbrev pub IsListed : Pair → Type 0
IsListed pair = pair_at pair.lms.code pair.ots.code ≡ Some pair

-- a row of four numbers; its signatures have a typecode, the randomizer and p elements (section 4.5)
abbrev pub ots_row : ℕ → ℕ → ℕ → ℕ → OtsRow
ots_row code w p ls = record { code = code; w = w; p = p; ls = ls; sig_len = 4 + 32 * (p + 1) }

-- the four numbers are a row of table 1
abbrev pub IsOtsRow : ℕ → ℕ → ℕ → ℕ → Type 0
IsOtsRow code w p ls = Contains ots_rows (ots_row code w p ls)

-- the digits of the checksum stand at the top of its 16 bits (section 4.4, appendix B)
abbrev pub HasChecksumOnTop : OtsRow → Type 0
HasChecksumOnTop row = row.ls ≡ 16 - row.w * (row.p - 256 / row.w)

-- the signature's bytes are a typecode, a randomizer and p elements (section 4.5)
abbrev pub HasItsLength : OtsRow → Type 0
HasItsLength row = row.sig_len ≡ 4 + 32 * (row.p + 1)

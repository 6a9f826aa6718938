-- Byte lists and how numbers and lists of bytes are spelled. Numbers are big-endian: the most
-- significant byte comes first (std's to_be_bytes).
use Rattle.std.specs.Prelude.{ℕ, ◌<◌, List, ◌++◌, length}
use Rattle.std.proofs.Common.{get_or}
use Rattle.std.specs.Int.{w32, to_be_bytes}

-- a byte list
abbrev pub Text : Type 0
Text = List ℕ

-- each element is a byte
abbrev pub IsBytes : Text → Type 0
IsBytes bytes = (i : ℕ) → get_or bytes i 0 < 256

-- a counted byte list: four bytes of length, then that many bytes
abbrev pub counted : Text → Text
counted bytes = to_be_bytes w32 (length bytes) ++ bytes

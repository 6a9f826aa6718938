-- Digests of byte strings, as functions on lists of bytes.
use Rattle.std.specs.Prelude.{◌≡◌, ℕ, ◌∷◌, ◌++◌, length, replicate, slice_index, suc}
use Rattle.std.proofs.Common.{ap}
use Rattle.std.proofs.lemmas.List.{length-replicate}
use Rattle.sha2.specs.Sha256.{sha256}
use Rattle.fr_bytes.specs.Bytes.{Text}

-- what a digest function means
abbrev pub Digest : Type 0
Digest = Text → Text

-- How many bytes a digest has.
abbrev pub digest_bytes : ℕ
digest_bytes = 32

-- A list of bytes of a digest's length.
abbrev pub IsDigest : Text → Type 0
IsDigest x = length x ≡ digest_bytes

-- A tag and two strings, joined to one string.
abbrev pub tagged_string : ℕ → Text → Text → Text
tagged_string tag a b = tag ∷ (a ++ b)

-- The first byte of SHA-256 (FIPS 180-4), followed by 31 zero bytes.
unfoldable pub short_digest : Digest
short_digest m = slice_index (sha256 m) 0 ∷ replicate 31 0

pub length-short_digest : (m : Text) → IsDigest (short_digest m)
unfolding short_digest
length-short_digest m = ap suc (length-replicate {A = ℕ} 31 0)

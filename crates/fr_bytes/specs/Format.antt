-- Formats: which values have a spelling, what it is, and what is read at the front of a text.
use Rattle.std.specs.Prelude.{◌≡◌, ◌++◌, Some}
use Rattle.fr_bytes.specs.Bytes.{IsBytes, Text}
use Rattle.fr_bytes.specs.Reading.{Reader}

pub record Format (A : Type 0) : Type 1 where
  pub fits : A → Type 0
  pub text : A → Text
  pub read : Reader A

abbrev pub format : {A : Type 0} → (A → Type 0) → (A → Text) → Reader A → Format A
format fits text read = record { fits = fits; text = text; read = read }

-- Reading finds exactly what is spelled: a value that is read is in range and was spelled there, and
-- the spelling of each value in range is read as that value.
pub record IsExact {A : Type 0} (f : Format A) : Type 0 where
  pub found : (bytes : Text) (x : A) (rest : Text) → IsBytes bytes → f.read bytes ≡ Some (x, rest)
      → f.fits x × (bytes ≡ f.text x ++ rest)
  pub again : (x : A) (rest : Text) → f.fits x → f.read (f.text x ++ rest) ≡ Some (x, rest)

-- The parts of which formats are composed.
use Rattle.std.specs.Prelude.{◌≡◌, ℕ, ◌<◌, ◌≤◌, ◌*◌, ◌^◌, Bool, true, false, not, ◌||◌, ◌==◌, ◌⊎◌, List, [], ◌∷◌, ◌++◌, length, Option, Some, None, nat_lt, if◌then◌else◌}
use Rattle.std.specs.List.{flat_map, AllByRecursion}
use Rattle.std.specs.Int.{Width, byte_len, to_be_bytes}
use Rattle.fr_bytes.specs.Bytes.{IsBytes, Text, counted}
use Rattle.fr_bytes.specs.Reading.{◌>>=◌, Reader, byte_at, piece_at, number_at, counted_at, times_at, both_at}
use Rattle.fr_bytes.specs.Format.{Format, IsExact, format}

-- ---- bytes, numbers and pieces

abbrev pub byte : Format ℕ
byte = format (λ n. n < 256) (λ n. n ∷ []) byte_at

-- a big-endian number of a width
abbrev pub number : Width → Format ℕ
number w = format (λ n. n < 2 ^ (8 * byte_len w)) (to_be_bytes w) (number_at w)

-- n bytes
abbrev pub piece : ℕ → Format Text
piece n = format (λ x. (length x ≡ n) × IsBytes x) (λ x. x) (piece_at n)

-- bytes behind their number
abbrev pub counted_bytes : Format Text
counted_bytes = format (λ x. (length x < 2 ^ 32) × IsBytes x) counted counted_at

-- ---- a range

-- numbers from low to high
abbrev pub IsWithin : ℕ → ℕ → ℕ → Type 0
IsWithin low high n = (low ≤ n) × (n ≤ high)

-- bytes of a limited number
abbrev pub IsLimited : ℕ → Text → Type 0
IsLimited limit x = (length x ≤ limit) × IsBytes x

abbrev pub is_outside : ℕ → ℕ → ℕ → Bool
is_outside low high n = nat_lt n low || nat_lt high n

-- lists of more than limit elements
abbrev pub is_longer : {A : Type 0} → ℕ → List A → Bool
is_longer limit xs = nat_lt limit (length xs)

-- a value that isn't outside its range
abbrev pub guarded_at : {A : Type 0} → (A → Bool) → Reader A → Reader A
guarded_at is_outside read bytes = do
  a ← read bytes
  if is_outside a.0 then None else Some a

-- a byte, a number of a width, and a counted byte list in a range
unfoldable pub byte_within_at : ℕ → ℕ → Reader ℕ
byte_within_at low high = guarded_at (is_outside low high) byte_at

unfoldable pub number_within_at : Width → ℕ → ℕ → Reader ℕ
number_within_at w low high = guarded_at (is_outside low high) (number_at w)

unfoldable pub limited_at : ℕ → Reader Text
limited_at limit = guarded_at (is_longer limit) counted_at

abbrev pub byte_within : ℕ → ℕ → Format ℕ
byte_within low high = format (IsWithin low high) (λ n. n ∷ []) (byte_within_at low high)

abbrev pub number_within : Width → ℕ → ℕ → Format ℕ
number_within w low high = format (IsWithin low high) (to_be_bytes w) (number_within_at w low high)

abbrev pub limited : ℕ → Format Text
limited limit = format (IsLimited limit) counted (limited_at limit)

-- one of the bytes that pass a test
unfoldable pub byte_that_at : (ℕ → Bool) → Reader ℕ
byte_that_at passes = guarded_at (λ n. not (passes n)) byte_at

abbrev pub byte_that : (ℕ → Bool) → Format ℕ
byte_that passes = format (λ n. (n < 256) × (passes n ≡ true)) (λ n. n ∷ []) (byte_that_at passes)

-- ---- one value after another

-- a value, and a second one whose format may depend on the first
abbrev pub both : {A B : Type 0} → Format A → (A → Format B) → Format (A × B)
both f g = format (λ p. f.fits p.0 × (g p.0).fits p.1) (λ p. f.text p.0 ++ (g p.0).text p.1) (both_at f.read (λ a. (g a).read))

-- n values
abbrev pub times : {A : Type 0} → ℕ → Format A → Format (List A)
times n f = format (λ xs. (length xs ≡ n) × AllByRecursion f.fits xs) (flat_map f.text) (times_at f.read n)

-- ---- a tag with its cases

-- the first byte, and what stands behind it by its case
abbrev pub tagged_at : {A : Type 0} → (ℕ → Reader A) → Reader A
tagged_at cases bytes = do
  tag ← byte_at bytes
  cases tag.0 tag.1

-- A table of cases, each a tag and what reads what stands behind it: the first case of the tag.
abbrev pub one_of : {A : Type 0} → List (ℕ × Reader A) → ℕ → Reader A
one_of [] tag bytes = None
one_of (case ∷ cases) tag bytes = if case.0 == tag then case.1 bytes else one_of cases tag bytes

-- the table has the tag
abbrev pub HasTag : {A : Type 0} → List (ℕ × Reader A) → ℕ → Type 0
HasTag [] tag = ⊥
HasTag (case ∷ cases) tag = (case.0 ≡ tag) ⊎ HasTag cases tag

-- each case reads exactly the values of its tag
abbrev pub AllCasesExact : {A : Type 0} → (A → Type 0) → (A → ℕ) → (A → Text) → List (ℕ × Reader A) → Type 0
AllCasesExact fits tag_of rest [] = Unit {0}
AllCasesExact fits tag_of rest (case ∷ cases) =
    IsExact (format (λ x. fits x × (tag_of x ≡ case.0)) rest case.1) × AllCasesExact fits tag_of rest cases

-- ---- an optional part

-- a part that is there or not: where it isn't, its value is absent and it has no bytes
abbrev pub optional_at : {A : Type 0} → Bool → A → Reader A → Reader A
optional_at is_there absent read bytes = if is_there then read bytes else Some (absent, bytes)

abbrev pub fit_optional : {A : Type 0} → Bool → A → (A → Type 0) → A → Type 0
fit_optional true absent fits x = fits x
fit_optional false absent fits x = x ≡ absent

abbrev pub spelled_optional : {A : Type 0} → Bool → (A → Text) → A → Text
spelled_optional is_there spelling x = if is_there then spelling x else []

abbrev pub optional : {A : Type 0} → Bool → A → Format A → Format A
optional is_there absent f = format (fit_optional is_there absent f.fits) (spelled_optional is_there f.text) (optional_at is_there absent f.read)

-- ---- a list behind its length

abbrev pub listed_at : {A : Type 0} → Reader ℕ → Reader A → Reader (List A)
listed_at count one bytes = do
  n ← count bytes
  times_at one n.0 n.1

abbrev pub listed : {A : Type 0} → Format ℕ → Format A → Format (List A)
listed count f =
    format (λ xs. count.fits (length xs) × AllByRecursion f.fits xs)
    (λ xs. count.text (length xs) ++ flat_map f.text xs)
    (listed_at count.read f.read)

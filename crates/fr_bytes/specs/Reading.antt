-- Reading from the front of a byte list: a value and the bytes that are left, or nothing where the
-- front spells no value.
use Rattle.std.specs.Prelude.{◌≡◌, ℕ, zero, suc, List, [], ◌∷◌, ◌++◌, length, take, drop, Option, Some, None, Result, Ok, Err, nat_lt, if◌then◌else◌}
use Rattle.std.specs.Int.{Width, w32, byte_len, from_be_bytes}
use Rattle.fr_bytes.specs.declared.refusals.ReadRefusal.{ReadRefusal}
use Rattle.fr_bytes.specs.declared.refusals.ReadRefusal.TheVariants as refusals
use Rattle.fr_bytes.specs.Bytes.{Text}

-- what reads a value of A from the front of a text
abbrev pub Reader : Type 0 → Type 0
Reader A = Text → Option (A × Text)

infixl 10 ◌>>=◌
-- the next step, where the one before gave a value
abbrev pub ◌>>=◌ : {A B : Type 0} → Option A → (A → Option B) → Option B
None >>= next = None
(Some x) >>= next = next x

-- ---- what is read

abbrev pub byte_at : Reader ℕ
byte_at [] = None
byte_at (x ∷ rest) = Some (x, rest)

-- a piece of n bytes
abbrev pub piece_at : ℕ → Reader Text
piece_at n bytes = if nat_lt (length bytes) n then None else Some (take n bytes, drop n bytes)

-- a big-endian number
abbrev pub number_at : Width → Reader ℕ
number_at w bytes =
    if nat_lt (length bytes) (byte_len w) then None
    else Some (from_be_bytes w (take (byte_len w) bytes), drop (byte_len w) bytes)

-- a counted byte list
unfoldable pub counted_at : Reader Text
counted_at bytes = do
  n ← number_at w32 bytes
  piece_at n.0 n.1

-- n values, one after the other
unfoldable pub times_at : {A : Type 0} → Reader A → ℕ → Reader (List A)
times_at one zero bytes = Some ([], bytes)
times_at one (suc n) bytes = do
  first ← one bytes
  others ← times_at one n first.1
  Some (first.0 ∷ others.0, others.1)

-- a value, and a second one whose reading may depend on the first
abbrev pub both_at : {A B : Type 0} → Reader A → (A → Reader B) → Reader (A × B)
both_at first second bytes = do
  a ← first bytes
  b ← second a.0 a.1
  Some ((a.0, b.0), b.1)

-- the same bytes, read as a value of another type
abbrev pub as_at : {A B : Type 0} → (A → B) → Reader A → Reader B
as_at to read bytes = do
  a ← read bytes
  Some (to a.0, a.1)

-- the value, where no byte is left
abbrev pub ended : {A : Type 0} → A × Text → Option A
ended (x, []) = Some x
ended (x, b ∷ rest) = None

-- a value that is spelled by all of the bytes
abbrev pub all_of : {A : Type 0} → Reader A → Text → Option A
all_of read bytes = read bytes >>= ended

-- ---- what a call answers, seen by view

-- a step of a cursor, which stays where it was at a refusal
abbrev pub Moves : {X Y E : Type 0} → (X → Y) → Result X E → Text → Text → Option (Y × Text) → Type 0
Moves view (Ok x) before after read = read ≡ Some (view x, after)
Moves view (Err e) before after read = (read ≡ None) × (after ≡ before)

-- a reader that may want memory
abbrev pub Gives : {X Y : Type 0} → (X → Y) → Result X ReadRefusal → Text → Option (Y × Text) → Type 0
Gives view (Ok x) after read = read ≡ Some (view x, after)
Gives view (Err refusals.NotForm) after read = read ≡ None
Gives view (Err refusals.NoMemory) after read = Unit {0}

-- a reader of all of the bytes
abbrev pub GivesAll : {X Y : Type 0} → (X → Y) → Result X ReadRefusal → Option Y → Type 0
GivesAll view (Ok x) read = read ≡ Some (view x)
GivesAll view (Err refusals.NotForm) read = read ≡ None
GivesAll view (Err refusals.NoMemory) read = Unit {0}

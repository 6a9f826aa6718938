-- The keys of an object: each is required, and its value is of one kind.
use Rattle.std.specs.Prelude.{ℕ, List, [], ◌∷◌, length, Bool, ◌&&◌, nat_lt, nat_le, if◌then◌else◌, ⊤, codes, Option, Some, None, Ok, option_and_then}
use Rattle.std.specs.Option.{option_map, unwrap_or}
use Rattle.std.specs.Result.{result_ok}
use Rattle.std.specs.List.{list_all}
use Rattle.std.specs.Str.{bytes_eq}
use Rattle.hex.specs.Hex.{decode_of, decode_sized}
use Rattle.serde_json.specs.Data.{Data, object, Items}
use Rattle.serde_json.specs.Events.{items_len, members_len}
use Rattle.serde_json.specs.Find.{get, as_number, as_u64, as_str, as_array, as_object}
use Rattle.script_read.specs.declared.refusal.ScriptRefusal.TheVariants.{Field, Limit}
use Rattle.script_read.specs.Refusal.{Checked, ◌>>=◌, found, refused}

-- ---- kinds of values

-- what a value is, where it is of the kind
abbrev pub Kind : Type 0 → Type 0
Kind A = Data → Option A

abbrev pub inside : ℕ → ℕ → ℕ → Option ℕ
inside low high n = if nat_le low n && nat_le n high then Some n else None

-- a whole number, not negative
abbrev pub as_natural : Kind ℕ
as_natural d = option_and_then as_u64 (as_number d)

-- a whole number from low to high
abbrev pub natural_within : ℕ → ℕ → Kind ℕ
natural_within low high d = option_and_then (inside low high) (as_natural d)

-- a user's or a wall's number
abbrev pub listed : Kind ℕ
listed = natural_within 1 65535

-- n bytes in hexadecimal digits of either case
abbrev pub hexadecimal : ℕ → Kind (List ℕ)
hexadecimal n d = option_and_then (λ text. result_ok (decode_sized text n)) (as_str d)

-- bytes from low to high in number
abbrev pub sized : ℕ → ℕ → List ℕ → Option (List ℕ)
sized low high bytes = if nat_le low (length bytes) && nat_le (length bytes) high then Some bytes else None

-- low to high bytes in hexadecimal digits of either case
abbrev pub hexadecimal_within : ℕ → ℕ → Kind (List ℕ)
hexadecimal_within low high d = option_and_then (λ text. option_and_then (sized low high) (result_ok
    (decode_of text))) (as_str d)

-- a space, or a printed character of ASCII
abbrev pub is_printable : ℕ → Bool
is_printable b = nat_le 32 b && nat_le b 126

-- a text of such bytes
abbrev pub printable : Kind (List ℕ)
printable d = option_and_then (λ text. if list_all is_printable text then Some text else None) (as_str d)

-- what stands behind a word in a table of words
abbrev pub look_up : {A : Type 0} → List (List ℕ × A) → List ℕ → Option A
look_up [] word = None
look_up (row ∷ rows) word = if bytes_eq word row.0 then Some row.1 else look_up rows word

-- ---- keys

-- An element of a list that has to be an object. The refusal names the list.
unfoldable pub an_object : List ℕ → Data → Checked Data
an_object list d = found list (option_map object (as_object d))

-- The value at a key: it is refused where it is missing or isn't of the kind.
unfoldable pub key : {A : Type 0} → List ℕ → Kind A → Data → Checked A
key name kind d = found name (option_and_then kind (get name d))

-- one of the words of a table
unfoldable pub word : {A : Type 0} → List ℕ → List (List ℕ × A) → Data → Checked A
word name table d = do
  w ← key name as_str d
  found name (look_up table w)

-- a number from low on, whose upper end is a limit
unfoldable pub limited : List ℕ → ℕ → ℕ → Data → Checked ℕ
limited name low high d = do
  n ← key name as_natural d
  below ← refused (Field name) (nat_lt n low)
  above ← refused (Limit name) (nat_lt high n)
  Ok n

-- a printable text of at most so many bytes
unfoldable pub limited_text : List ℕ → ℕ → Data → Checked (List ℕ)
limited_text name limit d = do
  text ← key name printable d
  above ← refused (Limit name) (nat_lt limit (length text))
  Ok text

-- a list of low to high elements, whose upper end is a limit
unfoldable pub sized_list : List ℕ → ℕ → ℕ → Items → Checked Items
sized_list name low high ds = do
  below ← refused (Field name) (nat_lt (items_len ds) low)
  above ← refused (Limit name) (nat_lt high (items_len ds))
  Ok ds

unfoldable pub list_within : List ℕ → ℕ → ℕ → Data → Checked Items
list_within name low high d = do
  ds ← key name as_array d
  sized_list name low high ds

-- how many keys an object has: each that is repeated counts once
abbrev pub keys_in : Data → ℕ
keys_in d = unwrap_or (option_map members_len (as_object d)) 0

-- Behind the keys that were found, n of them, there is no further one.
unfoldable pub no_further : ℕ → Data → Checked ⊤
no_further n d = refused (Field (codes "extra")) (nat_lt n (keys_in d))

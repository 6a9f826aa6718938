-- What serde_json reads, as a step.
use Rattle.std.proofs.Common.{◌≡◌, ℕ, List, Some, None, Ok, Err, Bool, true, false, cond, refl}
use Rattle.std.specs.Str.{IsUtf8, is_utf8}
use Rattle.serde_json.specs.Data.{Data}
use Rattle.serde_json.specs.Read.{read}
use Rattle.script_read.specs.declared.refusal.ScriptRefusal.TheVariants.{NotJson}
use Rattle.script_read.specs.Reading.{json_found, json_of}
use Rattle.std.proofs.lemmas.Str.{is_utf8-from_IsUtf8, IsUtf8-from_is_utf8}

pub json_read : (bytes : List ℕ) (d : Data) → IsUtf8 bytes → read bytes ≡ Some d → json_of bytes ≡ Ok d
unfolding json_of
json_read bytes d text is = rw (is_utf8-from_IsUtf8 bytes text, is) refl

by_test : (bytes : List ℕ) (b : Bool) → is_utf8 bytes ≡ b → (IsUtf8 bytes → read bytes ≡ None)
    → json_found (cond b (read bytes) None) ≡ Err NotJson
by_test bytes true e h = rw (h (IsUtf8-from_is_utf8 bytes e)) refl
by_test bytes false e h = refl

pub json_none : (bytes : List ℕ) → (IsUtf8 bytes → read bytes ≡ None) → json_of bytes ≡ Err NotJson
unfolding json_of
json_none bytes h = by_test bytes (is_utf8 bytes) refl h

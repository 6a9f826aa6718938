-- The script that the bytes spell, or the first refusal.
use Rattle.std.specs.Prelude.{ℕ, List, length, nat_lt, if◌then◌else◌, codes, Option, Some, None, Ok, Err}
use Rattle.std.specs.Str.{is_utf8}
use Rattle.serde_json.specs.Data.{Data}
use Rattle.serde_json.specs.Read.{read}
use Rattle.script_read.specs.declared.refusal.ScriptRefusal.TheVariants.{NotJson, Limit}
use Rattle.script_read.specs.declared.script.Script.{Script}
use Rattle.script_read.specs.Refusal.{Checked, ◌>>=◌, refused}
use Rattle.script_read.specs.Script.{walked}
use Rattle.script_read.specs.Known.{all_known}
use Rattle.script_read.specs.Writes.{signs_enough}

-- the value is a script, all of whose numbers are listed, and each user can sign what it writes
unfoldable pub script_of : Data → Checked Script
script_of d = do
  s ← walked d
  listed ← all_known s
  signed ← signs_enough s
  Ok s

abbrev pub json_found : Option Data → Checked Data
json_found None = Err NotJson
json_found (Some d) = Ok d

-- the value that serde_json reads
unfoldable pub json_of : List ℕ → Checked Data
json_of bytes = json_found (if is_utf8 bytes then read bytes else None)

unfoldable pub script_at : List ℕ → Checked Script
script_at bytes = do
  small ← refused (Limit (codes "script")) (nat_lt 4194304 (length bytes))
  d ← json_of bytes
  script_of d

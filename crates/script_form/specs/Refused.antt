-- What is written where a script is refused.
use Rattle.std.specs.Prelude.{ℕ, List, ◌++◌, codes}
use Rattle.script_read.specs.declared.refusal.Listed.{Listed}
use Rattle.script_read.specs.declared.refusal.Listed.TheVariants.{User, Wall}
use Rattle.script_read.specs.declared.refusal.ScriptRefusal.{ScriptRefusal}
use Rattle.script_read.specs.declared.refusal.ScriptRefusal.TheVariants as refusals
use Rattle.script_form.specs.Report.{labelled, newline}

abbrev pub listed_text : Listed → List ℕ
listed_text User = codes "Unknown user "
listed_text Wall = codes "Unknown wall "

-- the refusal's name with its detail
unfoldable pub refusal_text : ScriptRefusal → List ℕ
refusal_text refusals.NotJson = codes "NotJson"
refusal_text (refusals.Field name) = codes "Field " ++ name
refusal_text (refusals.Limit name) = codes "Limit " ++ name
refusal_text (refusals.Unknown what number) = labelled (listed_text what) number
refusal_text (refusals.TooManyWrites user) = labelled (codes "TooManyWrites ") user
refusal_text refusals.NoMemory = codes "NoMemory"

unfoldable pub refused_line : ScriptRefusal → List ℕ
refused_line refusal = codes "refused script " ++ refusal_text refusal ++ newline

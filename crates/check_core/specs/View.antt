-- What the values of the program stand for, and what a check answers.
use Rattle.std.specs.Prelude.{◌≡◌, ◌≢◌, List, map, Option, Result, Ok, Err}
use Rattle.op_types.specs.declared.op.Leaf.{Leaf}
use Rattle.hist_proof.specs.View.{tree_view}
use Rattle.dict_proof.specs.View.{list_view}
use Rattle.msg_form.specs.declared.verdict.Verdict.{Verdict}
use Rattle.msg_form.specs.declared.verdict.Verdict.TheVariants as verdicts
use Rattle.check_core.specs.declared.checked.Checked.{Checked}
use Rattle.check_core.specs.declared.checked.Checked.TheVariants.{Same, Taken, Refused}
use Rattle.check_rules.specs.Verdict.{Judged, same, taken, refusal}

abbrev pub checked_view : Checked → Judged
checked_view (Same size) = same size
checked_view (Taken view from proof leaves dicts) = taken view from (tree_view proof) leaves (map list_view dicts)
checked_view (Refused cause number) = refusal cause number

-- what was made of it
abbrev pub result_view : {X Y : Type 0} → (X → Y) → Result X Verdict → Result Y Verdict
result_view view (Ok x) = Ok (view x)
result_view view (Err verdict) = Err verdict

-- It is what is judged. Want of memory is free.
abbrev pub Answers : {X Y : Type 0} → (X → Y) → Result X Verdict → Result Y Verdict → Type 0
Answers view (Ok x) judgement = judgement ≡ Ok (view x)
Answers view (Err verdict) judgement = verdict ≢ verdicts.NoMemory → judgement ≡ Err verdict

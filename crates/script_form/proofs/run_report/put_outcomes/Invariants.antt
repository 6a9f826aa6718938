use Rattle.std.proofs.Common.{◌≡◌, ◌++◌, drop}
use Rattle.std.specs.List.{flat_map}
use Rattle.std.specs.String.{string_bytes}
use Rattle.script_form.specs.Report.{outcome_text}
use Rattle.script_form.proofs.run_report.put_outcomes.Given as goal

-- the text so far and that of the outcomes that are left
abbrev pub invariant-loop-outcome : goal.invariant-loop-outcome
invariant-loop-outcome l = string_bytes l.out
    ++ flat_map (outcome_text l.script) (drop l.outcome-index l.outcomes) ≡ string_bytes l.initial.out
    ++ flat_map (outcome_text l.script) l.outcomes

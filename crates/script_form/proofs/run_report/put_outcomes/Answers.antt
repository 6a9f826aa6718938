use Rattle.std.proofs.Common.{◌+◌, ◌++◌, drop}
use Rattle.std.specs.List.{flat_map}
use Rattle.std.specs.String.{string_bytes}
use Rattle.script_form.specs.Report.{outcome_text}
use Rattle.script_form.proofs.Texts.{one_more, none_left, pieces_one, pieces_none}
use Rattle.script_form.proofs.run_report.put_outcomes.Goals as goal

pub loop-outcome-preserved : goal.loop-outcome-preserved
loop-outcome-preserved c =
    let i = c.loop-outcome.outcome-index in
    let all = c.args.outcomes.now in
    let one = c.outcome-item.result in
    one_more (string_bytes c.loop-outcome.out) (string_bytes c.put_outcome.new.out)
    (string_bytes c.args.out.now ++ flat_map (outcome_text c.args.script.now) all)
    ((outcome_text c.args.script.now) one) (flat_map (outcome_text c.args.script.now) (drop (i + 1) all))
    (flat_map (outcome_text c.args.script.now) (drop i all))
    c.in_ok-put_outcome.ensures (pieces_one
    (outcome_text c.args.script.now) i all one c.loop-outcome-test.true c.outcome-item.is) c.loop-outcome.invariant

pub returns : goal.returns
returns c =
    let i = c.loop-outcome.outcome-index in
    let all = c.args.outcomes.now in
    none_left (string_bytes c.loop-outcome.out) (string_bytes c.args.out.now
    ++ flat_map (outcome_text c.args.script.now) all) (flat_map (outcome_text c.args.script.now) (drop i all))
    (pieces_none (outcome_text c.args.script.now) i all c.loop-outcome-test.false) c.loop-outcome.invariant

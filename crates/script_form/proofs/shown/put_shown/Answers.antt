use Rattle.std.proofs.Common.{◌+◌, ◌++◌, drop}
use Rattle.std.specs.List.{flat_map}
use Rattle.std.specs.String.{string_bytes}
use Rattle.script_form.specs.Report.{shown_line}
use Rattle.script_form.proofs.Texts.{one_more, none_left, pieces_one, pieces_none}
use Rattle.script_form.proofs.shown.put_shown.Goals as goal

pub loop-shown-preserved : goal.loop-shown-preserved
loop-shown-preserved c =
    let i = c.loop-shown.shown-index in
    let all = c.args.lines.now in
    let one = c.shown-item.result in
    one_more (string_bytes c.loop-shown.out) (string_bytes c.put_shown_line.new.out)
    (string_bytes c.args.out.now ++ flat_map shown_line all)
    (shown_line one) (flat_map shown_line (drop (i + 1) all)) (flat_map shown_line (drop i all))
    c.in_ok-put_shown_line.ensures
    (pieces_one shown_line i all one c.loop-shown-test.true c.shown-item.is) c.loop-shown.invariant

pub returns : goal.returns
returns c =
    let i = c.loop-shown.shown-index in
    let all = c.args.lines.now in
    none_left (string_bytes c.loop-shown.out) (string_bytes c.args.out.now
    ++ flat_map shown_line all) (flat_map shown_line (drop i all))
    (pieces_none shown_line i all c.loop-shown-test.false) c.loop-shown.invariant

use Rattle.std.proofs.Common.{◌+◌, ◌++◌, drop}
use Rattle.std.specs.List.{flat_map}
use Rattle.std.specs.String.{string_bytes}
use Rattle.std.proofs.lemmas.List.{get_or_default}
use Rattle.script_form.specs.Summary.{size_line}
use Rattle.script_form.proofs.Texts.{one_more, none_left, pieces_one, pieces_none}
use Rattle.script_form.proofs.last_lines.put_sizes.Goals as goal

pub loop-wall-preserved : goal.loop-wall-preserved
loop-wall-preserved c =
    let i = c.loop-wall.wall-index in
    let all = c.args.walls.now in
    one_more (string_bytes c.loop-wall.out) (string_bytes c.put_size.new.out) (string_bytes c.args.out.now
    ++ flat_map size_line all)
    _ (flat_map size_line (drop (i + 1) all)) (flat_map size_line (drop i all))
    c.in_ok-put_size.ensures
    (pieces_one size_line i all _ c.loop-wall-test.true (get_or_default all i _ _ c.loop-wall-test.true)) c.loop-wall.invariant

pub returns : goal.returns
returns c =
    let i = c.loop-wall.wall-index in
    let all = c.args.walls.now in
    none_left (string_bytes c.loop-wall.out) (string_bytes c.args.out.now
    ++ flat_map size_line all) (flat_map size_line (drop i all))
    (pieces_none size_line i all c.loop-wall-test.false) c.loop-wall.invariant

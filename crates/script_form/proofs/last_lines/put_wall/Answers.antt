use Rattle.std.proofs.Common.{append_assoc}
use Rattle.script_form.specs.Report.{wall_line}
use Rattle.script_form.proofs.last_lines.put_wall.Goals as goal

pub returns : goal.returns
unfolding wall_line
returns c =
    rw (
      c.in_ok-put-2.ensures,
      c.in_ok-put_root.ensures,
      c.in_ok-put.ensures,
      c.in_ok-put_number-2.ensures,
      c.in_ok-put_number.ensures,
      c.from.ensures,
    )
    (simp append_assoc)

use Rattle.std.proofs.Common.{append_assoc}
use Rattle.script_form.specs.Report.{collision_line}
use Rattle.script_form.proofs.last_lines.put_collision.Goals as goal

pub returns : goal.returns
unfolding collision_line
returns c =
    rw (
      c.in_ok-put-3.ensures,
      c.in_ok-put_hex-2.ensures,
      c.in_ok-put-2.ensures,
      c.in_ok-put_hex.ensures,
      c.in_ok-put.ensures,
    )
    (simp append_assoc)

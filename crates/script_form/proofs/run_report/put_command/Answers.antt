use Rattle.std.proofs.Common.{append_assoc}
use Rattle.script_form.specs.Report.{command_line}
use Rattle.script_form.proofs.run_report.put_command.Goals as goal

pub returns : goal.returns
unfolding command_line
returns c =
    rw (
      c.in_ok-put-2.ensures,
      c.in_ok-put_end.ensures,
      c.in_ok-put.ensures,
      c.in_ok-put_what.ensures,
      c.in_ok-put_place.ensures,
    )
    (simp append_assoc)

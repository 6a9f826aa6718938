use Rattle.std.proofs.Common.{append_assoc}
use Rattle.script_form.specs.Report.{report_of}
use Rattle.script_form.proofs.run_report.put_report.Goals as goal

pub returns : goal.returns
unfolding report_of
returns c =
    rw (
      c.in_ok-put_status.ensures,
      c.status_of.ensures,
      c.in_ok-put_audit.ensures,
      c.in_ok-put_walls.ensures,
      c.as_slice-2.ensures,
      c.in_ok-put_outcomes.ensures,
      c.as_slice.ensures,
    )
    (simp append_assoc)

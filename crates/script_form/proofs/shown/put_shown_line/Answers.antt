use Rattle.std.proofs.Common.{append_assoc}
use Rattle.script_form.specs.Report.{shown_line}
use Rattle.script_form.proofs.shown.put_shown_line.Goals as goal

pub returns : goal.returns
unfolding shown_line
returns c =
    rw (
      c.in_ok-put-2.ensures,
      c.in_ok-put_kind.ensures,
      c.in_ok-put.ensures,
      c.in_ok-put_number-2.ensures,
      c.from.ensures,
      c.in_ok-put_number.ensures,
    )
    (simp append_assoc)

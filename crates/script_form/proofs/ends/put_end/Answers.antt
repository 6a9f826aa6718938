use Rattle.std.proofs.Common.{append_assoc}
use Rattle.script_form.specs.Report.{end_text}
use Rattle.script_form.proofs.ends.put_end.Goals as goal

pub returns-in_ok-put_number-in-Accepted-2 : goal.returns-in_ok-put_number-in-Accepted-2
unfolding end_text
returns-in_ok-put_number-in-Accepted-2 c =
    rw (
      c.in-Accepted.is,
      c.in_ok-put_number-in-Accepted-2.ensures,
      c.in_ok-put_number-in-Accepted.ensures,
    )
    (simp append_assoc)

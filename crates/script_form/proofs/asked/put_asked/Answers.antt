use Rattle.std.proofs.Common.{append_assoc}
use Rattle.script_form.specs.Report.{asked_text}
use Rattle.script_form.proofs.asked.put_asked.Goals as goal

pub returns : goal.returns
unfolding asked_text
returns c =
    rw (
      c.in_ok-put-2.ensures,
      c.verb_name.ensures,
      c.in_ok-put.ensures,
      c.in_ok-put_number-2.ensures,
      c.from-2.ensures,
      c.wall_asked.ensures,
      c.in_ok-put_number.ensures,
      c.from.ensures,
    )
    (simp append_assoc)

use Rattle.std.proofs.Common.{append_assoc}
use Rattle.script_form.specs.Refused.{refused_line}
use Rattle.script_form.proofs.refused.refusal_line.Goals as goal

pub returns : goal.returns
unfolding refused_line
returns c =
    rw (
      c.of.ensures,
      c.in_ok-put_bytes-2.ensures.appended,
      c.in_ok-put_refusal.ensures,
      c.in_ok-put_bytes.ensures.appended,
      c.new-out.ensures.items,
    )
    (simp append_assoc)

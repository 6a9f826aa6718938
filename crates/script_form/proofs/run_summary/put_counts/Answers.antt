use Rattle.std.proofs.Common.{append_assoc}
use Rattle.script_form.specs.Summary.{counts_line}
use Rattle.script_form.proofs.run_summary.put_counts.Goals as goal

pub returns : goal.returns
unfolding counts_line
returns c =
    rw (
      c.in_ok-put.ensures,
      c.in_ok-put_count-5.ensures,
      c.in_ok-put_count-4.ensures,
      c.in_ok-put_count-3.ensures,
      c.in_ok-put_count-2.ensures,
      c.in_ok-put_count.ensures,
      c.in_ok-put_number.ensures,
    )
    (simp append_assoc)

use Rattle.std.proofs.Common.{append_assoc}
use Rattle.script_form.specs.Summary.{summary_of}
use Rattle.script_form.proofs.run_summary.put_summary.Goals as goal

pub returns : goal.returns
unfolding summary_of
returns c =
    rw (
      c.in_ok-put_status.ensures,
      c.status_of.ensures,
      c.in_ok-put_sound.ensures,
      c.in_ok-put_sizes.ensures,
      c.as_slice-2.ensures,
      c.in_ok-put_counts.ensures,
      c.as_slice.ensures,
    )
    (simp append_assoc)

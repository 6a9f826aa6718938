use Rattle.msg_form.proofs.Spellings.{within_high}
use Rattle.msg_form.proofs.reading.show_at.Goals as goal

pub overflow_sub-view : goal.overflow_sub-view
overflow_sub-view c = within_high 0 c.in_ok-view.view.size _ _ c.in_ok-from.from c.in_ok-from.ensures.reads

use Rattle.std.proofs.Common.{◌≡◌, ◌-◌}
use Rattle.fr_bytes.specs.Reading.{counted_at, times_at}
use Rattle.fr_bytes.proofs.Parts.{with_front}
use Rattle.msg_form.proofs.reading.texts_times.Given as goal

abbrev pub invariant-loop : goal.invariant-loop
invariant-loop l = with_front l.texts.items (times_at counted_at (l.count - l.counter) l.cur) ≡ times_at counted_at l.count l.fn.cur

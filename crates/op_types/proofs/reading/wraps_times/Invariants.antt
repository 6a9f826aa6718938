use Rattle.std.proofs.Common.{◌≡◌, ◌-◌}
use Rattle.fr_bytes.specs.Reading.{times_at}
use Rattle.op_types.specs.Reading.{wrap_at}
use Rattle.fr_bytes.proofs.Parts.{with_front}
use Rattle.op_types.proofs.reading.wraps_times.Given as goal

abbrev pub invariant-loop : goal.invariant-loop
invariant-loop l = with_front l.wraps.items (times_at wrap_at (l.count - l.counter) l.cur) ≡ times_at wrap_at l.count l.fn.cur

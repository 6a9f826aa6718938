use Rattle.std.proofs.Common.{◌≡◌, ◌+◌, length}
use Rattle.std.specs.Prelude.{slice_get}
use Rattle.std.specs.Option.{option_copied}
use Rattle.fr_bytes.specs.History.{Begins}
use Rattle.hall_gate.proofs.calls.Calls.get.Given as goal

abbrev pub invariant-loop : goal.invariant-loop
invariant-loop g l = record {
  front : Begins l.first l.self;
  behind : length l.first + l.counter ≡ length l.self;
}

abbrev pub invariant-loop-before : goal.invariant-loop-before
invariant-loop-before g l = record {
  front : Begins l.at l.self;
  apart : length l.at ≡ length l.first + l.i;
  found_is : option_copied l.found ≡ slice_get l.self (length l.at);
}

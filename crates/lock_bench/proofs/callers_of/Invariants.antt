use Rattle.std.proofs.Common.{◌≢◌, ◌<◌}
use Rattle.std.specs.List.{All, AllPairs}
use Rattle.lock_bench.proofs.callers_of.Given as goal

abbrev pub invariant-loop-number : goal.invariant-loop-number
invariant-loop-number l = record {
  below : All (λ c. c < l.number) l.callers.items;
  apart : AllPairs (λ c d. c ≢ d) l.callers.items;
}

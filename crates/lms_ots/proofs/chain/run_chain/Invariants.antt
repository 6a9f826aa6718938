use Rattle.std.proofs.Common.{◌≡◌, ◌-◌, take, drop}
use Rattle.lms_ots.specs.Chain.{chain}
use Rattle.lms_ots.proofs.chain.run_chain.Given as goal

abbrev pub invariant-loop-j : goal.invariant-loop-j
invariant-loop-j l = record {
  named : take 22 l.input ≡ take 22 l.initial.input;
  walked : drop 23 l.input ≡ chain (take 22 l.initial.input) l.first (l.j - l.first) (drop 23 l.initial.input);
}

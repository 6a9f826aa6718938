use Rattle.std.proofs.Common.{◌≡◌, ◌+◌, ◌≤◌, drop, length}
use Rattle.check_rules.specs.Shown.{changes_of}
use Rattle.client_core.proofs.side.changes_among.Given as goal

abbrev pub invariant-loop-leaf : goal.invariant-loop-leaf
invariant-loop-leaf l = record {
  few : l.count ≤ l.leaf-index;
  rest : l.count + length (changes_of (drop l.leaf-index l.leaves)) ≡ length (changes_of l.leaves);
}

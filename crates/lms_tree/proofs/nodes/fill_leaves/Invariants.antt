use Rattle.std.proofs.Common.{◌≡◌, ◌+◌, ◌*◌, ◌^◌, ◌≤◌, ◌<◌, ℕ, [], length, slice_index_or}
use Rattle.lms_tree.specs.Signer.{node}
use Rattle.lms_tree.proofs.nodes.fill_leaves.Given as goal

abbrev pub invariant-loop-q : goal.invariant-loop-q
invariant-loop-q l = record {
  sized : length l.nodes ≡ 2 * 2 ^ l.pair.lms.h;
  written : (r : ℕ) → 2 ^ l.pair.lms.h ≤ r → r < 2 ^ l.pair.lms.h + l.q → slice_index_or l.nodes r [] ≡ node l.private l.id l.pair 0 r;
}

use Rattle.std.proofs.Common.{◌≡◌, ◌+◌, ◌*◌, ◌≤◌, ◌<◌, ℕ, [], length, slice_index_or}
use Rattle.lms_tree.specs.Valid.{inner_node}
use Rattle.lms_tree.proofs.nodes.fill_inner.Given as goal

abbrev pub invariant-loop-i : goal.invariant-loop-i
invariant-loop-i l = record {
  sized : length l.nodes ≡ 2 * l.leaves;
  kept : (r : ℕ) → l.leaves ≤ r → slice_index_or l.nodes r [] ≡ slice_index_or l.initial.nodes r [];
  inner : (r : ℕ) → l.leaves < r + l.i → r < l.leaves →
      slice_index_or l.nodes r [] ≡ inner_node l.id r (slice_index_or l.nodes (2 * r) []) (slice_index_or l.nodes (2 * r + 1) []);
}

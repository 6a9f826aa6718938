use Rattle.std.proofs.Common.{◌≡◌, ◌+◌, ◌*◌, ◌/◌, ◌^◌, slice_range}
use Rattle.lms_tree.specs.Valid.{leaf_node, path_node}
use Rattle.lms_tree.proofs.verifying.top_of.Given as goal

abbrev pub invariant-loop-j : goal.invariant-loop-j
invariant-loop-j l = record {
  placed : l.number ≡ (l.q + 2 ^ l.h) / 2 ^ l.j;
  climbed : l.node ≡ path_node l.id (l.q + 2 ^ l.h) (leaf_node l.id (l.q + 2 ^ l.h) l.candidate) (λ j. slice_range l.path (32 * j) (32 * j + 32)) l.j;
}

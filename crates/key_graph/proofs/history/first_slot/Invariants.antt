use Rattle.std.proofs.Common.{◌≡◌, None, reverse}
use Rattle.key_graph.specs.Slots.{least_below}
use Rattle.key_graph.specs.KeyTree.{holder, is_held}
use Rattle.key_graph.proofs.history.first_slot.Given as goal

abbrev pub invariant-loop-slot : goal.invariant-loop-slot
invariant-loop-slot l = least_below (λ s. is_held l.user (holder (reverse l.changes) s)) l.slot ≡ None

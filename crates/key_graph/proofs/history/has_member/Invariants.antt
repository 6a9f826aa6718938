use Rattle.std.proofs.Common.{◌≡◌, ◌&&◌, false, is_some, reverse}
use Rattle.key_graph.specs.Slots.{any_below}
use Rattle.key_graph.specs.KeyTree.{holder, is_below}
use Rattle.key_graph.proofs.history.has_member.Given as goal

abbrev pub invariant-loop-slot : goal.invariant-loop-slot
invariant-loop-slot l = any_below (λ s. is_below l.depth l.x s && is_some (holder (reverse l.changes) s)) l.slot ≡ false

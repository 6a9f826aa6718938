use Rattle.std.proofs.Common.{◌≡◌, drop}
use Rattle.client_core.specs.Keys.{after_changes, keys_view}
use Rattle.client_core.proofs.keys.Keys.learning.Given as goal

abbrev pub invariant-loop-op : goal.invariant-loop-op
invariant-loop-op l = after_changes (keys_view l.keys) (drop l.op-index l.changes)
    ≡ after_changes (keys_view l.initial.keys) l.changes

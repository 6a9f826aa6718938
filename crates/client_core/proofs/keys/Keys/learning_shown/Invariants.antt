use Rattle.std.proofs.Common.{◌≡◌, drop}
use Rattle.check_rules.specs.Shown.{changes_of}
use Rattle.client_core.specs.Keys.{after_changes, keys_view}
use Rattle.client_core.proofs.keys.Keys.learning_shown.Given as goal

abbrev pub invariant-loop-leaf : goal.invariant-loop-leaf
invariant-loop-leaf l = after_changes (keys_view l.keys) (changes_of (drop l.leaf-index l.leaves))
    ≡ after_changes (keys_view l.initial.keys) (changes_of l.leaves)

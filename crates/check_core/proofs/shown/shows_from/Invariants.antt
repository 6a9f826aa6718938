use Rattle.std.proofs.Common.{◌≡◌, ◌-◌}
use Rattle.check_rules.specs.Shown.{shows_among}
use Rattle.check_core.proofs.shown.shows_from.Given as goal

abbrev pub invariant-loop-k : goal.invariant-loop-k
invariant-loop-k g l = shows_among l.tree.tree l.tree.size l.from (l.tree.size - l.from)
    ≡ shows_among l.tree.tree l.tree.size l.k (l.tree.size - l.k)

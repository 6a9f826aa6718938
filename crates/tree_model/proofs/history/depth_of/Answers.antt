use Rattle.std.proofs.Common.{◌≡◌, ◌+◌, ◌-◌, arith, sym, ◌∙◌, ap}
use Rattle.tree_model.proofs.HistoryLaws.{depth-one, depth-next}
use Rattle.tree_model.specs.History.{depth}
use Rattle.tree_model.proofs.history.depth_of.Goals as goal

pub returns-then-n-eq1-clause-value : goal.returns-then-n-eq1-clause-value
returns-then-n-eq1-clause-value c = rw c.if-n-eq1.true (sym depth-one)

pub returns-else-n-eq1-clause-value : goal.returns-else-n-eq1-clause-value
returns-else-n-eq1-clause-value c =
    let before : c.args.n - 1 + 1 ≡ c.args.n = omega arith in
    sym (depth-next (c.args.n - 1) c.ilog2.result c.ilog2.ensures.power_le c.ilog2.ensures.next_power_gt) ∙ ap depth before

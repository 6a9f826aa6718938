use Rattle.std.specs.Arc.{arc_value}
use Rattle.hist_tree.proofs.Keeping.{same-values}
use Rattle.hist_tree.proofs.shared.shared.Goals as goal

pub returns : goal.returns
returns g c = same-values (λ x. arc_value x) c.args.list.now c.in_ok-from_clones.field-0.items
    c.in_ok-from_clones.ensures.items

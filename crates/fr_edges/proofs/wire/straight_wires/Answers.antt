use Rattle.std.proofs.Common.{◌≡◌, ◌∙◌, ap, replicate, length, arith}
use Rattle.fr_edges.specs.Wire.{straight_view}
use Rattle.fr_edges.proofs.Wires.{all_alike}
use Rattle.fr_edges.proofs.wire.straight_wires.Goals as goal

pub returns-clause-views : goal.returns-clause-views
returns-clause-views c =
    let so_many : length c.loop.wires.items ≡ c.args.count = omega (arith, c.loop.invariant, c.loop-test.false, c.loop.auto.counter-end) in
    all_alike straight_view c.loop.wires.items ∙ ap (λ n. replicate n straight_view) so_many

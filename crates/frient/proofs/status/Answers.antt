use Rattle.std.proofs.Common.{◌≡◌, ◌∙◌, map, ap}
use Rattle.fr_edges.specs.Wire.{straight_view}
use Rattle.frient.specs.Status.{words_in}
use Rattle.frient.proofs.Endings.{wants_memory, ends_with}
use Rattle.frient.proofs.status.Goals as goal

pub returns-in_default : goal.returns-in_default
returns-in_default g c = wants_memory _ _ _

pub returns : goal.returns
returns g c =
    let given = map (λ w. w.now) c.deref.result.now in
    let same : given ≡ words_in c.args.arguments.now = ap (map (λ w. w.now)) c.deref.ensures.value ∙ c.in-Ok-Ok.ensures in
    ends_with _ given _ _ _ _ (map (λ w. straight_view) c.in-Ok-Ok.wires.items) (map (λ w. straight_view) c.run_frient.new.wires.items) c.run_frient.result same c.in-Ok-Ok.ensures'.views c.run_frient.ensures.ends

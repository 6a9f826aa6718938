use Rattle.std.proofs.Common.{◌∙◌, length, sym, ap}
use Rattle.hall_core.specs.Standing.{Wall}
use Rattle.hall_core.proofs.Items.{length-leaves}
use Rattle.hall_core.proofs.wall.Wall.size.Goals as goal

pub returns : goal.returns
returns g c =
    c.size.ensures ∙ sym (length-leaves _ c.self.inside.history) ∙ ap (λ (w : Wall). length w.leaves) c.self.view_is

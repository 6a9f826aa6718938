use Rattle.hall_core.proofs.Walls.{kept}
use Rattle.hall_core.proofs.wall.Wall.keeps.Goals as goal

pub returns : goal.returns
returns g c =
    let keeps = kept c.self.invariant c.self.view_is in
    record { count = keeps.used; spelled = keeps.spelled }

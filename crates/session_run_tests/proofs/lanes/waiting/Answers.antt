use Rattle.std.proofs.Common.{ℕ, List, arith, refl, subst, sym}
use Rattle.std.specs.List.{Contains}
use Rattle.session_run_tests.proofs.lanes.waiting.Goals as goal

pub lane-requires-clause-listed : goal.lane-requires-clause-listed
lane-requires-clause-listed c =
    subst (λ (walls : List ℕ). Contains walls 1) (sym c.in_ok-server.ensures.walls) (0, omega arith, refl)

pub lane-requires-2-clause-listed : goal.lane-requires-2-clause-listed
lane-requires-2-clause-listed c =
    subst (λ (walls : List ℕ). Contains walls 2) (sym c.in_ok-server.ensures.walls) (1, omega arith, refl)

use Rattle.std.proofs.Common.{ℕ, ◌<◌, subst}
use Rattle.session_run_tests.proofs.lanes.run.Goals as goal

pub returns : goal.returns
returns g c = λ k d lt.
    (c.in_ok-run_phase.ensures.lanes k d (subst (λ (n : ℕ). k < n) c.in_ok-run_phase.ensures.count lt)).seats

use Rattle.session_laws.proofs.RunLaws.{run-lane, run-nothing, run-then}
use Rattle.session_laws.proofs.laws.runs.Goals as goal

pub returns-clause-nothing : goal.returns-clause-nothing
returns-clause-nothing c = λ d run. run-nothing d run

pub returns-clause-more : goal.returns-clause-more
returns-clause-more c = λ d a b e ps qs p q. run-then d a b e ps qs p q

pub returns-clause-lane : goal.returns-clause-lane
returns-clause-lane c = λ d run user session before now tasks enters theirs lane.
    run-lane d run user session before now tasks enters theirs lane

use Rattle.session_laws.proofs.LaneLaws.{lane-nothing, lane-one, lane-then}
use Rattle.session_laws.proofs.laws.lanes.Goals as goal

pub returns-clause-nothing : goal.returns-clause-nothing
returns-clause-nothing c = λ d user v. lane-nothing d user v

pub returns-clause-more : goal.returns-clause-more
returns-clause-more c = λ d user a b e ps qs p q. lane-then d user a b e ps qs p q

pub returns-clause-one : goal.returns-clause-one
returns-clause-one c = λ d user before now task t. lane-one d user before now task t

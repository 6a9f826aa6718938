use Rattle.world_audit.proofs.Orders.{order-behind, order-each, order-once, order-only}
use Rattle.world_audit.proofs.laws.orders.Goals as goal

pub returns-clause-each : goal.returns-clause-each
returns-clause-each c = λ d w kept r L at history.
    order-each d w kept r (record { kept = at; leaves = L; history = history })

pub returns-clause-only : goal.returns-clause-only
returns-clause-only c = λ d w kept r at. let has = order-only d w kept r at in (has.kept, (has.leaves, has.history))

pub returns-clause-once : goal.returns-clause-once
returns-clause-once c = order-once

pub returns-clause-behind : goal.returns-clause-behind
returns-clause-behind c = order-behind

use Rattle.std.proofs.Common.{take}
use Rattle.run_script.specs.Order.{InOrder}
use Rattle.run_script.proofs.ordering.in_order.Given as goal

abbrev pub invariant-loop-user : goal.invariant-loop-user
invariant-loop-user g l =
    InOrder g.D.Digester.digest_of l.server (take l.user-index l.users) l.initial.run l.run l.clients.items l.seats.items

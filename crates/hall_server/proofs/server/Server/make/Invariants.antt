use Rattle.std.proofs.Common.{vec_len}
use Rattle.hall_server.proofs.Dealing.{HasOpened}
use Rattle.hall_server.proofs.server.Server.make.Given as goal

abbrev pub invariant-loop-hall : goal.invariant-loop-hall
invariant-loop-hall g l = HasOpened g.D.Digester.digest_of l.users l.fn.halls.items l.halls.items l.server l.all.items

abbrev pub decreases-loop-hall : goal.decreases-loop-hall
decreases-loop-hall g l = vec_len l.halls

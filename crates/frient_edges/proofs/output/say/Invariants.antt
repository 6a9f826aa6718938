use Rattle.std.proofs.Common.{length}
use Rattle.frient_edges.proofs.Edges.{HasSaid}
use Rattle.frient_edges.proofs.output.say.Given as goal

abbrev pub invariant-loop-rest : goal.invariant-loop-rest
invariant-loop-rest g l = HasSaid (g.K.Sink.view l.fn.sink) (g.K.Sink.view l.sink) l.text l.rest

abbrev pub decreases-loop-rest : goal.decreases-loop-rest
decreases-loop-rest g l = length l.rest

use Rattle.std.proofs.Common.{sym, subst, List, ℕ}
use Rattle.frient_edges.proofs.Edges.{HasSaid, says_more, cut_short}
use Rattle.frient_edges.proofs.output.say.Goals as goal

pub loop-rest-preserved : goal.loop-rest-preserved
loop-rest-preserved g c =
    subst (λ (rest : List ℕ). HasSaid (g.K.Sink.view c.args.sink.now) (g.K.Sink.view c.write.new.self) c.args.text.now rest) (sym c.behind-rest.ensures) (says_more (g.K.Sink.view c.args.sink.now) (g.K.Sink.view c.loop-rest.sink) (g.K.Sink.view c.write.new.self) c.args.text.now c.loop-rest.rest.now c.in-Ok.n c.loop-rest.invariant c.in-Ok.ensures)

pub returns-in-Err : goal.returns-in-Err
returns-in-Err g c = cut_short (g.K.Sink.view c.args.sink.now) (g.K.Sink.view c.loop-rest.sink) (g.K.Sink.view c.write.new.self) c.args.text.now c.loop-rest.rest.now c.args.want c.in-Err.field-0 c.loop-rest.invariant c.in-Err.ensures c.loop-rest-test.true

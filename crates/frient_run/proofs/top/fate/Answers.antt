use Rattle.std.proofs.Common.{map}
use Rattle.frient_run.proofs.Landing.{happened_over}
use Rattle.frient_run.proofs.top.fate.Goals as goal

pub returns-in-Ok-clause-happened : goal.returns-in-Ok-clause-happened
returns-in-Ok-clause-happened g c =
    happened_over (map (λ w. w.now) c.args.words.now) (g.S.Source.view c.args.source.now)
    (g.S.Source.view c.choose.new.source) c.in-Ok.chosen g.W.Wire.view c.args.wires.now.items
    c.run_over.new.wires.items c.run_over.result c.in-Ok.ensures.0 c.in-Ok.ensures.1 c.run_over.ensures

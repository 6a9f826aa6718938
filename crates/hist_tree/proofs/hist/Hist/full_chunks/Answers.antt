use Rattle.std.specs.Arc.{arc_value}
use Rattle.hist_tree.proofs.Chunking.{full-joined, full-pieces}
use Rattle.hist_tree.proofs.hist.Hist.full_chunks.Goals as goal

pub returns-clause-pieces : goal.returns-clause-pieces
returns-clause-pieces g c =
    full-pieces (λ a. arc_value a) c.self.inside.chunks.items c.deref.result.now c.args.self.now
    c.self.inside.count c.deref.ensures.value c.self.view_is c.self.invariant

pub returns-clause-items : goal.returns-clause-items
returns-clause-items g c =
    full-joined (λ a. arc_value a) c.self.inside.chunks.items c.deref.result.now c.args.self.now
    c.self.inside.count c.deref.ensures.value c.self.view_is c.self.invariant

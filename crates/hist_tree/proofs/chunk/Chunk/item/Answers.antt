use Rattle.hist_tree.proofs.Keeping.{item-at}
use Rattle.std.specs.Arc.{arc_value}
use Rattle.hist_tree.proofs.chunk.Chunk.item.Goals as goal

pub returns : goal.returns
returns g c =
    item-at (λ a. arc_value a) (λ k. k.item) c.self.inside.kept.items c.args.self.now c.args.k c.index.result.now
    c.deref.result.now c.self.view_is c.requires c.index.ensures c.deref.ensures

use Rattle.std.specs.Arc.{arc_value}
use Rattle.hist_tree.proofs.Chunking.{item-fits, item-read}
use Rattle.hist_tree.proofs.hist.Hist.item.Goals as goal

pub item-requires : goal.item-requires
item-requires g c =
    item-fits (λ a. arc_value a) c.self.inside.chunks.items c.args.self.now c.self.inside.count c.args.k
    c.index.result.now c.deref.result.now c.self.invariant c.self.view_is c.requires c.index.ensures
    c.deref.ensures

pub returns : goal.returns
returns g c =
    item-read (λ a. arc_value a) c.self.inside.chunks.items c.args.self.now c.self.inside.count c.args.k
    c.index.result.now c.deref.result.now c.item.result.now c.self.invariant c.self.view_is c.requires
    c.index.ensures c.deref.ensures c.item.ensures

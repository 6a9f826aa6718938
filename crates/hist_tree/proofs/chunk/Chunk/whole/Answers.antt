use Rattle.std.proofs.Common.{◌+◌, ◌-◌, ◌<◌, arith, length}
use Rattle.std.specs.Arc.{arc_value}
use Rattle.hist_tree.proofs.Keeping.{top-read, top-within}
use Rattle.hist_tree.proofs.chunk.Chunk.whole.Goals as goal

pub index-requires : goal.index-requires
index-requires g c =
    let width = c.leaves.ensures in
    let within : c.args.level < length c.deref.result.now.tops.items =
    top-within g.D.Digester.digest_of g.T.HasText.text_of (λ a. arc_value a) (λ k. k.item) (λ k. k.tops.items)
    c.self.inside.kept.items c.args.self.now c.index-last.result.now c.deref.result.now c.args.level
    c.args.start (c.args.start + c.leaves.result - 1) c.self.view_is c.self.invariant c.requires.aligned
    c.requires.within (omega arith) c.index-last.ensures c.deref.ensures in
    let len = c.deref.result.now.tops.ok in omega arith

pub returns : goal.returns
returns g c =
    let width = c.leaves.ensures in
    top-read g.D.Digester.digest_of g.T.HasText.text_of (λ a. arc_value a) (λ k. k.item) (λ k. k.tops.items)
    c.self.inside.kept.items c.args.self.now c.index-last.result.now c.deref.result.now c.args.level
    c.args.start (c.args.start + c.leaves.result - 1) c.index.result.now c.self.view_is c.self.invariant
    c.requires.aligned c.requires.within (omega arith) c.index-last.ensures c.deref.ensures c.index.ensures

use Rattle.std.proofs.Common.{◌≡◌, ◌^◌, ◌∙◌, ap, arith, length, sym}
use Rattle.std.specs.Arc.{arc_value}
use Rattle.std.proofs.lemmas.Nat.{pow_pos}
use Rattle.tree_model.specs.History.{part}
use Rattle.hist_tree.proofs.Chunking.{part-fits, part-read, place-within}
use Rattle.hist_tree.proofs.Places.{chunk_place-aligned, chunk_place-fits}
use Rattle.hist_tree.proofs.hist.Hist.whole.Goals as goal

pub index-requires : goal.index-requires
index-requires g c =
    let some = pow_pos c.args.level in
    let size : length c.args.self.now ≡ c.self.inside.count = ap (λ ys. length ys) (sym c.self.view_is)
    ∙ c.self.invariant.size in
    let within = c.requires.within in
    let there = place-within (λ a. arc_value a) c.self.inside.chunks.items c.self.inside.count c.args.start
    c.self.invariant (omega arith) in
    let len = c.self.inside.chunks.ok in omega arith

pub whole-requires-clause-aligned : goal.whole-requires-clause-aligned
whole-requires-clause-aligned g c = chunk_place-aligned c.args.level c.args.start c.requires.low c.requires.aligned

pub whole-requires-clause-within : goal.whole-requires-clause-within
whole-requires-clause-within g c =
    part-fits (λ a. arc_value a) c.self.inside.chunks.items c.args.self.now c.self.inside.count c.args.start (2 ^
    c.args.level) c.index.result.now c.deref.result.now c.self.invariant c.self.view_is (pow_pos c.args.level)
    c.requires.within (chunk_place-fits c.args.level c.args.start c.requires.low c.requires.aligned)
    c.index.ensures c.deref.ensures

pub returns : goal.returns
returns g c =
    c.whole.ensures
    ∙ ap (part g.D.Digester.digest_of c.args.level)
    (part-read (λ a. arc_value a) g.T.HasText.text_of c.self.inside.chunks.items c.args.self.now
    c.self.inside.count c.args.start (2 ^ c.args.level) c.index.result.now c.deref.result.now c.self.invariant
    c.self.view_is (pow_pos c.args.level) c.requires.within (chunk_place-fits c.args.level c.args.start
    c.requires.low c.requires.aligned) c.index.ensures c.deref.ensures)

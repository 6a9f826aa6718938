use Rattle.std.specs.Arc.{arc_value}
use Rattle.std.proofs.Common.{◌≡◌, ◌∙◌, ap, arith, length, sym}
use Rattle.hist_tree.proofs.Chunking.{hist-items, hist-more}
use Rattle.hist_tree.proofs.hist.Hist.append.Goals as goal

pub invariant_of-result : goal.invariant_of-result
invariant_of-result g c =
    let size : length c.args.self.now ≡ c.self.inside.count = ap (λ ys. length ys) (sym c.self.view_is)
    ∙ c.self.invariant.size in
    let next = c.in-Some.ensures.1 in
    hist-more (λ a. arc_value a) c.full_chunks-full.result.now c.in_ok-chunks.chunks.items c.push.new.self.items
    c.in_ok-last.last c.args.self.now c.in_ok-last_with.field-0 c.args.item c.in-Some.count
    c.in_ok-chunks.ensures c.in_ok-push.ensures.items c.in_ok-last.ensures.ok c.in_ok-last_with.ensures
    c.full_chunks-full.ensures.pieces c.full_chunks-full.ensures.items (omega arith)

pub returns : goal.returns
returns g c =
    hist-items (λ a. arc_value a) c.full_chunks-full.result.now c.in_ok-chunks.chunks.items c.push.new.self.items
    c.in_ok-last.last c.args.self.now c.in_ok-last_with.field-0 c.args.item
    c.in_ok-chunks.ensures c.in_ok-push.ensures.items c.in_ok-last.ensures.ok c.in_ok-last_with.ensures
    c.full_chunks-full.ensures.items

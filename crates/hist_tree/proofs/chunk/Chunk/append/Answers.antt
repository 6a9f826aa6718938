use Rattle.std.proofs.Common.{ap}
use Rattle.std.specs.Arc.{arc_value}
use Rattle.hist_tree.proofs.Keeping.{chunk-more, items-more}
use Rattle.hist_tree.proofs.chunk.Chunk.append.Goals as goal

pub invariant_of-result : goal.invariant_of-result
invariant_of-result g c =
    chunk-more g.D.Digester.digest_of g.T.HasText.text_of (λ a. arc_value a) (λ k. k.item) (λ k. k.tops.items)
    c.self.inside.kept.items c.in_ok-kept.kept.items c.push.new.self.items
    c.in_ok-last.last c.args.self.now c.args.item c.in_ok-tops.tops.items (rw c.deref.ensures.value at
    c.in_ok-kept.ensures) c.in_ok-push.ensures.items
    (ap (λ k. k.item) c.in_ok-last.ensures.ok) (ap (λ k. k.tops.items) c.in_ok-last.ensures.ok) c.self.view_is
    c.self.invariant c.requires (rw c.text.ensures at c.in_ok-tops.ensures)

pub returns : goal.returns
returns g c =
    items-more (λ a. arc_value a) (λ k. k.item) c.self.inside.kept.items c.in_ok-kept.kept.items c.push.new.self.items
    c.in_ok-last.last c.args.self.now c.args.item (rw c.deref.ensures.value at c.in_ok-kept.ensures)
    c.in_ok-push.ensures.items
    (ap (λ k. k.item) c.in_ok-last.ensures.ok) c.self.view_is

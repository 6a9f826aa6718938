use Rattle.std.proofs.Common.{◌+◌, arith, map}
use Rattle.std.specs.Arc.{arc_value}
use Rattle.std.proofs.lemmas.List.{length-map}
use Rattle.hist_tree.proofs.Keeping.{doubling-all, doubling-first, doubling-more, left-place, length-texts, level-low}
use Rattle.hist_tree.proofs.chunk.Chunk.tops_with.Goals as goal

pub double-init : goal.double-init
double-init g c =
    let text = g.T.HasText.text_of in
    let count = length-texts text (λ a. arc_value a) (λ k. k.item) c.self.inside.kept.items c.args.self.now
    c.self.view_is in
    let len = c.self.inside.kept.ok in
    let read = c.len-count.ensures in
    doubling-first g.D.Digester.digest_of (map text c.args.self.now) c.args.text.now (c.len-count.result + 1)
    c.tagged-top.result c.push.new.self.items (omega arith) c.tagged-top.ensures (rw c.new-tops.ensures.items
    at c.in_ok-push.ensures.items)

pub whole-left-requires-clause-low : goal.whole-left-requires-clause-low
whole-left-requires-clause-low g c =
    let text = g.T.HasText.text_of in
    let count = length-map c.args.self.now text in
    level-low g.D.Digester.digest_of (map text c.args.self.now) c.args.text.now (c.len-count.result + 1)
    c.double.level c.double.width c.double.top c.double.tops.items c.double.invariant (let few = c.requires in
    omega arith)

pub whole-left-requires-clause-aligned : goal.whole-left-requires-clause-aligned
whole-left-requires-clause-aligned g c =
    left-place g.D.Digester.digest_of (map g.T.HasText.text_of c.args.self.now) c.args.text.now (c.len-count.result
    + 1) c.double.level c.double.width c.double.top c.double.tops.items c.double.invariant c.double-test.true

pub overflow_add-level : goal.overflow_add-level
overflow_add-level g c =
    let text = g.T.HasText.text_of in
    let count = length-map c.args.self.now text in
    let low = level-low g.D.Digester.digest_of (map text c.args.self.now) c.args.text.now (c.len-count.result + 1)
    c.double.level c.double.width c.double.top c.double.tops.items c.double.invariant (let few = c.requires in
    omega arith) in
    omega arith

pub double-preserved : goal.double-preserved
double-preserved g c =
    rw c.in_ok-push-2.ensures.items
    (doubling-more g.D.Digester.digest_of (map g.T.HasText.text_of c.args.self.now) c.args.text.now
    (c.len-count.result + 1) c.double.level c.double.width c.double.top c.whole-left.result
    c.tagged-top-in-double.result c.double.tops.items c.double.invariant c.double-test.true
    c.whole-left.ensures c.tagged-top-in-double.ensures)

pub returns : goal.returns
returns g c =
    doubling-all g.D.Digester.digest_of (map g.T.HasText.text_of c.args.self.now) c.args.text.now
    (c.len-count.result + 1) c.double.level c.double.width c.double.top c.double.tops.items c.double.invariant
    c.double-test.false

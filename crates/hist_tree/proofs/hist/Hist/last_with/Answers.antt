use Rattle.std.specs.Arc.{arc_value}
use Rattle.hist_tree.proofs.Chunking.{last-items, last-short}
use Rattle.hist_tree.proofs.hist.Hist.last_with.Goals as goal

pub append-requires : goal.append-requires
append-requires g c =
    last-short c.args.self.now c.deref-in-Some.result.now
    (last-items (λ a. arc_value a) c.self.inside.chunks.items c.deref.result.now c.args.self.now
    c.self.inside.count c.in-Some.last.now c.deref-in-Some.result.now c.deref.ensures.value c.self.invariant
    c.self.view_is c.in-Some.ensures.lookup.3.0 c.in-Some.ensures.lookup.1 c.deref-in-Some.ensures)

pub returns-in-Some : goal.returns-in-Some
returns-in-Some g c =
    let behind = last-items (λ a. arc_value a) c.self.inside.chunks.items c.deref.result.now c.args.self.now
    c.self.inside.count c.in-Some.last.now c.deref-in-Some.result.now c.deref.ensures.value c.self.invariant
    c.self.view_is c.in-Some.ensures.lookup.3.0 c.in-Some.ensures.lookup.1 c.deref-in-Some.ensures in
    rw (← behind) c.append.ensures

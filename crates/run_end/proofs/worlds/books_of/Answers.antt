use Rattle.std.proofs.Common.{◌≡◌, ◌∷◌, ap, arith, length}
use Rattle.std.specs.Vec.Iter.{into_iter_items}
use Rattle.run_end.specs.Ends.{HasEnded}
use Rattle.run_end.proofs.Lists.{each-next, next-of}
use Rattle.run_end.proofs.Together.{book-next, has-ended}
use Rattle.run_end.proofs.worlds.books_of.Goals as goal

pub loop-client-preserved : goal.loop-client-preserved
loop-client-preserved g c =
    let d = g.D.Digester.digest_of in
    let at = c.loop-client in
    let x = c.in-Some.client in
    let e = c.end.ensures in
    let steps : into_iter_items at.client-iterator ≡ x ∷ into_iter_items c.next.new.self = c.in-Some.ensures.steps.0 in
    record {
      split = next-of at.yielded (into_iter_items at.client-iterator) (into_iter_items c.next.new.self) _ x
          at.invariant.split steps;
      count = let was = at.invariant.count in
          let gone = c.in-Some.ensures.steps.1 in
          let short = ap length steps in
          omega arith;
      books_are = book-next at.books c.push.new.self at.yielded x c.end.result c.in_ok-push.ensures.added e.value
          at.invariant.books_are;
      ended = each-next (HasEnded d) at.yielded x at.invariant.ended (has-ended d x c.end.result e.value e.key e.kept);
    }

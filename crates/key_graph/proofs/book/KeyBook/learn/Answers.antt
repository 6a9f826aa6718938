use Rattle.std.proofs.Common.{◌≡◌}
use Rattle.key_graph.specs.KeyBook.{learnt, opened_all}
use Rattle.key_graph.specs.Held.{keys_of}
use Rattle.key_graph.proofs.Opening.{kept_by}
use Rattle.key_graph.proofs.book.KeyBook.learn.Goals as goal

pub returns-in-Ok-clause-learnt : goal.returns-in-Ok-clause-learnt
unfolding learnt
returns-in-Ok-clause-learnt c =
    let s = c.args.self.now in
    let updates = rw c.of.ensures at c.in-Ok.ensures.updates in
    let keys : keys_of c.insert.new.self ≡ opened_all s.depth s.leaf c.slot_after-slot.result c.args.gen_ (keys_of s.keys) c.wraps_in.result.now =
    kept_by s.depth s.leaf c.slot_after-slot.result c.args.gen_ s.keys c.insert.new.self c.wraps_in.result.now c.in_ok-fresh.fresh.items updates c.in_ok-fresh.ensures in
    rw (← c.slot_after-slot.ensures, ← c.wraps_in.ensures)
    (λ i. record {
      wall = s.wall;
      depth = s.depth;
      user = s.user;
      leaf = s.leaf;
      slot = c.slot_after-slot.result;
      keys = keys i;
      epochs = c.in_ok-push.ensures.items i;
    })

use Rattle.std.proofs.Common.{◌≡◌, ◌∙◌, List, get_or, ap, sym, []}
use Rattle.op_types.specs.declared.kind.Wrap.{Wrap}
use Rattle.key_graph.specs.declared.node_keys.NodeKey.{NodeKey}
use Rattle.key_graph.specs.KeyBook.{child_key}
use Rattle.key_graph.specs.Held.{book_of, in_place}
use Rattle.key_graph.proofs.Opening.{skipped, put}
use Rattle.key_graph.proofs.book.KeyBook.opened.Goals as goal
use Rattle.key_graph.proofs.book.KeyBook.opened.Goals.{in-Some+in_ok-put_key, in_default}

pub loop-wrap-preserved : goal.loop-wrap-preserved
loop-wrap-preserved c =
    let s = c.args.self.now in
    let no_wrap : Wrap = record { child = 0; child_gen = 0; body = [] } in
    let w = get_or c.args.wraps.now c.loop-wrap.wrap-index no_wrap in
    let keys = (book_of s).keys in
    let found : c.child_key.result ≡ child_key s.depth s.leaf c.args.slot (in_place keys c.args.gen_ c.loop-wrap.fresh.items) w.child w.child_gen =
    c.child_key.ensures ∙ ap (λ (f : List NodeKey). child_key s.depth s.leaf c.args.slot (in_place keys c.args.gen_ f) w.child w.child_gen) c.deref.ensures.value in
    elim c.match-child_key.branch [
      | in-Some+in_ok-put_key v ↦
          (rw v.fresh-is (put s.depth s.leaf c.args.slot c.args.gen_ keys c.args.wraps.now c.loop-wrap.wrap-index no_wrap c.loop-wrap.fresh.items v.put_key.new.fresh.items
          v.in-Some.key c.loop-wrap-test.true c.loop-wrap.invariant (sym v.in-Some.is ∙ found) v.in_ok-put_key.ensures))
      | in_default v ↦
          (rw v.fresh-is (skipped s.depth s.leaf c.args.slot c.args.gen_ keys c.args.wraps.now c.loop-wrap.wrap-index no_wrap c.loop-wrap.fresh.items
          c.loop-wrap-test.true c.loop-wrap.invariant (sym v.in_default.is ∙ found)))
    ]

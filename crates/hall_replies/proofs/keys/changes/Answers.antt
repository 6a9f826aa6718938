use Rattle.std.proofs.Common.{◌∙◌, sym, arith}
use Rattle.hall_replies.specs.Kept.{leaves_of}
use Rattle.hall_replies.proofs.Changes.{changed-step, changes-end, unchanged-step}
use Rattle.hall_replies.proofs.Kept.{leaf-at, length-leaves}
use Rattle.hall_replies.proofs.keys.changes.Goals as goal
use Rattle.hall_replies.proofs.keys.changes.Goals.{else-is_change, then-is_change+in_ok-push}

pub loop-k-preserved : goal.loop-k-preserved
loop-k-preserved g c =
    let s = c.args.snap.now in
    let leaf = c.item.result.now.leaf in
    let at = leaf-at s c.loop-k.k c.item.result.now (rw c.history.ensures at c.item.ensures) in
    elim c.if-is_change.branch [
      | then-is_change+in_ok-push w ↦ changed-step (leaves_of s) c.loop-k.k leaf c.loop-k.positions.items c.if-is_change.positions.items at
          c.loop-k.invariant (sym c.is_change.ensures ∙ w.if-is_change.true) (rw w.positions-is w.in_ok-push.ensures.items)
      | else-is_change w ↦ unchanged-step (leaves_of s) c.loop-k.k leaf c.loop-k.positions.items c.if-is_change.positions.items at
          c.loop-k.invariant (sym c.is_change.ensures ∙ w.if-is_change.false) (rw w.positions-is)
    ]

pub returns : goal.returns
returns g c =
    let s = c.args.snap.now in
    let all = length-leaves s in
    changes-end (leaves_of s) c.loop-k.k c.args.size c.loop-k.positions.items (omega arith) (omega (arith, all, c.requires.within)) c.loop-k.invariant

use Rattle.std.proofs.Common.{◌∙◌, ◌++◌, ◌∷◌, [], List, ap, sym, subst, take, arith}
use Rattle.std.proofs.lemmas.List.{append-nil, append_assoc, length-append, length-take-le}
use Rattle.op_types.specs.declared.op.Leaf.{Leaf}
use Rattle.audit_run.specs.Table.{Begins}
use Rattle.audit_run.proofs.Owned.{at-place}
use Rattle.audit_run.proofs.Places.{take-next}
use Rattle.audit_run.proofs.Tables.{begins-within, grows-on, grows-same}
use Rattle.audit_run.proofs.stories.extend.Goals as goal

pub loop-leaf-init : goal.loop-leaf-init
loop-leaf-init g c = (
  omega arith,
  grows-same c.args.lines.now.items,
  λ wall M it long. subst (Begins c.args.lines.now.items wall c.args.i) (sym (append-nil M)) it,
  λ w before. before,
)

pub put-requires-clause-within : goal.put-requires-clause-within
put-requires-clause-within g c =
    let it = c.requires.front in
    begins-within c.loop-leaf.lines.items it.0 c.loop-leaf.line (it.1.0 ++ take c.loop-leaf.leaf-index c.args.leaves.now)
    (c.loop-leaf.invariant.2 it.0 it.1.0 it.1.1 it.1.2)

pub put-requires-clause-front : goal.put-requires-clause-front
put-requires-clause-front g c =
    let it = c.requires.front in
    let less = c.loop-leaf-test.true in
    let long = it.1.2 in
    let k = c.loop-leaf.invariant.0 in
    let parts = length-append it.1.0 (take c.loop-leaf.leaf-index c.args.leaves.now) in
    let front = length-take-le c.loop-leaf.leaf-index c.args.leaves.now (omega arith) in (
      it.0,
      (
        it.1.0 ++ take c.loop-leaf.leaf-index c.args.leaves.now,
        c.loop-leaf.invariant.2 it.0 it.1.0 it.1.1 it.1.2,
        omega arith,
      ),
    )

pub put-requires-clause-room : goal.put-requires-clause-room
put-requires-clause-room g c =
    let less = c.loop-leaf-test.true in
    let room = c.requires.room in
    let k = c.loop-leaf.invariant.0 in omega arith

pub loop-leaf-preserved : goal.loop-leaf-preserved
loop-leaf-preserved g c =
    let less = c.loop-leaf-test.true in
    let k = c.loop-leaf.invariant.0 in (
      omega arith,
      grows-on c.args.lines.now.items c.loop-leaf.lines.items c.put.new.lines.items c.loop-leaf.invariant.1
          c.in_ok-line.ensures.grows,
      λ wall M it long.
          let parts = length-append M (take c.loop-leaf.leaf-index c.args.leaves.now) in
          let front = length-take-le c.loop-leaf.leaf-index c.args.leaves.now (omega arith) in
          subst (Begins c.put.new.lines.items wall c.in_ok-line.line)
          (append_assoc M (take c.loop-leaf.leaf-index c.args.leaves.now) (c.leaf-item.result ∷ [])
          ∙ ap (λ (ls : List Leaf). M ++ ls) (take-next c.args.leaves.now c.loop-leaf.leaf-index c.leaf-item.result
          (at-place c.args.leaves.now c.loop-leaf.leaf-index c.leaf-item.result less c.leaf-item.is)))
          (c.in_ok-line.ensures.begins wall (M ++ take c.loop-leaf.leaf-index c.args.leaves.now)
          (c.loop-leaf.invariant.2 wall M it long) (omega arith)),
      λ w before. c.in_ok-line.ensures.owners w (c.loop-leaf.invariant.3 w before),
    )

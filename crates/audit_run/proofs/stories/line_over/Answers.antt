use Rattle.std.proofs.Common.{◌++◌, List, ap, sym, subst, length, arith}
use Rattle.std.specs.List.{AllByRecursion}
use Rattle.op_types.specs.Spelling.{IsLeaf}
use Rattle.op_types.specs.declared.op.Leaf.{Leaf}
use Rattle.world_audit.specs.Story.{base_of, front_of}
use Rattle.audit_run.specs.Table.{Begins, Holds}
use Rattle.audit_run.proofs.Reaching.{held, none-mapped, some-mapped}
use Rattle.audit_run.proofs.Tables.{grows-on}
use Rattle.audit_run.proofs.stories.line_over.Goals as goal

pub returns-in-None-clause-holds : goal.returns-in-None-clause-holds
returns-in-None-clause-holds g c b s it =
    none-mapped c.front.new.lines.items c.args.r.now.wall (λ (front : List Leaf). front ++ c.args.r.now.leaves)
    (front_of c.args.r.now (base_of c.args.r.now b) s)
    (subst (Holds c.front.new.lines.items c.args.r.now.wall (front_of c.args.r.now (base_of c.args.r.now b) s)) c.in-None.is
    (c.in_ok-front.ensures.holds b s it.below_is it.beside_is))

pub extend-requires-clause-front : goal.extend-requires-clause-front
extend-requires-clause-front g c =
    let b = c.requires.fronts.0 in
    let s = c.requires.fronts.1.0 in
    let it = c.requires.fronts.1.1 in
    let M = held c.front.new.lines.items c.args.r.now.wall c.in-Some.i (front_of c.args.r.now (base_of c.args.r.now b) s)
    (subst (Holds c.front.new.lines.items c.args.r.now.wall (front_of c.args.r.now (base_of c.args.r.now b) s)) c.in-Some.is
    (c.in_ok-front.ensures.holds b s it.below_is it.beside_is)) in
    (c.args.r.now.wall, (M.0, M.2, it.long M.0 M.1))

pub extend-requires-clause-spelled : goal.extend-requires-clause-spelled
extend-requires-clause-spelled g c = subst (AllByRecursion IsLeaf) (sym c.as_slice.ensures) c.requires.spelled

pub extend-requires-clause-room : goal.extend-requires-clause-room
extend-requires-clause-room g c =
    let long = ap length c.as_slice.ensures in let room = c.requires.room in omega arith

pub returns-in_ok-extend-in-Some-clause-holds : goal.returns-in_ok-extend-in-Some-clause-holds
returns-in_ok-extend-in-Some-clause-holds g c b s it =
    some-mapped c.front.new.lines.items c.extend.new.lines.items c.args.r.now.wall c.in-Some.i c.in_ok-extend-in-Some.field-0
    (λ (front : List Leaf). front ++ c.args.r.now.leaves) (front_of c.args.r.now (base_of c.args.r.now b) s)
    (subst (Holds c.front.new.lines.items c.args.r.now.wall (front_of c.args.r.now (base_of c.args.r.now b) s)) c.in-Some.is
    (c.in_ok-front.ensures.holds b s it.below_is it.beside_is))
    (λ M is begins. subst (λ (ls : List Leaf). Begins c.extend.new.lines.items c.args.r.now.wall c.in_ok-extend-in-Some.field-0 (M ++ ls)) c.as_slice.ensures
    (c.in_ok-extend-in-Some.ensures.begins c.args.r.now.wall M begins (it.long M is)))

pub returns-in_ok-extend-in-Some-clause-grows : goal.returns-in_ok-extend-in-Some-clause-grows
returns-in_ok-extend-in-Some-clause-grows g c =
    grows-on c.args.lines.now.items c.front.new.lines.items c.extend.new.lines.items c.in_ok-front.ensures.grows
    c.in_ok-extend-in-Some.ensures.grows

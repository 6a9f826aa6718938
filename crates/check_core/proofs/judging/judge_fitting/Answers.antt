use Rattle.std.proofs.Common.{sym, ap, ◌∙◌, map, List, Some, None, ◌||◌}
use Rattle.std.specs.List.{list_any}
use Rattle.op_types.specs.declared.op.Leaf.{Leaf}
use Rattle.dict_proof.specs.View.{list_view}
use Rattle.check_rules.specs.Verdict.{is_other_wall}
use Rattle.check_core.specs.View.{checked_view, result_view}
use Rattle.check_core.proofs.PositionRows.{if-ok-view}
use Rattle.check_core.proofs.Unfitting.{fit-later, fit-news, fit-same}
use Rattle.check_core.proofs.judging.judge_fitting.Goals as goal

pub returns-in-Some : goal.returns-in-Some
returns-in-Some g c = sym
    (fit-news g.D.Digester.digest_of c.args.known.now c.args.asked.now c.args.view c.args.from c.args.tree.tree
    (map list_view c.args.lists) c.in_ok-leaves.leaves.items c.is_any_of_other_wall-other_wall.result
    (Some c.in-Some.verdict)
    (rw c.requires.size at c.requires.fitting) (rw c.requires.size at c.in_ok-leaves.ensures.behind)
    (c.is_any_of_other_wall-other_wall.ensures
    ∙ ap (λ (xs : List Leaf). is_other_wall c.args.known.now c.args.view.wall
    || list_any (λ (l : Leaf). is_other_wall c.args.known.now l.op.wall) xs) c.deref.ensures.value)
    (sym c.early_verdict.ensures ∙ c.in-Some.is))

pub returns-then-is_same_size : goal.returns-then-is_same_size
returns-then-is_same_size g c = c.nothing_new.ensures
    ∙ sym (fit-same g.D.Digester.digest_of c.args.known.now c.args.asked.now c.args.view c.args.from c.args.tree.tree
    (map list_view c.args.lists)
    (fit-news g.D.Digester.digest_of c.args.known.now c.args.asked.now c.args.view c.args.from c.args.tree.tree
    (map list_view c.args.lists) c.in_ok-leaves.leaves.items c.is_any_of_other_wall-other_wall.result None
    (rw c.requires.size at c.requires.fitting) (rw c.requires.size at c.in_ok-leaves.ensures.behind)
    (c.is_any_of_other_wall-other_wall.ensures
    ∙ ap (λ (xs : List Leaf). is_other_wall c.args.known.now c.args.view.wall
    || list_any (λ (l : Leaf). is_other_wall c.args.known.now l.op.wall) xs) c.deref.ensures.value)
    (sym c.early_verdict.ensures ∙ c.in_default.is)) (sym c.is_same_size.ensures ∙ c.if-is_same_size.true))

pub returns : goal.returns
returns g c = if-ok-view (result_view checked_view) c.judge_later.result _ _ c.judge_later.ensures
    (fit-later g.D.Digester.digest_of c.args.known.now c.args.asked.now c.args.view c.args.from c.args.tree.tree
    (map list_view c.args.lists)
    (fit-news g.D.Digester.digest_of c.args.known.now c.args.asked.now c.args.view c.args.from c.args.tree.tree
    (map list_view c.args.lists) c.in_ok-leaves.leaves.items c.is_any_of_other_wall-other_wall.result None
    (rw c.requires.size at c.requires.fitting) (rw c.requires.size at c.in_ok-leaves.ensures.behind)
    (c.is_any_of_other_wall-other_wall.ensures
    ∙ ap (λ (xs : List Leaf). is_other_wall c.args.known.now c.args.view.wall
    || list_any (λ (l : Leaf). is_other_wall c.args.known.now l.op.wall) xs) c.deref.ensures.value)
    (sym c.early_verdict.ensures ∙ c.in_default.is)) (sym c.is_same_size.ensures ∙ c.if-is_same_size.false))

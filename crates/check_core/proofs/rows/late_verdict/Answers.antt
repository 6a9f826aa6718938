use Rattle.std.proofs.Common.{sym, ap, ◌∙◌, map, ◌≡◌}
use Rattle.dict_proof.specs.View.{list_view}
use Rattle.check_core.specs.Finding.{told_view}
use Rattle.check_rules.specs.Verdict.{told_before}
use Rattle.check_core.proofs.Late.{late-last, late-tree, late-vouch}
use Rattle.check_core.proofs.PositionRows.{if-ok-same}
use Rattle.check_core.proofs.rows.late_verdict.Goals as goal

pub returns-then-is_some : goal.returns-then-is_some
returns-then-is_some g c = late-tree g.D.Digester.digest_of c.args.known.now c.args.view.now c.args.from
    c.args.tree.now.tree
    (map list_view c.args.lists.now) c.tree_verdict-verdict.result c.tree_verdict-verdict.ensures
    (sym c.is_some.ensures ∙ c.if-is_some.true)

pub returns-then-is_some-2 : goal.returns-then-is_some-2
returns-then-is_some-2 g c = late-vouch g.D.Digester.digest_of c.args.known.now c.args.view.now c.args.from
    c.args.tree.now.tree
    (map list_view c.args.lists.now) c.args.leaves.now c.tree_verdict-verdict.result c.in_ok-verdict.verdict
    c.tree_verdict-verdict.ensures
    (sym c.is_some.ensures ∙ c.if-is_some.false) (rw c.requires.size at c.requires.behind) c.in_ok-verdict.ensures
    (sym c.is_some-2.ensures ∙ c.if-is_some-2.true)

pub returns : goal.returns
returns g c = if-ok-same c.positions_verdict.result _ _ c.positions_verdict.ensures
    (late-last g.D.Digester.digest_of c.args.known.now c.args.view.now c.args.from c.args.tree.now.size
    c.args.tree.now.tree
    (map list_view c.args.lists.now) c.args.leaves.now c.tree_verdict-verdict.result c.in_ok-verdict.verdict
    (told_view c.in_ok-first.first)
    c.requires.size c.tree_verdict-verdict.ensures (sym c.is_some.ensures
    ∙ c.if-is_some.false) c.requires.behind c.in_ok-verdict.ensures
    (sym c.is_some-2.ensures ∙ c.if-is_some-2.false)
    (c.in_ok-first.ensures ∙ ap (told_before g.D.Digester.digest_of c.args.known.now.owner) c.anchor.ensures))

use Rattle.std.proofs.Common.{sym, ap, ◌∙◌, Result}
use Rattle.std.specs.Prelude.{IfOk}
use Rattle.dict_proof.specs.View.{list_view}
use Rattle.wall_law.specs.Law.{refusal_of}
use Rattle.check_core.specs.Finding.{told_view}
use Rattle.check_rules.specs.Verdict.{finding}
use Rattle.check_core.proofs.PositionRows.{hid-author, hid-changed, if-ok-same, keeps, lawful-rest, not-signed, other-list, unlawful}
use Rattle.check_core.proofs.positions.position_refusal.Goals as goal

pub returns-then-not-branch : goal.returns-then-not-branch
returns-then-not-branch g c = sym (not-signed
    (told_view c.args.before.now) c.args.known.now.wall c.args.k c.args.leaf.now
    (finding g.D.Digester.digest_of c.args.known.now c.args.tree.now.tree c.args.tree.now.size
    (list_view c.args.list.now) c.args.leaf.now)
    (sym c.in_ok-is_author_signed.ensures.decided ∙ c.if-not-branch.true))

pub returns-then-not-is_told : goal.returns-then-not-is_told
returns-then-not-is_told g c = sym (other-list
    (told_view c.args.before.now) c.args.known.now.wall c.args.k c.args.leaf.now
    (finding g.D.Digester.digest_of c.args.known.now c.args.tree.now.tree c.args.tree.now.size
    (list_view c.args.list.now) c.args.leaf.now)
    (sym c.in_ok-is_author_signed.ensures.decided ∙ c.if-not-branch.false) (sym c.is_told.ensures
    ∙ c.if-not-is_told.true))

pub returns-in_default : goal.returns-in_default
returns-in_default g c = sym (hid-author
    (told_view c.args.before.now) c.args.known.now.wall c.args.k c.args.leaf.now
    (finding g.D.Digester.digest_of c.args.known.now c.args.tree.now.tree c.args.tree.now.size
    (list_view c.args.list.now) c.args.leaf.now)
    (sym c.in_ok-is_author_signed.ensures.decided ∙ c.if-not-branch.false) (sym c.is_told.ensures
    ∙ c.if-not-is_told.false) (sym c.looked.ensures ∙ c.in_default.is))

pub returns-in_default-looked_changed : goal.returns-in_default-looked_changed
returns-in_default-looked_changed g c = sym (hid-changed
    (told_view c.args.before.now) c.args.known.now.wall c.args.k c.args.leaf.now
    (finding g.D.Digester.digest_of c.args.known.now c.args.tree.now.tree c.args.tree.now.size
    (list_view c.args.list.now) c.args.leaf.now) c.in-Some.author
    (sym c.in_ok-is_author_signed.ensures.decided ∙ c.if-not-branch.false) (sym c.is_told.ensures
    ∙ c.if-not-is_told.false) (sym c.looked.ensures ∙ c.in-Some.is) (sym c.looked_changed.ensures
    ∙ c.in_default-looked_changed.is))

pub refusal_behind-requires-clause-keeps : goal.refusal_behind-requires-clause-keeps
refusal_behind-requires-clause-keeps g c = keeps c.args.leaf.now.op (list_view c.args.list.now) c.in-Some.author
    c.in-Some-looked_changed.changed c.args.before.now.epoch c.args.known.now.wall c.args.k
    (sym c.looked.ensures ∙ c.in-Some.is) (sym c.looked_changed.ensures
    ∙ c.in-Some-looked_changed.is) (sym c.judge_found.ensures ∙ ap refusal_of c.in-Ok.is)

pub returns-in-Err : goal.returns-in-Err
returns-in-Err g c = sym (unlawful (told_view c.args.before.now) c.args.known.now.wall c.args.k c.args.leaf.now
    (finding g.D.Digester.digest_of c.args.known.now c.args.tree.now.tree c.args.tree.now.size
    (list_view c.args.list.now) c.args.leaf.now) c.in-Some.author c.in-Some-looked_changed.changed
    c.in-Err.refusal (sym c.in_ok-is_author_signed.ensures.decided ∙ c.if-not-branch.false) (sym c.is_told.ensures
    ∙ c.if-not-is_told.false) (sym c.looked.ensures ∙ c.in-Some.is) (sym c.looked_changed.ensures
    ∙ c.in-Some-looked_changed.is) (sym c.judge_found.ensures ∙ ap refusal_of c.in-Err.is))

pub returns-in-Ok : goal.returns-in-Ok
returns-in-Ok g c = if-ok-same c.refusal_behind.result _ _ c.refusal_behind.ensures (sym (lawful-rest
    (told_view c.args.before.now) c.args.known.now.wall c.args.k c.args.leaf.now
    (finding g.D.Digester.digest_of c.args.known.now c.args.tree.now.tree c.args.tree.now.size
    (list_view c.args.list.now) c.args.leaf.now)
    c.in-Some.author c.in-Some-looked_changed.changed (sym c.in_ok-is_author_signed.ensures.decided
    ∙ c.if-not-branch.false) (sym c.is_told.ensures ∙ c.if-not-is_told.false) (sym c.looked.ensures
    ∙ c.in-Some.is) (sym c.looked_changed.ensures ∙ c.in-Some-looked_changed.is) (sym c.judge_found.ensures
    ∙ ap refusal_of c.in-Ok.is)))

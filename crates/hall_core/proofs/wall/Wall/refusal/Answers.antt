use Rattle.std.proofs.Common.{◌∙◌, ap, sym}
use Rattle.std.proofs.lemmas.Bool.{leb-false, leb-true}
use Rattle.op_types.specs.declared.limits.TheConstants.{VIEW_SIZE_MAX}
use Rattle.signed_ops.specs.Signed.{is_author_signed}
use Rattle.hall_core.specs.Standing.{Wall}
use Rattle.hall_core.proofs.Refusals.{full-refused, later-refused, unsigned-refused}
use Rattle.hall_core.proofs.wall.Wall.refusal.Goals as goal

pub returns-then-is_full : goal.returns-then-is_full
returns-then-is_full g c =
    full-refused g.D.Digester.digest_of c.args.self.now.facts c.args.self.now.leaves c.args.op.now
    (leb-true VIEW_SIZE_MAX _ (sym c.is_full.ensures ∙ c.if-is_full.true))

pub returns-then-not-branch : goal.returns-then-not-branch
returns-then-not-branch g c =
    let wall = c.args.self.now in
    let op = c.args.op.now in
    unsigned-refused g.D.Digester.digest_of wall.facts wall.leaves op (leb-false VIEW_SIZE_MAX _ (sym c.is_full.ensures
    ∙ c.if-is_full.false))
    (sym (c.in_ok-is_author_signed.ensures.decided ∙ ap (λ (w : Wall). is_author_signed w.facts.users op)
    c.self.view_is)
    ∙ c.if-not-branch.true)

pub returns : goal.returns
returns g c =
    let wall = c.args.self.now in
    let op = c.args.op.now in
    c.later_refusal.ensures
    ∙ later-refused g.D.Digester.digest_of wall.facts wall.leaves op (leb-false VIEW_SIZE_MAX _ (sym c.is_full.ensures
    ∙ c.if-is_full.false))
    (sym (c.in_ok-is_author_signed.ensures.decided ∙ ap (λ (w : Wall). is_author_signed w.facts.users op)
    c.self.view_is)
    ∙ c.if-not-branch.false)

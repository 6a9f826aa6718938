use Rattle.std.proofs.Common.{sym, subst, arith}
use Rattle.hall_core.specs.Standing.{IsNext, Wall}
use Rattle.hall_core.proofs.Refusals.{IsFree, free}
use Rattle.hall_core.proofs.Walls.{keeps-more, leaves-left, length-next, placed-is, signed-over}
use Rattle.hall_core.proofs.wall.Wall.place.Goals as goal

pub root_at-root-requires-clause-some : goal.root_at-root-requires-clause-some
root_at-root-requires-clause-some g c =
    let more = length-next _ g.D.Digester.digest_of c.args.self.now.facts c.args.self.now.leaves c.args.op.now
    c.in_ok-list.field-0.list c.in_ok-list.field-0.epoch c.in_ok-list.field-0.history c.in_ok-list.ensures in
    omega arith

pub sign_view-requires : goal.sign_view-requires
sign_view-requires g c =
    let op = c.args.op.now in
    let is_free = subst (λ (w : Wall). IsFree g.D.Digester.digest_of w.facts w.leaves op) (sym c.self.view_is)
    (free g.D.Digester.digest_of c.args.self.now.facts c.args.self.now.leaves op c.requires.free) in
    leaves-left c.self.inside.signer.used c.self.inside.signer.pair.lms.h _ c.self.invariant.used c.self.invariant.tall
    is_free.room

pub invariant_of-self-2 : goal.invariant_of-self-2
invariant_of-self-2 g c =
    let op = c.args.op.now in
    let before = c.self.inside in
    let made = c.in_ok-list.field-0 in
    let is_free = subst (λ (w : Wall). IsFree g.D.Digester.digest_of w.facts w.leaves op) (sym c.self.view_is)
    (free g.D.Digester.digest_of c.args.self.now.facts c.args.self.now.leaves op c.requires.free) in
    let next = subst (λ (w : Wall). IsNext {D = g.row.D.Denot} g.D.Digester.digest_of w.facts w.leaves op made.list
    made.epoch made.history)
    (sym c.self.view_is) c.in_ok-list.ensures in
    let signed = c.in_ok-latest.ensures in
    keeps-more _ g.D.Digester.digest_of _ before.opening _ before.history made.history before.latest
    c.in_ok-latest.latest op
    made.list made.epoch c.sign_view.new.signer c.self.invariant is_free next signed.used
    (signed-over _ g.D.Digester.digest_of before.facts _ op made.list made.epoch made.history _ c.size-size.result
    c.root_at-root.result
    c.in_ok-latest.latest next c.size-size.ensures c.root_at-root.ensures signed.value signed.root signed.valid
    signed.short)

pub returns-clause-placed : goal.returns-clause-placed
returns-clause-placed g c =
    let made = c.in_ok-list.field-0 in
    placed-is _ g.D.Digester.digest_of _ c.args.self.now c.args.op.now made.list made.epoch made.history
    c.sign_view.new.signer
    c.self.view_is c.in_ok-list.ensures c.in_ok-latest.ensures.used

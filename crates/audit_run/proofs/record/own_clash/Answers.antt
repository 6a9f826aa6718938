use Rattle.std.proofs.Common.{◌∙◌, Option, sym, subst}
use Rattle.world_book.specs.declared.took.Took.{Took}
use Rattle.world_audit.specs.Ready.{AreReady}
use Rattle.world_audit.specs.Story.{prev}
use Rattle.audit_run.specs.Compared.{Compared}
use Rattle.audit_run.specs.Fronts.{fronts_compared, shown_compared}
use Rattle.audit_run.proofs.Comparing.{behind-ready, goes-behind, ready-front, stops-there}
use Rattle.audit_run.proofs.record.own_clash.Goals as goal

pub fronts_clash-requires-clause-long : goal.fronts_clash-requires-clause-long
fronts_clash-requires-clause-long g c h at = (c.requires.long h at).old

pub fronts_clash-requires-clause-size : goal.fronts_clash-requires-clause-size
fronts_clash-requires-clause-size g c s at = c.requires.old s (sym c.prev-place.ensures.is ∙ at)

pub fronts_clash-requires-clause-ready : goal.fronts_clash-requires-clause-ready
fronts_clash-requires-clause-ready g c h at =
    let w = c.args.index.now.world.now in
    let r = c.args.r.now in
    subst (λ (o : Option Took). AreReady g.D.Digester.digest_of (fronts_compared w r.have h.leaves o)) (sym c.prev-place.ensures.is)
    (ready-front g.D.Digester.digest_of (fronts_compared w r.have h.leaves (prev w r)) (shown_compared w r h) (c.requires.ready h at))

pub returns-then-is_some : goal.returns-then-is_some
returns-then-is_some g c h at =
    let w = c.args.index.now.world.now in
    let r = c.args.r.now in
    stops-there g.D.Digester.digest_of (fronts_compared w r.have h.leaves (prev w r)) (shown_compared w r h) c.in_ok-first.first (subst (λ (o : Option Took). Compared g.D.Digester.digest_of (fronts_compared w r.have h.leaves o) c.in_ok-first.first) c.prev-place.ensures.is (c.in_ok-first.ensures h at)) (sym c.is_some.ensures ∙ c.if-is_some.true)

pub shown_clash-requires-clause-ready : goal.shown_clash-requires-clause-ready
shown_clash-requires-clause-ready g c h at =
    let w = c.args.index.now.world.now in
    let r = c.args.r.now in
    (behind-ready g.D.Digester.digest_of (fronts_compared w r.have h.leaves (prev w r)) (shown_compared w r h) c.in_ok-first.first (c.requires.ready h at) (subst (λ (o : Option Took). Compared g.D.Digester.digest_of (fronts_compared w r.have h.leaves o) c.in_ok-first.first) c.prev-place.ensures.is (c.in_ok-first.ensures h at)) (sym c.is_some.ensures ∙ c.if-is_some.false))

pub returns : goal.returns
returns g c h at =
    let w = c.args.index.now.world.now in
    let r = c.args.r.now in
    goes-behind g.D.Digester.digest_of (fronts_compared w r.have h.leaves (prev w r)) (shown_compared w r h) c.in_ok-first.first c.in_ok-clash.clash (subst (λ (o : Option Took). Compared g.D.Digester.digest_of (fronts_compared w r.have h.leaves o) c.in_ok-first.first) c.prev-place.ensures.is (c.in_ok-first.ensures h at)) (sym c.is_some.ensures ∙ c.if-is_some.false)
    (c.in_ok-clash.ensures h at)

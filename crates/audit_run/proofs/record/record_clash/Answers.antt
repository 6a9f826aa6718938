use Rattle.std.proofs.Common.{◌∙◌, sym}
use Rattle.world_audit.specs.Comparisons.{base_compared}
use Rattle.audit_run.specs.Fronts.{own_compared}
use Rattle.audit_run.proofs.Comparing.{behind-ready, goes-behind, ready-front, stops-there}
use Rattle.audit_run.proofs.Others.{first-at}
use Rattle.audit_run.proofs.record.record_clash.Goals as goal

pub base_clash-requires-clause-ready : goal.base_clash-requires-clause-ready
base_clash-requires-clause-ready g c =
    let it = first-at c.args.histories.now.lines.items c.args.line c.requires.line in
    ready-front g.D.Digester.digest_of (base_compared c.args.index.now.world.now c.args.r.now)
    (own_compared c.args.index.now.world.now c.args.r.now it.0) (c.requires.ready it.0 it.1)

pub returns-then-is_some : goal.returns-then-is_some
returns-then-is_some g c h at =
    let w = c.args.index.now.world.now in
    let r = c.args.r.now in
    stops-there g.D.Digester.digest_of (base_compared w r) (own_compared w r h) c.in_ok-first.first c.in_ok-first.ensures (sym c.is_some.ensures ∙ c.if-is_some.true)

pub own_clash-requires-clause-ready : goal.own_clash-requires-clause-ready
own_clash-requires-clause-ready g c h at =
    let w = c.args.index.now.world.now in
    let r = c.args.r.now in
    (behind-ready g.D.Digester.digest_of (base_compared w r) (own_compared w r h) c.in_ok-first.first (c.requires.ready h at) c.in_ok-first.ensures (sym c.is_some.ensures ∙ c.if-is_some.false))

pub returns : goal.returns
returns g c h at =
    let w = c.args.index.now.world.now in
    let r = c.args.r.now in
    goes-behind g.D.Digester.digest_of (base_compared w r) (own_compared w r h) c.in_ok-first.first c.in_ok-clash.clash c.in_ok-first.ensures (sym c.is_some.ensures ∙ c.if-is_some.false)
    (c.in_ok-clash.ensures h at)

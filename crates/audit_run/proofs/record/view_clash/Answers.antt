use Rattle.std.proofs.Common.{◌∙◌, Option, sym, subst, map}
use Rattle.world_book.specs.declared.took.Took.{Took}
use Rattle.world_audit.specs.Ready.{AreReady}
use Rattle.audit_run.specs.Compared.{Compared}
use Rattle.audit_run.specs.Fronts.{fronts_compared}
use Rattle.audit_run.proofs.Others.{seen-size}
use Rattle.audit_run.proofs.record.view_clash.Goals as goal

pub fronts_clash-requires-clause-size : goal.fronts_clash-requires-clause-size
fronts_clash-requires-clause-size g c s at =
    seen-size c.args.index.now.world.now (map (λ r. r.now) c.args.index.now.records.items) c.requires.index c.args.wall c.args.leaf.now s
    (sym c.seen_by-place.ensures.is ∙ at)

pub fronts_clash-requires-clause-ready : goal.fronts_clash-requires-clause-ready
fronts_clash-requires-clause-ready g c h at =
    subst (λ (o : Option Took). AreReady g.D.Digester.digest_of (fronts_compared c.args.index.now.world.now c.args.leaf.now.op.view.size h.leaves o))
    (sym c.seen_by-place.ensures.is) (c.requires.ready h at)

pub returns : goal.returns
returns g c h at =
    subst (λ (o : Option Took). Compared g.D.Digester.digest_of (fronts_compared c.args.index.now.world.now c.args.leaf.now.op.view.size h.leaves o) c.in_ok-clash.clash)
    c.seen_by-place.ensures.is (c.in_ok-clash.ensures h at)

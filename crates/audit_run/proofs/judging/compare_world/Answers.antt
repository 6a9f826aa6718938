use Rattle.std.proofs.Common.{◌∙◌, ap, sym, subst, length}
use Rattle.std.specs.Prelude.{filter, is_some}
use Rattle.world_book.specs.declared.world.World.{World}
use Rattle.world_audit.specs.Comparisons.{all_compared}
use Rattle.world_audit.specs.Ready.{AreReady}
use Rattle.world_audit.proofs.Readiness.{all-ready}
use Rattle.audit_run.specs.Answer.{count_grounded}
use Rattle.audit_run.specs.Compared.{Compared}
use Rattle.audit_run.proofs.Counting.{grounded-count}
use Rattle.audit_run.proofs.judging.compare_world.Goals as goal

pub first_clash-requires-clause-ready : goal.first_clash-requires-clause-ready
first_clash-requires-clause-ready g c =
    subst (λ (w : World). AreReady g.D.Digester.digest_of (all_compared w)) (sym c.in_ok-index.ensures.world)
    (all-ready g.D.Digester.digest_of c.args.world.now c.requires.kept c.requires.unsigned)

pub returns-clause-compared : goal.returns-clause-compared
returns-clause-compared g c =
    subst (λ (w : World). Compared g.D.Digester.digest_of (all_compared w) c.in_ok-clash.clash) c.in_ok-index.ensures.world
    c.in_ok-clash.ensures

pub returns-clause-grounded : goal.returns-clause-grounded
returns-clause-grounded g c =
    c.count_some.ensures ∙ ap (λ ps. length (filter (λ p. is_some p) ps)) c.deref-3.ensures.value
    ∙ grounded-count c.in_ok-index.index.world.now c.in_ok-histories.histories.lines.items c.in_ok-histories.histories.places.items c.in_ok-histories.ensures
    ∙ ap count_grounded c.in_ok-index.ensures.world

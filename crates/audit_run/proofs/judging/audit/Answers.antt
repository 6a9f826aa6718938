use Rattle.std.proofs.Common.{◌≡◌, ◌∙◌, ap, subst, Some, Option}
use Rattle.std.specs.Option.{option_map}
use Rattle.fr_digest.specs.Collision.{Strings}
use Rattle.world_audit.specs.Comparisons.{all_compared}
use Rattle.audit_run.specs.Compared.{Compared}
use Rattle.audit_run.specs.Unsigned.{IsSearched, shown_leaves}
use Rattle.audit_run.proofs.Counting.{finds-clash, finds-forged, finds-nothing, none-unsigned}
use Rattle.audit_run.proofs.judging.audit.Goals as goal

pub returns-in-Some-clause-forged : goal.returns-in-Some-clause-forged
returns-in-Some-clause-forged g c user wall op e =
    finds-forged g.D.Digester.digest_of c.args.world.now c.requires c.in-Some.leaf.now user wall op
    (subst (IsSearched c.args.world.now (shown_leaves c.args.world.now)) (ap (option_map (λ l. l.now)) c.in-Some.is) c.first_unsigned.ensures)
    (c.forged.ensures.forged user wall op cc)

pub compare_world-requires-clause-unsigned : goal.compare_world-requires-clause-unsigned
compare_world-requires-clause-unsigned g c =
    none-unsigned c.args.world.now (option_map (λ l. l.now) c.first_unsigned.result) c.first_unsigned.ensures
    (ap (option_map (λ l. l.now)) c.in_default.is)

pub returns-in-None-clause-sound : goal.returns-in-None-clause-sound
returns-in-None-clause-sound g c =
    finds-nothing g.D.Digester.digest_of c.args.world.now c.in-Ok.outcome.counts c.requires
    (none-unsigned c.args.world.now (option_map (λ l. l.now) c.first_unsigned.result) c.first_unsigned.ensures
    (ap (option_map (λ l. l.now)) c.in_default.is))
    (subst (λ (o : Option Strings). Compared g.D.Digester.digest_of (all_compared c.args.world.now) o) c.in-None.is c.in-Ok.ensures.compared)
    c.in-Ok.ensures.records c.in-Ok.ensures.grounded

pub returns-in-Some-clash-clause-clash : goal.returns-in-Some-clash-clause-clash
returns-in-Some-clash-clause-clash g c s e =
    finds-clash g.D.Digester.digest_of c.args.world.now s c.in-Ok.outcome.clash
    (none-unsigned c.args.world.now (option_map (λ l. l.now) c.first_unsigned.result) c.first_unsigned.ensures
    (ap (option_map (λ l. l.now)) c.in_default.is)) c.in-Ok.ensures.compared
    (c.in-Some-clash.is ∙ ap (λ x. Some x) (let same : c.in-Some-clash.clash ≡ s = cc in same))

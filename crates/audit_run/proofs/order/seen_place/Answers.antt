use Rattle.std.proofs.Common.{map}
use Rattle.world_audit.specs.Comparisons.{seen_by}
use Rattle.audit_run.specs.Answer.{has_story}
use Rattle.audit_run.proofs.Ordering.{chosen, found-within, none-seen}
use Rattle.audit_run.proofs.order.seen_place.Goals as goal

pub returns-in_default : goal.returns-in_default
returns-in_default c =
    none-seen (map (λ r. r.now) c.args.index.now.records.items) (has_story c.args.index.now.world.now) c.seen_by.result
    (seen_by c.args.index.now.world.now c.args.wall c.args.leaf.now) c.in_default.is c.seen_by.ensures.is

pub has_place-requires : goal.has_place-requires
has_place-requires c =
    found-within c.args.index.now.world.now (map (λ r. r.now) c.args.index.now.records.items) c.requires.index c.requires.places.0
    c.args.places.now c.seen_by.result c.in-Some.i c.requires.places.1 c.in-Some.is c.seen_by.ensures.within

pub returns-then-not-has_place : goal.returns-then-not-has_place
returns-then-not-has_place c =
    (chosen c.args.index.now.world.now (map (λ r. r.now) c.args.index.now.records.items) c.requires.index c.requires.places.0
    c.args.places.now c.seen_by.result c.in-Some.i c.has_place.result (seen_by c.args.index.now.world.now c.args.wall c.args.leaf.now)
    c.requires.places.1 c.in-Some.is c.seen_by.ensures.within c.seen_by.ensures.is c.has_place.ensures).0 c.if-not-has_place.true

pub returns : goal.returns
returns c =
    (chosen c.args.index.now.world.now (map (λ r. r.now) c.args.index.now.records.items) c.requires.index c.requires.places.0
    c.args.places.now c.seen_by.result c.in-Some.i c.has_place.result (seen_by c.args.index.now.world.now c.args.wall c.args.leaf.now)
    c.requires.places.1 c.in-Some.is c.seen_by.ensures.within c.seen_by.ensures.is c.has_place.ensures).1 c.if-not-has_place.false

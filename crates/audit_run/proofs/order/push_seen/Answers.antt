use Rattle.std.proofs.Common.{◌++◌, map, sym, subst, List}
use Rattle.std.specs.Prelude.{filter}
use Rattle.std.specs.List.{flat_map}
use Rattle.std.proofs.lemmas.List.{append-nil, take_all}
use Rattle.op_types.specs.declared.op.Leaf.{Leaf}
use Rattle.world_audit.specs.Comparisons.{seen_by, some_in}
use Rattle.audit_run.specs.Answer.{has_story}
use Rattle.audit_run.specs.Table.{ArePicked}
use Rattle.audit_run.proofs.Ordering.{seen-more}
use Rattle.audit_run.proofs.order.push_seen.Goals as goal

pub loop-leaf-init : goal.loop-leaf-init
loop-leaf-init c rs picked =
    subst (ArePicked (map (λ r. r.now) c.args.index.now.records.items) c.args.out.now.items) (sym (append-nil rs)) picked

pub loop-leaf-preserved : goal.loop-leaf-preserved
loop-leaf-preserved c rs picked =
    seen-more c.args.index.now.world.now (map (λ r. r.now) c.args.index.now.records.items) c.args.wall c.args.leaves.now
    c.loop-leaf.leaf-index c.leaf-item.result c.args.out.now.items c.loop-leaf.out.items c.push_some.new.places.items rs c.seen_place.result
    c.loop-leaf-test.true c.leaf-item.is c.in_ok-push_some.ensures (c.loop-leaf.invariant rs picked) c.seen_place.ensures

pub returns : goal.returns
returns c rs picked =
    subst (λ (ls : List Leaf). ArePicked (map (λ r. r.now) c.args.index.now.records.items) c.loop-leaf.out.items (rs ++ filter (has_story c.args.index.now.world.now)
    (flat_map (λ (x : Leaf). some_in (seen_by c.args.index.now.world.now c.args.wall x)) ls)))
    (take_all c.loop-leaf.leaf-index c.args.leaves.now c.loop-leaf-test.false) (c.loop-leaf.invariant rs picked)

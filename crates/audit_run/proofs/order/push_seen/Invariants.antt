use Rattle.std.proofs.Common.{◌++◌, List, map, take}
use Rattle.std.specs.Prelude.{filter}
use Rattle.std.specs.List.{flat_map}
use Rattle.op_types.specs.declared.op.Leaf.{Leaf}
use Rattle.world_book.specs.declared.took.Took.{Took}
use Rattle.world_audit.specs.Comparisons.{seen_by, some_in}
use Rattle.audit_run.specs.Answer.{has_story}
use Rattle.audit_run.specs.Table.{ArePicked}
use Rattle.audit_run.proofs.order.push_seen.Given as goal

abbrev pub invariant-loop-leaf : goal.invariant-loop-leaf
invariant-loop-leaf l = (rs : List Took) → ArePicked (map (λ r. r.now) l.index.records.items) l.initial.out.items rs
    → ArePicked (map (λ r. r.now) l.index.records.items) l.out.items (rs ++ filter (has_story l.index.world.now)
    (flat_map (λ (x : Leaf). some_in (seen_by l.index.world.now l.wall x)) (take l.leaf-index l.leaves)))

use Rattle.std.proofs.Common.{[], ◌∷◌, None, Some, refl}
use Rattle.op_types.specs.declared.op.Leaf.{Leaf}
use Rattle.audit_run.specs.Unsigned.{IsSearched}
use Rattle.audit_run.proofs.Owned.{alone-searched, one-owned, one-unsigned, searched}
use Rattle.audit_run.proofs.Searching.{goes-on, is-over, stops}
use Rattle.audit_run.proofs.unsigned.unsigned_leaf.Goals as goal

pub returns-then-is_unsigned : goal.returns-then-is_unsigned
returns-then-is_unsigned c =
    let is = c.is_unsigned.ensures.unsigned c.if-is_unsigned.true in
    alone-searched c.args.world.now c.args.leaves.now (Some c.leaf-item.result)
    (stops (IsSearched c.args.world.now) (searched c.args.world.now) (λ (x : Leaf). x ∷ []) c.args.leaves.now c.loop-leaf.leaf-index c.leaf-item.result
    (Some c.leaf-item.result) c.loop-leaf-test.true c.leaf-item.is c.loop-leaf.invariant
    (one-unsigned c.args.world.now c.leaf-item.result is.0 is.1) refl)

pub loop-leaf-preserved : goal.loop-leaf-preserved
loop-leaf-preserved c =
    goes-on (IsSearched c.args.world.now) (searched c.args.world.now) (λ (x : Leaf). x ∷ []) c.args.leaves.now c.loop-leaf.leaf-index c.leaf-item.result
    None c.loop-leaf-test.true c.leaf-item.is c.loop-leaf.invariant
    (one-owned c.args.world.now c.leaf-item.result (c.is_unsigned.ensures.owned c.if-is_unsigned.false)) refl

pub returns : goal.returns
returns c =
    alone-searched c.args.world.now c.args.leaves.now None
    (is-over (IsSearched c.args.world.now) (searched c.args.world.now) (λ (x : Leaf). x ∷ []) c.args.leaves.now c.loop-leaf.leaf-index
    c.loop-leaf-test.false c.loop-leaf.invariant)

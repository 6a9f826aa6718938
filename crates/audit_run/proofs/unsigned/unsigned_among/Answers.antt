use Rattle.std.proofs.Common.{◌∙◌, List, sym, subst}
use Rattle.std.specs.Option.{option_map}
use Rattle.op_types.specs.declared.op.Leaf.{Leaf}
use Rattle.world_book.specs.declared.took.Took.{Took}
use Rattle.audit_run.specs.Unsigned.{IsSearched}
use Rattle.audit_run.proofs.Owned.{searched}
use Rattle.audit_run.proofs.Searching.{goes-on, is-over, some-map, stops}
use Rattle.audit_run.proofs.unsigned.unsigned_among.Goals as goal

pub returns-then-is_some : goal.returns-then-is_some
returns-then-is_some c =
    stops (IsSearched c.args.world.now) (searched c.args.world.now) (λ (r : Took). r.leaves) c.args.records.now c.loop-took.took-index c.took-item.result
    (option_map (λ l. l.now) c.unsigned_leaf-leaf.result) c.loop-took-test.true c.took-item.is c.loop-took.invariant
    (subst (λ (xs : List Leaf). IsSearched c.args.world.now xs (option_map (λ l. l.now) c.unsigned_leaf-leaf.result)) c.as_slice.ensures c.unsigned_leaf-leaf.ensures)
    (some-map (λ l. l.now) c.unsigned_leaf-leaf.result ∙ sym c.is_some.ensures ∙ c.if-is_some.true)

pub loop-took-preserved : goal.loop-took-preserved
loop-took-preserved c =
    goes-on (IsSearched c.args.world.now) (searched c.args.world.now) (λ (r : Took). r.leaves) c.args.records.now c.loop-took.took-index c.took-item.result
    (option_map (λ l. l.now) c.unsigned_leaf-leaf.result) c.loop-took-test.true c.took-item.is c.loop-took.invariant
    (subst (λ (xs : List Leaf). IsSearched c.args.world.now xs (option_map (λ l. l.now) c.unsigned_leaf-leaf.result)) c.as_slice.ensures c.unsigned_leaf-leaf.ensures)
    (some-map (λ l. l.now) c.unsigned_leaf-leaf.result ∙ sym c.is_some.ensures ∙ c.if-is_some.false)

pub returns : goal.returns
returns c =
    is-over (IsSearched c.args.world.now) (searched c.args.world.now) (λ (r : Took). r.leaves) c.args.records.now c.loop-took.took-index
    c.loop-took-test.false c.loop-took.invariant

use Rattle.std.proofs.Common.{arith}
use Rattle.std.proofs.lemmas.List.{take_all}
use Rattle.std.proofs.lemmas.List.Elements.{All-more}
use Rattle.tree_model.specs.AccessList.{IsInRange}
use Rattle.tree_model.proofs.laws.access_list.ranges.Goals as goal

pub loop-entry-preserved : goal.loop-entry-preserved
loop-entry-preserved c = All-more IsInRange c.args.entries.now c.loop-entry.entry-index _ c.loop-entry-test.true c.loop-entry.invariant c.range.ensures

pub returns : goal.returns
returns c =
    let es = c.args.entries.now in
    let whole = take_all c.loop-entry.entry-index es (omega arith) in
    rw whole at c.loop-entry.invariant

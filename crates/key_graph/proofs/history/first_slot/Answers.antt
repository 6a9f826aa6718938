use Rattle.std.proofs.Common.{◌≡◌, ◌^◌, ◌∙◌, true, reverse, sym, arith}
use Rattle.key_graph.specs.KeyTree.{holder, is_held}
use Rattle.key_graph.proofs.Histories.{least_found}
use Rattle.key_graph.proofs.history.first_slot.Goals as goal

pub returns-then-is_held-clause-value : goal.returns-then-is_held-clause-value
returns-then-is_held-clause-value c =
    let passes : is_held c.args.user (holder (reverse c.args.changes.now) c.loop-slot.slot) ≡ true =
    rw (← c.holder.ensures) (sym c.is_held.ensures ∙ c.if-is_held.true) in
    sym (least_found (λ s. is_held c.args.user (holder (reverse c.args.changes.now) s)) c.loop-slot.slot (2 ^ c.args.depth) (omega arith) c.loop-slot.invariant passes)

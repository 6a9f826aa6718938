use Rattle.std.proofs.Common.{◌≡◌, ◌^◌, ◌∙◌, ◌&&◌, true, is_some, reverse, sym, arith}
use Rattle.key_graph.specs.KeyTree.{holder, is_below}
use Rattle.key_graph.proofs.Histories.{any_found, both_true}
use Rattle.key_graph.proofs.history.has_member.Goals as goal

pub returns-then-is_some : goal.returns-then-is_some
returns-then-is_some c =
    let below : is_below c.args.depth c.args.x c.loop-slot.slot ≡ true = sym c.is_above_slot.ensures ∙ c.if-is_above_slot.true in
    let taken : is_some (holder (reverse c.args.changes.now) c.loop-slot.slot) ≡ true =
    rw (← c.holder.ensures) (sym c.is_some.ensures ∙ c.if-is_some.true) in
    sym (any_found (λ s. is_below c.args.depth c.args.x s && is_some (holder (reverse c.args.changes.now) s)) c.loop-slot.slot (2 ^ c.args.depth) (omega arith) (both_true below taken))

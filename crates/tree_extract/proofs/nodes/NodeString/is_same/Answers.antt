use Rattle.std.proofs.Common.{◌∙◌, sym}
use Rattle.tree_extract.proofs.NodeStrings.{bytes_eq-pair, entry_nodes}
use Rattle.tree_extract.proofs.nodes.NodeString.is_same.Goals as goal

pub returns-then-eq : goal.returns-then-eq
returns-then-eq c =
    let shaped = (rw c.in-Pair-Pair.is-0 at c.requires.shaped) in
    let other_shaped = (rw c.in-Pair-Pair.is-1 at c.requires.other_shaped) in
    rw (c.in-Pair-Pair.is-0, c.in-Pair-Pair.is-1, bytes_eq-pair _ _ _ _ shaped.0 other_shaped.0, sym c.eq-in-Pair-Pair.ensures ∙ c.if-eq.true) c.eq-then-eq.ensures

pub returns-else-eq : goal.returns-else-eq
returns-else-eq c =
    let shaped = (rw c.in-Pair-Pair.is-0 at c.requires.shaped) in
    let other_shaped = (rw c.in-Pair-Pair.is-1 at c.requires.other_shaped) in
    rw (c.in-Pair-Pair.is-0, c.in-Pair-Pair.is-1, bytes_eq-pair _ _ _ _ shaped.0 other_shaped.0, sym c.eq-in-Pair-Pair.ensures ∙ c.if-eq.false) c.if-eq.false

pub returns-in-Entry-Entry : goal.returns-in-Entry-Entry
returns-in-Entry-Entry c =
    let shaped = (rw c.in-Entry-Entry.is-0 at c.requires.shaped) in
    let other_shaped = (rw c.in-Entry-Entry.is-1 at c.requires.other_shaped) in
    rw (c.in-Entry-Entry.is-0, c.in-Entry-Entry.is-1)
    (entry_nodes c.in-Entry-Entry.node c.in-Entry-Entry.other_node c.is_same.result shaped other_shaped c.is_same.ensures)

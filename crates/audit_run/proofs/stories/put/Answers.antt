use Rattle.std.proofs.Common.{◌∙◌, ap, length, sym}
use Rattle.audit_run.specs.Line.{History}
use Rattle.audit_run.proofs.Tables.{grows-same, leaf-within, next-begins, push-begins, push-grows, push-owners, same-at}
use Rattle.audit_run.proofs.stories.put.Goals as goal

pub returns-then-len-k-clause-begins : goal.returns-then-len-k-clause-begins
returns-then-len-k-clause-begins g c =
    push-begins c.args.lines.now.items c.args.i c.args.k c.index_mut.result.now c.push.new.self c.args.leaf.now
    c.requires.within c.index_mut.ensures.value c.in_ok-push.ensures.added
    (ap (λ (h : History). length h.leaves) (same-at c.args.lines.now.items c.args.i c.index_mut.result.now c.index.result.now c.requires.within
    c.index_mut.ensures.value c.index.ensures) ∙ sym c.len.ensures ∙ c.if-len-k.true)

pub returns-then-len-k-clause-grows : goal.returns-then-len-k-clause-grows
returns-then-len-k-clause-grows g c =
    push-grows c.args.lines.now.items c.args.i c.index_mut.result.now c.push.new.self c.args.leaf.now
    c.requires.within c.index_mut.ensures.value c.in_ok-push.ensures.added

pub returns-then-len-k-clause-owners : goal.returns-then-len-k-clause-owners
returns-then-len-k-clause-owners g c w before =
    push-owners w c.args.lines.now.items c.args.i c.index_mut.result.now c.push.new.self c.args.leaf.now
    c.requires.within c.index_mut.ensures.value c.in_ok-push.ensures.added before

pub leaf-requires : goal.leaf-requires
leaf-requires g c =
    leaf-within c.args.lines.now.items c.args.i c.args.k c.index-2.result.now c.requires.within c.index-2.ensures
    c.requires.front
    (λ e. c.if-len-k.false (c.len.ensures
    ∙ ap (λ (h : History). length h.leaves) (same-at c.args.lines.now.items c.args.i c.index.result.now c.index-2.result.now c.requires.within
    c.index.ensures c.index-2.ensures) ∙ e))

pub returns-then-is_same_leaf-clause-begins : goal.returns-then-is_same_leaf-clause-begins
returns-then-is_same_leaf-clause-begins g c =
    next-begins c.args.lines.now.items c.args.i c.args.k c.index-2.result.now c.leaf.result.now c.args.leaf.now
    c.requires.within c.index-2.ensures c.leaf.ensures (c.is_same_leaf.ensures.0 c.if-is_same_leaf.true)

pub returns-then-is_same_leaf-clause-grows : goal.returns-then-is_same_leaf-clause-grows
returns-then-is_same_leaf-clause-grows g c = grows-same c.args.lines.now.items

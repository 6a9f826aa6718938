use Rattle.std.proofs.Common.{◌≡◌, ℕ, ◌+◌, ◌<◌, ◌≤◌, Bool, true, false, ◌||◌, List, length, get_or, drop, refl, sym, ap, ◌∙◌, arith}
use Rattle.std.specs.Str.{bytes_eq}
use Rattle.std.proofs.lemmas.List.{drop_all}
use Rattle.fr_bytes.specs.Bytes.{Text}
use Rattle.op_types.specs.declared.op.Leaf.{Leaf}
use Rattle.op_types.specs.Spelling.{op_text}
use Rattle.check_rules.specs.Verdict.{holds}
use Rattle.check_core.proofs.PositionRows.{next-leaf}
use Rattle.check_core.proofs.judging.holds.Goals as goal

next : (leaves : List Leaf) (i : ℕ) (leaf : Leaf) (op : Text) (b : Bool) → i < length leaves
    → leaf ≡ get_or leaves i leaf
    → b ≡ bytes_eq (op_text leaf.op) op → holds (drop i leaves) op ≡ b || holds (drop (i + 1) leaves) op
next leaves i leaf op b lt e is =
    ap (λ (xs : List Leaf). holds xs op) (next-leaf leaves i leaf lt e)
    ∙ ap (λ (c : Bool). c || holds (drop (i + 1) leaves) op) (sym is)

pub returns-then-branch : goal.returns-then-branch
returns-then-branch c =
    sym (c.loop-leaf.invariant
    ∙ next c.args.leaves.now c.loop-leaf.leaf-index c.leaf-item.result c.args.op.now true c.loop-leaf-test.true
    c.leaf-item.is
    (sym c.if-branch.true ∙ c.in_ok-is_spelled.ensures))

pub loop-leaf-preserved : goal.loop-leaf-preserved
loop-leaf-preserved c =
    c.loop-leaf.invariant
    ∙ next c.args.leaves.now c.loop-leaf.leaf-index c.leaf-item.result c.args.op.now false c.loop-leaf-test.true
    c.leaf-item.is
    (sym c.if-branch.false ∙ c.in_ok-is_spelled.ensures)

pub returns : goal.returns
returns c = sym (c.loop-leaf.invariant
    ∙ ap (λ (xs : List Leaf). holds xs c.args.op.now)
    (drop_all c.loop-leaf.leaf-index c.args.leaves.now c.loop-leaf-test.false))

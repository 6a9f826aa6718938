-- A tree that has a spelling, and whose texts can be read as leaves, holds leaves.
use Rattle.std.proofs.Common.{◌≡◌, ℕ, zero, suc, true, List}
use Rattle.std.specs.Prelude.{is_some}
use Rattle.std.proofs.lemmas.Bool.{and_parts}
use Rattle.op_types.specs.declared.op.Leaf.{Leaf}
use Rattle.op_types.specs.Spelling.{SpellsLeaf}
use Rattle.op_types.proofs.Ops.{leaf_found}
use Rattle.fr_bytes.specs.Bytes.{IsBytes}
use Rattle.hist_proof.specs.declared.limits.TheConstants.{LEVELS_MAX}
use Rattle.hist_proof.specs.Pruned.{Tree, hidden, leaf, node, single}
use Rattle.hist_proof.specs.Spelling.{IsLeveled, IsSpelled}
use Rattle.check_rules.specs.Heard.{holds_leaves, leaf_of}
use Rattle.world_book.specs.Kept.{HoldsLeaves}
use Rattle.world_book.proofs.Shown.{is-there}

read-leaf : (t : List ℕ) → IsBytes t → is_some (leaf_of t) ≡ true → (l : Leaf) × SpellsLeaf l t
read-leaf t bytes e = let it = is-there (leaf_of t) e in (it.0, leaf_found t it.0 bytes it.1)

leveled-leaves : (n : ℕ) (p : Tree) → IsLeveled n p → holds_leaves p ≡ true → HoldsLeaves p
unfolding IsLeveled HoldsLeaves holds_leaves
leveled-leaves zero (hidden x) h e = tt
leveled-leaves zero (leaf t) h e = read-leaf t h.1 e
leveled-leaves zero (node l r) h e = absurd h.0
leveled-leaves zero (single l) h e = absurd h
leveled-leaves (suc n) (hidden x) h e = tt
leveled-leaves (suc n) (leaf t) h e = read-leaf t h.1 e
leveled-leaves (suc n) (node l r) h e =
    let both = and_parts (holds_leaves l) (holds_leaves r) e in
    (leveled-leaves n l h.0 both.0, leveled-leaves n r h.1 both.1)
leveled-leaves (suc n) (single l) h e = leveled-leaves n l h e

pub spelled-leaves : (p : Tree) → IsSpelled p → holds_leaves p ≡ true → HoldsLeaves p
unfolding IsSpelled
spelled-leaves p h e = leveled-leaves LEVELS_MAX p h e

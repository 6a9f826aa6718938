-- Leaves that are kept with their texts.
use Rattle.std.specs.Prelude.{◌≡◌, ℕ, List, map}
use Rattle.std.specs.List.{AllByRecursion}
use Rattle.op_types.specs.declared.op.Leaf.{Leaf}
use Rattle.op_types.specs.Spelling.{IsLeaf, leaf_text}

-- each of the leaves has its ranges, and the texts are theirs
pub record KeepsTexts (texts : List (List ℕ)) (leaves : List Leaf) : Type 0 where
  pub written : texts ≡ map leaf_text leaves
  pub spelled : AllByRecursion IsLeaf leaves

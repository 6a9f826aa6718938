-- Records of a wall that show one history.
use Rattle.std.specs.Prelude.{◌≡◌, ℕ, ◌+◌, ◌≤◌, List, length, take, drop, Some}
use Rattle.std.specs.List.{slice_get}
use Rattle.fr_digest.specs.Digest.{Digest}
use Rattle.op_types.specs.declared.op.Leaf.{Leaf}
use Rattle.hist_proof.specs.Pruned.{Prunes}
use Rattle.hist_proof.specs.View.{tree_view}
use Rattle.pruned_list.specs.PrunedList.{PrunedList, PrunesDict}
use Rattle.wall_law.specs.State.{state_of}
use Rattle.world_book.specs.declared.took.Took.{Took}
use Rattle.world_book.specs.declared.world.World.{World}
use Rattle.world_book.specs.Kept.{lists_of}
use Rattle.world_book.specs.Records.{IsIn, records_of}
use Rattle.world_audit.specs.Comparisons.{owner_of, texts_of}

-- Its tree prunes the front of the history that its view covers, its leaves are those of that front from `from` on,
-- and each pruned list prunes the state before its position.
pub record TellsTruth (d : Digest) (owner : ℕ) (H : List Leaf) (r : Took) : Type 0 where
  pub covered : r.size ≤ length H
  pub proof : Prunes d (tree_view r.proof) (texts_of (take r.size H))
  pub leaves : r.leaves ≡ drop r.from (take r.size H)
  pub lists : (i : ℕ) (p : PrunedList) → slice_get (lists_of r) i ≡ Some p
      → PrunesDict d p (state_of owner (take (r.from + i) H)).entries

-- So is each record of the wall.
abbrev pub ShowsTruth : Digest → World → ℕ → List Leaf → Type 0
ShowsTruth d w wall H = (r : Took) → IsIn (records_of w) r → r.wall ≡ wall → TellsTruth d (owner_of w wall) H r

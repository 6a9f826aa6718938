-- Honest walls.
use Rattle.std.specs.Prelude.{◌≡◌, ℕ, ◌<◌, ◌≤◌, List, length, take, true, Some, slice_get}
use Rattle.std.specs.List.{AllByRecursion}
use Rattle.fr_digest.specs.Digest.{Digest}
use Rattle.lms_tree.specs.Valid.{Valid}
use Rattle.op_types.specs.declared.op.Leaf.{Leaf}
use Rattle.op_types.specs.declared.view.View.{View}
use Rattle.op_types.specs.declared.limits.TheConstants.{VIEW_SIZE_MAX}
use Rattle.op_types.specs.Spelling.{IsLeaf, view_signed}
use Rattle.tree_model.specs.History.{root}
use Rattle.wall_law.specs.Lawful.{Lawful}
use Rattle.signed_ops.specs.Signed.{is_author_signed}
use Rattle.hall_core.specs.declared.facts.WallFacts.{WallFacts}
use Rattle.hall_core.specs.PlainWall.{texts_of}

-- A view of a list: where it covers leaves, the list has them, its root is that of their version, and the server
-- signed it.
pub record IsSeenIn (d : Digest) (facts : WallFacts) (leaves : List Leaf) (view : View) : Type 0 where
  pub within : view.size ≤ length leaves
  pub same : view.root ≡ root d (texts_of leaves) view.size
  pub signed : Valid facts.server (view_signed view.wall view.size view.root) view.sig

abbrev pub SeenIn : Digest → WallFacts → List Leaf → View → Type 0
SeenIn d facts leaves view = 0 < view.size → IsSeenIn d facts leaves view

-- An honest wall: its history is lawful, each operation is signed by its author and embeds a view of the list before
-- it, each leaf has a spelling, and there are no more leaves than a wall can have.
pub record IsHonest (d : Digest) (facts : WallFacts) (leaves : List Leaf) : Type 0 where
  pub lawful : Lawful d facts.owner facts.wall leaves
  pub signed : AllByRecursion (λ (leaf : Leaf). is_author_signed facts.users leaf.op ≡ true) leaves
  pub seen : (k : ℕ) (leaf : Leaf) → slice_get leaves k ≡ Some leaf → SeenIn d facts (take k leaves) leaf.op.view
  pub spelled : AllByRecursion IsLeaf leaves
  pub few : length leaves ≤ VIEW_SIZE_MAX

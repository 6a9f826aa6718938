-- Snapshots of honest walls, and what one keeps of its leaves. d is the digest of strings.
use Rattle.std.specs.Prelude.{◌≡◌, ℕ, ◌≤◌, List, [], ◌∷◌, length, map}
use Rattle.std.specs.List.{AllByRecursion}
use Rattle.fr_digest.specs.Digest.{Digest}
use Rattle.op_types.specs.declared.op.Leaf.{Leaf}
use Rattle.op_types.specs.declared.limits.TheConstants.{VIEW_SIZE_MAX}
use Rattle.op_types.specs.Spelling.{IsLeaf, IsView}
use Rattle.tree_model.specs.declared.entry.Entry.{Entry}
use Rattle.wall_law.specs.Lawful.{Lawful}
use Rattle.wall_law.specs.State.{opening}
use Rattle.hall_core.specs.declared.facts.WallFacts.{WallFacts}
use Rattle.hall_core.specs.declared.item.Item.{Item}
use Rattle.hall_core.specs.declared.snapshot.Snapshot.{Snapshot}
use Rattle.hall_core.specs.Honest.{IsHonest}
use Rattle.hall_core.specs.Snapshots.{Stands}
use Rattle.hall_core.specs.Standing.{items_of}

-- The snapshot stands for the leaves of an honest wall.
pub record IsOfHonest {D : Type 0} (d : Digest) (snapshot : Snapshot D) : Type 0 where
  pub facts : WallFacts
  pub leaves : List Leaf
  pub stands : Stands d facts leaves snapshot
  pub honest : IsHonest d facts leaves

-- ---- what a snapshot tells by itself

abbrev pub first_user : List Entry → ℕ
first_user [] = 0
first_user (e ∷ entries) = e.user

-- the user with whom the wall began
unfoldable pub owner_of : {D : Type 0} → Snapshot D → ℕ
owner_of snapshot = first_user snapshot.opening

unfoldable pub leaves_of : {D : Type 0} → Snapshot D → List Leaf
leaves_of snapshot = map (λ (item : Item _). item.leaf) snapshot.history

-- The snapshot keeps these leaves, whoever signed them: they are lawful and have spellings, and its items and its view are
-- theirs.
pub record IsKept {D : Type 0} (d : Digest) (snapshot : Snapshot D) : Type 0 where
  pub items : snapshot.history ≡ items_of (owner_of snapshot) (leaves_of snapshot)
  pub opened : snapshot.opening ≡ (opening (owner_of snapshot)).entries
  pub size : snapshot.view.size ≡ length (leaves_of snapshot)
  pub view : IsView snapshot.view.wall snapshot.view
  pub lawful : Lawful d (owner_of snapshot) snapshot.view.wall (leaves_of snapshot)
  pub spelled : AllByRecursion IsLeaf (leaves_of snapshot)
  pub few : length (leaves_of snapshot) ≤ VIEW_SIZE_MAX

-- What stands for a list of leaves: the items of its history, views of it, snapshots and halls.
use Rattle.std.specs.Prelude.{◌≡◌, ◌≤◌, ℕ, List, [], length}
use Rattle.std.specs.List.{AllByRecursion, scan}
use Rattle.fr_digest.specs.Digest.{Digest}
use Rattle.lms_tree.specs.Signer.{Signing, public_of}
use Rattle.op_types.specs.declared.op.Leaf.{Leaf}
use Rattle.op_types.specs.declared.op.Op.{Op}
use Rattle.op_types.specs.declared.view.View.{View}
use Rattle.op_types.specs.declared.limits.TheConstants.{VIEW_SIZE_MAX}
use Rattle.op_types.specs.Spelling.{IsLeaf, IsView, leaf_text, no_root}
use Rattle.tree_model.specs.declared.entry.Entry.{Entry}
use Rattle.wall_law.specs.declared.state.State.{State}
use Rattle.wall_law.specs.State.{after, opening, state_of}
use Rattle.hall_core.specs.declared.ask.Called.{Called}
use Rattle.hall_core.specs.declared.facts.WallFacts.{WallFacts}
use Rattle.hall_core.specs.declared.item.Item.{Item}
use Rattle.hall_core.specs.Honest.{SeenIn}
use Rattle.hall_core.specs.Calls.{Legal, play}
use Rattle.hall_core.specs.PlainWall.{leaf_of, with_leaf}

-- ---- items

-- the item of a leaf with an access list
abbrev pub item_with : {D : Type 0} → Leaf → List Entry → Item D
item_with leaf list = record { leaf = leaf; text = leaf_text leaf; list = list }

-- the item of a leaf behind a state: it has the access list after the leaf's operation
abbrev pub item_of : {D : Type 0} → State → Leaf → Item D
item_of s leaf = item_with leaf (after s leaf.op).entries

-- the items of leaves behind a state: each has the list after its own leaf
abbrev pub items_from : {D : Type 0} → State → List Leaf → List (Item D)
items_from s leaves = scan (λ (t : State) (leaf : Leaf). after t leaf.op) item_of s leaves

abbrev pub items_of : {D : Type 0} → ℕ → List Leaf → List (Item D)
items_of owner leaves = items_from (opening owner) leaves

-- ---- views

-- the view of nothing
abbrev pub no_view : ℕ → View
no_view wall = record { wall = wall; size = 0; root = no_root; sig = [] }

-- A view of the whole list: it has a spelling, and where there are leaves the server signed it over their root.
pub record IsViewOf (d : Digest) (facts : WallFacts) (leaves : List Leaf) (view : View) : Type 0 where
  pub wall : view.wall ≡ facts.wall
  pub size : view.size ≡ length leaves
  pub seen : SeenIn d facts leaves view
  pub none : leaves ≡ [] → view ≡ no_view facts.wall
  pub spelled : IsView facts.wall view

-- ---- walls

-- a wall, what no call changes of it, and the signer of its views
pub record Wall : Type 0 where
  pub facts : WallFacts
  pub leaves : List Leaf
  pub signer : Signing

-- what a wall keeps of its leaves
pub record KeepsWall {D : Type 0} (d : Digest) (wall : Wall) (opened : List Entry) (now : State)
    (history : List (Item D)) (latest : View) : Type 0 where
  pub few : length wall.leaves ≤ VIEW_SIZE_MAX
  pub opened_is : opened ≡ (opening wall.facts.owner).entries
  pub now_is : now ≡ state_of wall.facts.owner wall.leaves
  pub items : history ≡ items_of wall.facts.owner wall.leaves
  pub viewed : IsViewOf d wall.facts wall.leaves latest
  pub key : wall.facts.server ≡ public_of wall.signer.private wall.signer.id wall.signer.pair
  pub tall : wall.signer.pair.lms.h ≡ 10
  pub used : wall.signer.used ≡ length wall.leaves
  pub spelled : AllByRecursion IsLeaf wall.leaves

-- What an operation makes of a wall's leaves: the state after it, and the items with its leaf's at the end.
pub record IsNext {D : Type 0} (d : Digest) (facts : WallFacts) (leaves : List Leaf) (op : Op) (list : List Entry)
    (epoch : ℕ) (history : List (Item D)) : Type 0 where
  pub list_is : list ≡ (after (state_of facts.owner leaves) op).entries
  pub epoch_is : epoch ≡ (after (state_of facts.owner leaves) op).epoch
  pub items : history ≡ items_of facts.owner (with_leaf d facts leaves op)
  pub spelled : IsLeaf (leaf_of d (state_of facts.owner leaves) op)

-- ---- halls

-- a wall with the entries of all calls, the oldest first
pub record Hall : Type 0 where
  pub facts : WallFacts
  pub leaves : List Leaf
  pub signer : Signing
  pub entries : List Called

-- The entries are legal, they leave these leaves, and each of the leaves has a spelling.
pub record IsKept (d : Digest) (facts : WallFacts) (leaves : List Leaf) (entries : List Called) : Type 0 where
  pub legal : Legal d facts entries
  pub played : leaves ≡ play d facts entries
  pub spelled : AllByRecursion IsLeaf leaves

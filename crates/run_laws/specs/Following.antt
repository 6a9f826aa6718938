-- A client that follows an honest wall. d is the digest of strings.
use Rattle.std.specs.Prelude.{◌≡◌, ℕ, ◌+◌, ◌<◌, ◌≤◌, List, length, take, drop, Some}
use Rattle.std.specs.List.{slice_get, AllByRecursion}
use Rattle.fr_digest.specs.Digest.{Digest}
use Rattle.tree_model.specs.History.{root}
use Rattle.op_types.specs.declared.op.Leaf.{Leaf}
use Rattle.wall_law.specs.State.{state_of}
use Rattle.hist_proof.specs.Pruned.{Prunes}
use Rattle.pruned_list.specs.PrunedList.{PrunedList, PrunesDict}
use Rattle.check_rules.specs.declared.known.Known.{Known}
use Rattle.check_rules.specs.Shown.{changes_of}
use Rattle.hall_core.specs.declared.facts.WallFacts.{WallFacts}
use Rattle.hall_core.specs.PlainWall.{texts_of}
use Rattle.hall_replies.specs.Knowing.{Knows}
use Rattle.client_core.specs.Keys.{KeysView, after_changes, fresh}
use Rattle.client_core.specs.Sides.{SideView, side_of}
use Rattle.session_laws.specs.Doing.{PlainClient, TookView}

-- the keys of who holds all changes among these leaves and no others
abbrev pub keys_of : KeysView → List Leaf → KeysView
keys_of keys leaves = after_changes (fresh keys) (changes_of leaves)

-- What is known of a wall as accepted is a front of these leaves.
pub record IsFront (d : Digest) (facts : WallFacts) (L : List Leaf) (known : Known) : Type 0 where
  pub knows : Knows facts known
  pub within : known.size ≤ length L
  pub root_is : 0 < known.size → known.root ≡ root d (texts_of L) known.size
  pub epoch_is : known.epoch ≡ length (changes_of (take known.size L))

-- What a client has accepted is a front of these leaves, and it holds all changes among it and no others.
pub record Follows (d : Digest) (facts : WallFacts) (L : List Leaf) (s : SideView) : Type 0 where
  pub accepted : IsFront d facts L s.known
  pub held : s.keys ≡ keys_of s.keys (take s.known.size L)

-- A record of the wall shows a front of these leaves: its tree prunes it, its leaves are those of it from `from` on, and
-- each pruned list prunes the state before its position.
pub record IsTrue (d : Digest) (owner : ℕ) (L : List Leaf) (r : TookView) : Type 0 where
  pub covered : r.size ≤ length L
  pub count : r.from + length r.lists ≤ r.size
  pub proof : Prunes d r.proof (texts_of (take r.size L))
  pub leaves : r.leaves ≡ drop r.from (take r.size L)
  pub lists : (i : ℕ) (p : PrunedList) → slice_get r.lists i ≡ Some p
      → PrunesDict d p (state_of owner (take (r.from + i) L)).entries

-- each record of the wall does
abbrev pub AreTrue : Digest → WallFacts → List Leaf → List TookView → Type 0
AreTrue d facts L took = AllByRecursion (λ (r : TookView). r.wall ≡ facts.wall → IsTrue d facts.owner L r) took

-- A client whose side of the wall follows these leaves, and whose records of it show them.
pub record KeepsUp (d : Digest) (facts : WallFacts) (L : List Leaf) (c : PlainClient) : Type 0 where
  pub side : SideView
  pub found : side_of facts.wall c.sides ≡ Some side
  pub follows : Follows d facts L side
  pub records : AreTrue d facts L c.took

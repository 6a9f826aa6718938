-- A history of a wall, as the audit holds it.
use Rattle.std.specs.Prelude.{◌≡◌, ℕ, ◌+◌, List, take, Some}
use Rattle.std.specs.List.{slice_get}
use Rattle.op_types.specs.declared.op.Leaf.{Leaf}
use Rattle.wall_law.specs.declared.state.State.{State}
use Rattle.wall_law.specs.State.{state_of}

-- The leaves of a history of the wall, and the wall's owner.
pub record History : Type 0 where
  pub wall : ℕ
  pub owner : ℕ
  pub leaves : List Leaf

-- The states behind each of the leaves.
abbrev pub HasStates : ℕ → List Leaf → List State → Type 0
HasStates owner leaves states = (k : ℕ) (s : State) → slice_get states k ≡ Some s → s ≡ state_of owner (take (k + 1) leaves)

-- Lawful histories.
use Rattle.std.specs.Prelude.{◌≡◌, ℕ, ◌+◌, List, take, Some, None, slice_get}
use Rattle.fr_bytes.specs.Bytes.{Text}
use Rattle.fr_digest.specs.Digest.{Digest}
use Rattle.op_types.specs.declared.op.Leaf.{Leaf}
use Rattle.tree_model.specs.AccessList.{dict}
use Rattle.wall_law.specs.declared.state.State.{State}
use Rattle.wall_law.specs.State.{after, state_of}
use Rattle.wall_law.specs.Law.{law}

-- what a leaf tells of the state after it: the digest of the access list and the epoch
pub record Told : Type 0 where
  pub list : Text
  pub epoch : ℕ

abbrev pub told : Leaf → Told
told leaf = record { list = leaf.after; epoch = leaf.epoch }

abbrev pub told_of : Digest → State → Told
told_of d s = record { list = dict d s.entries; epoch = s.epoch }

-- A position of a history is lawful: the law has no refusal in the state of the operations before it,
-- and its leaf tells the state after it.
pub record IsLawfulAt (d : Digest) (owner wall : ℕ) (leaves : List Leaf) (k : ℕ) (leaf : Leaf) : Type 0 where
  pub lawful : law (state_of owner (take k leaves)) wall k leaf.op ≡ None
  pub tells : told leaf ≡ told_of d (state_of owner (take (k + 1) leaves))

abbrev pub Lawful : Digest → ℕ → ℕ → List Leaf → Type 0
Lawful d owner wall leaves = (k : ℕ) (leaf : Leaf) → slice_get leaves k ≡ Some leaf
    → IsLawfulAt d owner wall leaves k leaf

-- A leaf comes next in a state, at position k: the law has no refusal there, and the leaf tells the state
-- after it.
abbrev pub ComesNext : Digest → State → ℕ → ℕ → Leaf → Type 0
ComesNext d s wall k leaf = (law s wall k leaf.op ≡ None) × (told leaf ≡ told_of d (after s leaf.op))

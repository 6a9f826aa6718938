-- The state of a wall before a position: its access list and how many changes of it there were.
use Rattle.std.specs.Prelude.{◌≡◌, ℕ, ◌+◌, List, [], ◌∷◌, fold, cond, Some}
use Rattle.op_types.specs.declared.kind.Kind.{Kind}
use Rattle.op_types.specs.declared.kind.Kind.TheVariants.{Post, Admit, Remove}
use Rattle.op_types.specs.declared.op.Op.{Op}
use Rattle.op_types.specs.declared.op.Leaf.{Leaf}
use Rattle.op_types.specs.declared.roles.TheConstants.{OWNER}
use Rattle.op_types.specs.Kinds.{is_change}
use Rattle.tree_model.specs.declared.entry.Entry.{Entry}
use Rattle.tree_model.specs.AccessList.{ListChange, stays, adds, drops, changed_set, entry_of}
use Rattle.wall_law.specs.declared.state.State.{State}

-- A wall begins with its owner alone.
abbrev pub opening : ℕ → State
opening owner = record { entries = (record { user = owner; role = OWNER; next = 0 }) ∷ []; epoch = 0 }

-- what a kind does to the access list
abbrev pub change_of : Kind → ListChange
change_of (Post body) = stays
change_of (Admit user role slot wraps) = adds (record { user = user; role = role; next = 0 })
change_of (Remove user slot wraps) = drops user

-- A change begins the next epoch.
abbrev pub epoch_after : ℕ → Op → ℕ
epoch_after epoch op = cond (is_change op.kind) (epoch + 1) epoch

-- The state after an operation: its author's next number is one more than the operation's, and its
-- change is made.
abbrev pub after : State → Op → State
after s op = record { entries = changed_set s.entries op.author (op.seq + 1) (change_of op.kind); epoch = epoch_after s.epoch op }

-- The state after a list of leaves.
abbrev pub state_of : ℕ → List Leaf → State
state_of owner leaves = fold (λ (s : State) (leaf : Leaf). after s leaf.op) (opening owner) leaves

-- The owner is in the list, in the owner's role.
abbrev pub HasOwner : ℕ → List Entry → Type 0
HasOwner owner es = (next : ℕ) × (entry_of es owner ≡ Some (record { user = owner; role = OWNER; next = next }))

-- Nobody else has the owner's role.
abbrev pub IsOnlyOwner : ℕ → List Entry → Type 0
IsOnlyOwner owner es = (user : ℕ) (e : Entry) → entry_of es user ≡ Some e → e.role ≡ OWNER → user ≡ owner

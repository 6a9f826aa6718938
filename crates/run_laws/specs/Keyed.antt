-- The changes of a wall's access list, as its owner's key tree makes them. secrets are those of the users.
use Rattle.std.specs.Prelude.{◌≡◌, ℕ, ◌+◌, List, [], ◌∷◌, fold, take, true, Some, Ok, slice_get}
use Rattle.fr_bytes.specs.Bytes.{Text}
use Rattle.op_types.specs.declared.kind.Kind.{Kind}
use Rattle.op_types.specs.declared.kind.Kind.TheVariants as kinds
use Rattle.op_types.specs.declared.op.Leaf.{Leaf}
use Rattle.op_types.specs.declared.op.Op.{Op}
use Rattle.op_types.specs.Kinds.{is_change}
use Rattle.key_graph.specs.declared.change.Change.{Change}
use Rattle.key_graph.specs.declared.change.KeyChange.{KeyChange}
use Rattle.key_graph.specs.declared.change.KeyChange.TheVariants as changes
use Rattle.key_graph.specs.declared.change.Setting.{Setting}
use Rattle.key_graph.specs.KeyBook.{wraps_in}
use Rattle.key_graph.specs.KeyTree.{planned}
use Rattle.key_graph.specs.Reach.{Event, follow, generations, plan}
use Rattle.check_rules.specs.Shown.{changes_of}
use Rattle.client_core.specs.Keys.{leaf_of}

-- the slot that an operation names
abbrev pub slot_in : Kind → ℕ
slot_in (kinds.Post body) = 0
slot_in (kinds.Admit user role slot wraps) = slot
slot_in (kinds.Remove user slot wraps) = slot

-- what it does to the key tree; a post isn't asked
abbrev pub key_change_of : Setting → List (ℕ × Text) → Kind → KeyChange
key_change_of setting secrets (kinds.Post body) = changes.Remove 0
key_change_of setting secrets (kinds.Admit user role slot wraps) = changes.Admit user (leaf_of setting.wall secrets user)
key_change_of setting secrets (kinds.Remove user slot wraps) = changes.Remove user

-- its change of the key tree, whose generation is the number behind its own
abbrev pub change_by : Setting → List (ℕ × Text) → Op → Change
change_by setting secrets op = record {
  generation = op.seq + 1;
  slot = slot_in op.kind;
  what = key_change_of setting secrets op.kind;
}

-- the changes of these operations, newest first
abbrev pub changes_by : Setting → List (ℕ × Text) → List Op → List Change
changes_by setting secrets ops = fold (λ (cs : List Change) (op : Op). change_by setting secrets op ∷ cs) [] ops

-- each planned, and followed at once
abbrev pub events_by : Setting → List (ℕ × Text) → List Op → List Event
events_by setting secrets ops =
    fold (λ (es : List Event) (op : Op). follow (change_by setting secrets op) ∷ plan (change_by setting secrets op) ∷ es)
    [] ops

-- The operation's slot and wraps are those that the tree plans after these changes.
abbrev pub IsPlannedBy : Setting → List (ℕ × Text) → List Change → Op → Type 0
IsPlannedBy setting secrets before op =
    planned (record { setting = setting; followed = before; epochs = generations before }) (op.seq + 1)
    (key_change_of setting secrets op.kind) ≡ Ok (slot_in op.kind, wraps_in op.kind)

-- Each change among these leaves is planned after those before it.
pub record AreKeyed (setting : Setting) (secrets : List (ℕ × Text)) (L : List Leaf) : Type 0 where
  pub each : (k : ℕ) (leaf : Leaf) → slice_get L k ≡ Some leaf → is_change leaf.op.kind ≡ true
      → IsPlannedBy setting secrets (changes_by setting secrets (changes_of (take k L))) leaf.op

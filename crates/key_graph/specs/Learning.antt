-- A book that learns the changes of a key run.
use Rattle.std.specs.Prelude.{◌≡◌, ℕ, List, [], ◌∷◌}
use Rattle.fr_bytes.specs.Bytes.{Text}
use Rattle.op_types.specs.declared.kind.Wrap.{Wrap}
use Rattle.op_types.specs.declared.kind.Kind.{Kind}
use Rattle.op_types.specs.declared.kind.Kind.TheVariants as kinds
use Rattle.key_graph.specs.declared.change.Setting.{Setting}
use Rattle.key_graph.specs.declared.change.Change.{Change}
use Rattle.key_graph.specs.declared.change.KeyChange.{KeyChange}
use Rattle.key_graph.specs.declared.change.KeyChange.TheVariants.{Admit, Remove}
use Rattle.key_graph.specs.KeyTree.{wraps_of}
use Rattle.key_graph.specs.KeyBook.{Book, learnt, new_book}

-- what the operation of a change does, in which an admission gives some role
abbrev pub kind_of : KeyChange → ℕ → ℕ → List Wrap → Kind
kind_of (Admit user key) role slot wraps = kinds.Admit user role slot wraps
kind_of (Remove user) role slot wraps = kinds.Remove user slot wraps

-- the book after it learnt these changes, newest first, each with its planned wraps
abbrev pub learnt_all : Setting → (Change → ℕ) → Book → List Change → Book
learnt_all setting role book [] = book
learnt_all setting role book (c ∷ cs) =
    learnt (learnt_all setting role book cs) c.generation
    (kind_of c.what (role c) c.slot (wraps_of setting (record { change = c; before = cs })))

-- the book of a user with this leaf key, after these changes
abbrev pub book_after : Setting → (Change → ℕ) → ℕ → Text → List Change → Book
book_after setting role user leaf cs = learnt_all setting role (new_book setting.wall setting.depth user leaf) cs

-- each admission of the user had this leaf key
abbrev pub IsAdmittedWith : ℕ → Text → KeyChange → Type 0
IsAdmittedWith user leaf (Admit v key) = v ≡ user → key ≡ leaf
IsAdmittedWith user leaf (Remove v) = Unit {0}

abbrev pub HasLeaf : ℕ → Text → List Change → Type 0
HasLeaf user leaf [] = Unit {0}
HasLeaf user leaf (c ∷ cs) = IsAdmittedWith user leaf c.what × HasLeaf user leaf cs

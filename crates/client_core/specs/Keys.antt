-- The keys that a client holds of a wall: the owner's key tree, or a member's book of keys.
use Rattle.std.specs.Prelude.{◌≡◌, ℕ, ◌+◌, ◌≤◌, true, List, [], ◌∷◌, fold, length, replicate, Option, Some, None, nat_eq, if◌then◌else◌}
use Rattle.fr_bytes.specs.Bytes.{Text}
use Rattle.op_types.specs.declared.kind.Kind.{Kind}
use Rattle.op_types.specs.declared.kind.Kind.TheVariants.{Post, Admit, Remove}
use Rattle.op_types.specs.declared.op.Op.{Op}
use Rattle.op_types.specs.declared.limits.TheConstants.{SEQ_MAX}
use Rattle.op_types.specs.Kinds.{is_change}
use Rattle.key_graph.specs.declared.change.KeyChange.TheVariants as changes
use Rattle.key_graph.specs.KeyTree.{Tree, followed_by, leaf_text, tree_root}
use Rattle.key_graph.specs.KeyBook.{Book, book_root, learnt, new_book}
use Rattle.key_graph.specs.Held.{book_of}
use Rattle.client_core.specs.declared.keys.Keys.{Keys}
use Rattle.client_core.specs.declared.keys.Keys.TheVariants as the_keys

-- The owner has the users' secrets, of which their leaf keys are made.
pub data KeysView : Type 0 where
  owner : Tree → List (ℕ × Text) → KeysView
  member : Book → KeysView

abbrev pub keys_view : Keys → KeysView
keys_view (the_keys.Owner tree secrets) = owner tree secrets
keys_view (the_keys.Member book) = member (book_of book)

-- these keys, where there are some, in the place of others
abbrev pub keys_or : KeysView → Option Keys → KeysView
keys_or others None = others
keys_or others (Some keys) = keys_view keys

-- the generations of the root keys of the epochs that the held changes began
abbrev pub epochs_of : KeysView → List ℕ
epochs_of (owner tree secrets) = tree.epochs
epochs_of (member book) = book.epochs

-- how many changes are held
abbrev pub held : KeysView → ℕ
held keys = length (epochs_of keys)

-- the root key of an epoch, where it is held
abbrev pub root_key : KeysView → ℕ → Option Text
root_key (owner tree secrets) epoch = tree_root tree epoch
root_key (member book) epoch = book_root book epoch

-- ---- leaf keys

-- the secret of a user; one who isn't listed counts with 32 zero bytes
abbrev pub secret_of : List (ℕ × Text) → ℕ → Text
secret_of [] user = replicate 32 0
secret_of (listed ∷ secrets) user = if nat_eq listed.0 user then listed.1 else secret_of secrets user

-- a user's leaf key on a wall
abbrev pub leaf_of : ℕ → List (ℕ × Text) → ℕ → Text
leaf_of wall secrets user = leaf_text (secret_of secrets user) wall

-- ---- changes

-- The owner's tree after a change, which it follows whether it fits or not.
abbrev pub followed : Tree → List (ℕ × Text) → ℕ → Kind → Tree
followed tree secrets g (Post body) = tree
followed tree secrets g (Admit user role slot wraps) =
    (followed_by tree (record {
      generation = g;
      slot = slot;
      what = changes.Admit user
          (leaf_of tree.setting.wall secrets user);
    })).1
followed tree secrets g (Remove user slot wraps) =
    (followed_by tree (record { generation = g; slot = slot; what = changes.Remove user })).1

-- the keys after the next change, whose generation is the number behind its own
unfoldable pub after_change : KeysView → Op → KeysView
after_change (owner tree secrets) op = owner (followed tree secrets (op.seq + 1) op.kind) secrets
after_change (member book) op = member (learnt book (op.seq + 1) op.kind)

-- a change whose generation fits 32 bits
pub record IsNumbered (op : Op) : Type 0 where
  pub change : is_change op.kind ≡ true
  pub number : op.seq ≤ SEQ_MAX

-- the keys after these changes, in order
abbrev pub after_changes : KeysView → List Op → KeysView
after_changes keys ops = fold after_change keys ops

-- the keys of no change
abbrev pub fresh : KeysView → KeysView
fresh (owner tree secrets) = owner (record { setting = tree.setting; followed = []; epochs = [] }) secrets
fresh (member book) = member (new_book book.wall book.depth book.user book.leaf)

-- A member's book of keys: what its user learns from the changes, by the name (node, generation) of each key.
use Rattle.std.specs.Prelude.{ℕ, zero, suc, ◌-◌, ◌/◌, ◌^◌, Bool, false, ◌&&◌, List, [], ◌∷◌, ◌++◌, Option, Some, None, nat_eq, nat_lt, if◌then◌else◌, option_and_then}
use Rattle.std.specs.List.{fold}
use Rattle.fr_bytes.specs.Bytes.{Text}
use Rattle.op_types.specs.declared.kind.Wrap.{Wrap}
use Rattle.op_types.specs.declared.kind.Kind.{Kind}
use Rattle.op_types.specs.declared.kind.Kind.TheVariants.{Post, Admit, Remove}
use Rattle.pad_wrap.specs.Pad.{padded}
use Rattle.key_graph.specs.KeyTree.{wrap_stream, root_generation}

-- the keys of inner nodes that are held, by node and generation
abbrev pub Keys : Type 0
Keys = ℕ → ℕ → Option Text

abbrev pub no_keys : Keys
no_keys x g = None

-- these keys, and this one in the place of one of its name
abbrev pub with_key : Keys → ℕ → ℕ → Text → Keys
with_key keys x g key y h = if nat_eq x y && nat_eq g h then Some key else keys y h

-- The user's number, the wall and the tree's depth, the user's leaf key and slot, the keys that were learnt, and the
-- generation of every change that was learnt, oldest first.
pub record Book : Type 0 where
  pub wall : ℕ
  pub depth : ℕ
  pub user : ℕ
  pub leaf : Text
  pub slot : Option ℕ
  pub keys : Keys
  pub epochs : List ℕ

abbrev pub new_book : ℕ → ℕ → ℕ → Text → Book
new_book wall depth user leaf =
    record { wall = wall; depth = depth; user = user; leaf = leaf; slot = None; keys = no_keys; epochs = [] }

abbrev pub is_slot : Option ℕ → ℕ → Bool
is_slot None s = false
is_slot (Some r) s = nat_eq r s

-- The user's slot after a change: the one of its own admission, none after its own removal, and none after a change
-- that names it for another user.
abbrev pub kept_slot : Option ℕ → ℕ → Option ℕ
kept_slot slot s = if is_slot slot s then None else slot

abbrev pub slot_after : ℕ → Option ℕ → Kind → Option ℕ
slot_after user slot (Post body) = slot
slot_after user slot (Admit v role s wraps) = if nat_eq v user then Some s else kept_slot slot s
slot_after user slot (Remove v s wraps) = if nat_eq v user then None else kept_slot slot s

abbrev pub wraps_in : Kind → List Wrap
wraps_in (Post body) = []
wraps_in (Admit user role slot wraps) = wraps
wraps_in (Remove user slot wraps) = wraps

-- the key that a wrap names: of a slot, the user's leaf key, where the slot is the user's and the generation 0
abbrev pub child_key : ℕ → Text → Option ℕ → Keys → ℕ → ℕ → Option Text
child_key t leaf slot keys y g =
    if nat_lt y (2 ^ t) then keys y g else (if is_slot slot (y - 2 ^ t) && nat_eq g 0 then Some leaf else None)

-- the keys after a wrap of a change of generation g: where its child's key is held, the parent's key is learnt
abbrev pub with_opened : Keys → ℕ → Wrap → Option Text → Keys
with_opened keys g w None = keys
with_opened keys g w (Some key) = with_key keys (w.child / 2) g (padded key (wrap_stream (w.child / 2) g) w.body)

abbrev pub opened : ℕ → Text → Option ℕ → ℕ → Keys → Wrap → Keys
opened t leaf slot g keys w = with_opened keys g w (child_key t leaf slot keys w.child w.child_gen)

-- the keys after these wraps, taken in order
abbrev pub opened_all : ℕ → Text → Option ℕ → ℕ → Keys → List Wrap → Keys
opened_all t leaf slot g keys wraps = fold (opened t leaf slot g) keys wraps

-- The book after the next change: the slot first, then the wraps in order, each of which gives its parent's key where
-- the book then holds its child's.
unfoldable pub learnt : Book → ℕ → Kind → Book
learnt book g kind =
    let slot = slot_after book.user book.slot kind in
    record book {
      slot = slot;
      keys = opened_all book.depth book.leaf slot g book.keys (wraps_in kind);
      epochs = book.epochs ++ g ∷ [];
    }

-- the root key of an epoch, where it was learnt: that of epoch 0 never is, since no change wraps it
abbrev pub book_root : Book → ℕ → Option Text
book_root book zero = None
book_root book (suc e) = option_and_then (book.keys 1) (root_generation book.epochs (suc e))

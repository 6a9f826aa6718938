-- The key tree of a wall (Wong, Gouda and Lam, "Secure Group Communications Using Key Graphs"): its keys, who has
-- which slot and which generation a node has after the changes that were followed, what a change wraps, and what
-- following one leaves. The root is node 1, the children of node x are 2x and 2x + 1, and slot s of a tree of
-- depth t is node 2^t + s. Lists of changes are newest first.
use Rattle.std.specs.Prelude.{ℕ, zero, suc, ◌+◌, ◌-◌, ◌*◌, ◌/◌, ◌^◌, Bool, true, false, ◌&&◌, List, [], ◌∷◌, ◌++◌, Option, Some, None, Result, Ok, Err, nat_eq, nat_lt, is_some, is_none, if◌then◌else◌, option_map, slice_get}
use Rattle.std.specs.List.{flat_map, filter_map, list_any}
use Rattle.std.specs.Option.{ok_or}
use Rattle.std.specs.Int.{w32, to_be_bytes}
use Rattle.sha2.specs.Sha256.{sha256}
use Rattle.fr_bytes.specs.Bytes.{Text}
use Rattle.op_types.specs.declared.kind.Wrap.{Wrap}
use Rattle.pad_wrap.specs.Pad.{padded}
use Rattle.key_graph.specs.declared.change.Setting.{Setting}
use Rattle.key_graph.specs.declared.change.Member.{Member}
use Rattle.key_graph.specs.declared.change.Change.{Change}
use Rattle.key_graph.specs.declared.change.KeyChange.{KeyChange}
use Rattle.key_graph.specs.declared.change.KeyChange.TheVariants.{Admit, Remove}
use Rattle.key_graph.specs.declared.change.PlanRefusal.{PlanRefusal}
use Rattle.key_graph.specs.declared.change.PlanRefusal.TheVariants.{AlreadyIn, NotIn, NoSlot}
use Rattle.key_graph.specs.declared.keys.TheConstants.{INNER_KEY_TAG, LEAF_KEY_TAG}
use Rattle.key_graph.specs.Slots.{any_below, least_below}

-- ---- keys

-- the key of an inner node in a generation: SHA-256 of the tag, the master key, the wall, the node and the generation
unfoldable pub inner_text : Text → ℕ → ℕ → ℕ → Text
inner_text master wall node g =
    sha256 (INNER_KEY_TAG ∷ master ++ to_be_bytes w32 wall ++ to_be_bytes w32 node ++ to_be_bytes w32 g)

-- a user's leaf key on a wall: SHA-256 of the tag, the secret that the user shares with the owner, and the wall
unfoldable pub leaf_text : Text → ℕ → Text
leaf_text secret wall = sha256 (LEAF_KEY_TAG ∷ secret ++ to_be_bytes w32 wall)

-- ---- nodes of a tree of depth t

abbrev pub slot_node : ℕ → ℕ → ℕ
slot_node t s = 2 ^ t + s

-- the k nodes above node n, the lowest first
abbrev pub ancestors : ℕ → ℕ → List ℕ
ancestors zero n = []
ancestors (suc k) n = n / 2 ∷ ancestors k (n / 2)

abbrev pub children : ℕ → List ℕ
children x = (2 * x) ∷ (2 * x + 1) ∷ []

-- node x is the slot's node or above it
unfoldable pub is_below : ℕ → ℕ → ℕ → Bool
is_below t x s = list_any (nat_eq x) (slot_node t s ∷ ancestors t (slot_node t s))

-- ---- what the followed changes leave

-- who has the slot of a change after it
abbrev pub holder_after : KeyChange → Option Member
holder_after (Admit user leaf) = Some (record { user = user; leaf = leaf })
holder_after (Remove user) = None

-- who has the slot: the last change of it says so
abbrev pub holder : List Change → ℕ → Option Member
holder [] s = None
holder (c ∷ cs) s = if nat_eq c.slot s then holder_after c.what else holder cs s

-- the generation of an inner node: that of the last change below it, and 0 where there was none
abbrev pub generation : ℕ → List Change → ℕ → ℕ
generation t [] x = 0
generation t (c ∷ cs) x = if is_below t x c.slot then c.generation else generation t cs x

-- the slot is this user's, or nobody's
abbrev pub is_held : Option ℕ → Option Member → Bool
is_held None None = true
is_held None (Some member) = false
is_held (Some user) None = false
is_held (Some user) (Some member) = nat_eq member.user user

-- the user's slot; the least free slot
abbrev pub slot_of : ℕ → List Change → ℕ → Option ℕ
slot_of t cs user = least_below (λ s. is_held (Some user) (holder cs s)) (2 ^ t)

abbrev pub free_slot : ℕ → List Change → Option ℕ
free_slot t cs = least_below (λ s. is_held None (holder cs s)) (2 ^ t)

-- some slot below the node has a holder
abbrev pub has_member : ℕ → List Change → ℕ → Bool
has_member t cs x = any_below (λ s. is_below t x s && is_some (holder cs s)) (2 ^ t)

-- ---- wraps

-- the current key of a node that has a member below it: of a slot, the holder's leaf key
unfoldable pub key_at : Setting → List Change → ℕ → Option Text
key_at setting cs y =
    if nat_lt y (2 ^ setting.depth)
    then (if has_member setting.depth cs y then Some (inner_text setting.master setting.wall y (generation setting.depth cs y)) else None)
    else option_map (λ (member : Member). member.leaf) (holder cs (y - 2 ^ setting.depth))

-- the generation of a node's current key: of a slot, 0 for whoever holds it
unfoldable pub generation_at : ℕ → List Change → ℕ → ℕ
generation_at t cs y = if nat_lt y (2 ^ t) then generation t cs y else 0

-- the number of the key stream that wraps a node's key of a generation
abbrev pub wrap_stream : ℕ → ℕ → ℕ
wrap_stream parent g = parent * 2 ^ 32 + g

-- the wrap for those who hold a child's key, after the changes cs, the last of which has the generation g:
-- the parent's new key, under the child's current key
abbrev pub sealed : Setting → List Change → ℕ → ℕ → Text → Wrap
sealed setting cs g child key = record {
  child = child;
  child_gen = generation_at setting.depth cs child;
  body = padded key (wrap_stream (child / 2) g) (inner_text setting.master setting.wall (child / 2) g);
}

unfoldable pub wrap_at : Setting → List Change → ℕ → ℕ → Option Wrap
wrap_at setting cs g child = option_map (sealed setting cs g child) (key_at setting cs child)

-- a change that is planned, and the changes that were followed before
pub record Plan : Type 0 where
  pub change : Change
  pub before : List Change

abbrev pub after : Plan → List Change
after p = p.change ∷ p.before

-- For each ancestor of the slot, from the lowest up, and each of its children, left first, that has a member below
-- it after the change: one wrap.
abbrev pub wraps_above : Setting → List Change → ℕ → ℕ → ℕ → List Wrap
wraps_above setting cs g k n = filter_map (wrap_at setting cs g) (flat_map children (ancestors k n))

unfoldable pub wraps_of : Setting → Plan → List Wrap
wraps_of setting p = wraps_above setting (after p) p.change.generation setting.depth (slot_node setting.depth p.change.slot)

-- ---- the owner's tree

-- The tree's number of the wall, depth and master key, the changes that were followed and fitted, newest first, and
-- the generation of every change that was followed, oldest first.
pub record Tree : Type 0 where
  pub setting : Setting
  pub followed : List Change
  pub epochs : List ℕ

-- which slot a change takes or frees, or why there is none
abbrev pub place_of : ℕ → List Change → KeyChange → Result ℕ PlanRefusal
place_of t cs (Admit user leaf) = if is_some (slot_of t cs user) then Err AlreadyIn else ok_or (free_slot t cs) NoSlot
place_of t cs (Remove user) = ok_or (slot_of t cs user) NotIn

abbrev pub with_wraps : Tree → ℕ → KeyChange → Result ℕ PlanRefusal → Result (ℕ × List Wrap) PlanRefusal
with_wraps tree g what (Ok slot) = Ok (slot, wraps_of tree.setting (record { change = record { generation = g; slot = slot; what = what }; before = tree.followed }))
with_wraps tree g what (Err e) = Err e

-- slot and wraps of a change in a generation
unfoldable pub planned : Tree → ℕ → KeyChange → Result (ℕ × List Wrap) PlanRefusal
planned tree g what = with_wraps tree g what (place_of tree.setting.depth tree.followed what)

-- An admission fits where the user has no slot and the slot is in the tree and free, a removal where the slot is in
-- the tree and the user's.
abbrev pub fits : ℕ → List Change → ℕ → KeyChange → Bool
fits t cs slot (Admit user leaf) = is_none (slot_of t cs user) && (nat_lt slot (2 ^ t) && is_held None (holder cs slot))
fits t cs slot (Remove user) = nat_lt slot (2 ^ t) && is_held (Some user) (holder cs slot)

-- whether a change that was accepted fits, and the tree that follows it: one that doesn't fit counts as an epoch alone
unfoldable pub followed_by : Tree → Change → Bool × Tree
followed_by tree c =
    let ok = fits tree.setting.depth tree.followed c.slot c.what in (
      ok,
      record {
        setting = tree.setting;
        followed = if ok then c ∷ tree.followed else tree.followed;
        epochs = tree.epochs ++ c.generation ∷ [];
      },
    )

-- the generation of the root key of an epoch: 0 at epoch 0, then that of the change that began the epoch
abbrev pub root_generation : List ℕ → ℕ → Option ℕ
root_generation epochs zero = Some 0
root_generation epochs (suc e) = slice_get epochs e

unfoldable pub tree_root : Tree → ℕ → Option Text
tree_root tree e = option_map (inner_text tree.setting.master tree.setting.wall 1) (root_generation tree.epochs e)

-- Honest walls, who follows one, and the replies that an honest server makes of one. d is the digest of strings.
use Rattle.std.specs.Prelude.{◌≡◌, ℕ, ◌+◌, ◌-◌, ◌<◌, ◌≤◌, Bool, true, false, List, length, map, take, drop, Some, IsSome}
use Rattle.std.specs.List.{slice_get, AllByRecursion}
use Rattle.fr_bytes.specs.Bytes.{Text}
use Rattle.fr_digest.specs.Digest.{Digest}
use Rattle.op_types.specs.declared.op.Leaf.{Leaf}
use Rattle.op_types.specs.declared.view.View.{View}
use Rattle.op_types.specs.Kinds.{changed_user}
use Rattle.op_types.specs.Spelling.{IsLeaf, leaf_text}
use Rattle.lms_tree.specs.Valid.{Key}
use Rattle.tree_model.specs.History.{root}
use Rattle.hist_proof.specs.Pruned.{Tree, Prunes, cut}
use Rattle.hist_proof.specs.Shown.{shown}
use Rattle.pruned_list.specs.PrunedList.{PrunedList, PrunesDict, changed}
use Rattle.wall_law.specs.Lawful.{Lawful}
use Rattle.wall_law.specs.State.{change_of, state_of}
use Rattle.signed_ops.specs.Signed.{is_author_signed, is_view_signed}
use Rattle.check_rules.specs.declared.known.Known.{Known}
use Rattle.check_rules.specs.Verdict.{looked_user, vouches}
use Rattle.vouch_rule.specs.Vouching.{IsVouchPoint}

abbrev pub texts_of : List Leaf → List Text
texts_of leaves = map leaf_text leaves

-- ---- honest walls

-- A view of a list that holds all that it covers: its root is that of its version, and the server signed it.
pub record IsSeenIn (d : Digest) (server : Key) (L : List Leaf) (view : View) : Type 0 where
  pub within : view.size ≤ length L
  pub same : view.root ≡ root d (texts_of L) view.size
  pub signed : is_view_signed server view ≡ true

abbrev pub SeenIn : Digest → Key → List Leaf → View → Type 0
SeenIn d server L view = 0 < view.size → IsSeenIn d server L view

-- An honest wall, by what is known of it: its history is lawful, each operation is signed by its author and embeds a
-- view of the list before it, and each leaf has a spelling.
pub record IsHonest (d : Digest) (known : Known) (L : List Leaf) : Type 0 where
  pub lawful : Lawful d known.owner known.wall L
  pub signed : AllByRecursion (λ (l : Leaf). is_author_signed known.users l.op ≡ true) L
  pub seen : (k : ℕ) (l : Leaf) → slice_get L k ≡ Some l → SeenIn d known.server (take k L) l.op.view
  pub spelled : AllByRecursion IsLeaf L

-- What a client has accepted of the wall is its front.
pub record Follows (d : Digest) (known : Known) (L : List Leaf) : Type 0 where
  pub within : known.size ≤ length L
  pub root_is : 0 < known.size → known.root ≡ root d (texts_of L) known.size

-- ---- replies

-- A view of the whole list.
pub record IsViewOf (d : Digest) (wall : ℕ) (server : Key) (L : List Leaf) (view : View) : Type 0 where
  pub on : view.wall ≡ wall
  pub size : view.size ≡ length L
  pub seen : SeenIn d server L view

-- A pruned list before the position of a leaf, on which its operation meets nothing hidden, as do the look-ups.
pub record ProvesAt (d : Digest) (owner : ℕ) (L : List Leaf) (k : ℕ) (leaf : Leaf) (p : PrunedList) : Type 0 where
  pub prunes : PrunesDict d p (state_of owner (take k L)).entries
  pub author : IsSome (looked_user p (Some leaf.op.author))
  pub changed_user : IsSome (looked_user p (changed_user leaf.op.kind))
  pub carried : IsSome (changed p leaf.op.author (leaf.op.seq + 1) (change_of leaf.op.kind))

-- What is shown of the list from `from` on to a client that has accepted `have` positions: the tree prunes the list,
-- shows those positions and the one in front of them, and gives the roots of the client's version and of those that
-- are embedded; and a list proves each position.
pub record ShowsNews (d : Digest) (owner have : ℕ) (L : List Leaf) (from : ℕ) (tree : Tree) (lists : List PrunedList) : Type 0 where
  pub prunes : Prunes d tree (texts_of L)
  pub shows : (k : ℕ) → from - 1 ≤ k → k < length L → IsSome (shown tree (length L) k)
  pub sees : 0 < have → have ≤ length L → IsSome (cut tree (length L) have)
  pub embeds : (k : ℕ) (l : Leaf) → from ≤ k → slice_get L k ≡ Some l → 0 < l.op.view.size
      → IsSome (cut tree (length L) l.op.view.size)
  pub proofs : length lists ≡ length L - from
  pub proves : (i : ℕ) (l : Leaf) (p : PrunedList) → slice_get L (from + i) ≡ Some l → slice_get lists i ≡ Some p
      → ProvesAt d owner L (from + i) l p

-- Where a reply begins: at what the client has accepted, where it asks for all, and else at the vouch point.
abbrev pub Begins : ℕ → ℕ → List Leaf → Bool → ℕ → Type 0
Begins have f L true from = from ≡ have
Begins have f L false from = IsVouchPoint (vouches (drop have L)) have f from

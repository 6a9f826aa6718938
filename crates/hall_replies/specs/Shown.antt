-- What is shown of a wall's leaves: the pruned tree, and the pruned access list before each. d is the digest of strings.
use Rattle.std.specs.Prelude.{◌≡◌, ℕ, ◌+◌, ◌-◌, ◌^◌, ◌<◌, ◌≤◌, List, [], ◌∷◌, ◌++◌, length, map, drop, Some}
use Rattle.std.specs.List.{slice_get}
use Rattle.fr_bytes.specs.Bytes.{Text}
use Rattle.fr_digest.specs.Digest.{Digest}
use Rattle.op_types.specs.declared.op.Leaf.{Leaf}
use Rattle.op_types.specs.declared.view.View.{View}
use Rattle.op_types.specs.Spelling.{IsView}
use Rattle.tree_model.specs.History.{depth, part}
use Rattle.hist_proof.specs.Pruned.{Tree, hidden, leaf, node, single}
use Rattle.hist_proof.specs.Spelling.{IsDig}
use Rattle.pruned_list.specs.PrunedList.{PrunedList}
use Rattle.pruned_list.specs.PrunedList as lists
use Rattle.dict_proof.specs.Spelling.{IsSpelled, Spells, list_text}
use Rattle.tree_prune.specs.LeastHistory.{from_on, least}
use Rattle.msg_form.specs.declared.message.Reply.TheVariants.{Show}
use Rattle.msg_form.specs.declared.message.TheConstants.{REPLY_BYTES_MAX}
use Rattle.msg_form.specs.Formats.{shown}
use Rattle.msg_form.specs.Messages.{reply_text}
use Rattle.honest_replies.specs.HonestNews.{ProvesAt, texts_of}
use Rattle.honest_replies.specs.HonestReply.{FewEntries}
use Rattle.hall_replies.specs.declared.lists.TheConstants.{LIST_BYTES_MAX}

-- ---- trees

-- the sizes of the views that leaves embed
abbrev pub view_sizes : List Leaf → List ℕ
view_sizes leaves = map (λ (l : Leaf). l.op.view.size) leaves

-- The least pruned tree of the list that shows the positions from `from` on and the one in front of them, and gives the
-- roots of the versions that they embed and of the one that a client has accepted.
unfoldable pub news_tree : Digest → List Leaf → ℕ → ℕ → Tree
news_tree d L have from =
    least (part d) (depth (length L)) (texts_of L) (from_on (from - 1) (length L)) (view_sizes (drop from L) ++ have ∷ [])

-- Each hidden part is 32 bytes.
unfoldable pub HasDigs : Tree → Type 0
HasDigs (hidden x) = IsDig x
HasDigs (leaf t) = Unit {0}
HasDigs (node l r) = HasDigs l × HasDigs r
HasDigs (single l) = HasDigs l

-- ---- lists

-- Each number of an entry and each digest is in range, but for the roles.
unfoldable pub HasNumbers : PrunedList → Type 0
HasNumbers lists.absent = Unit {0}
HasNumbers (lists.hidden x) = IsDig x
HasNumbers (lists.node e l r) = (e.user < 2 ^ 32) × (e.next < 2 ^ 32) × HasNumbers l × HasNumbers r

-- The bytes are short and spell a list, which is p where that has a short spelling.
pub record SpellsShort (p : PrunedList) (bytes : Text) : Type 0 where
  pub list : PrunedList
  pub spells : Spells list bytes
  pub short : length bytes ≤ LIST_BYTES_MAX
  pub same : IsSpelled p → length (list_text p) ≤ LIST_BYTES_MAX → list ≡ p

-- The bytes are short and spell a pruned list, which proves position k of a wall where no state has many entries.
pub record SpellsProof (d : Digest) (owner : ℕ) (L : List Leaf) (k : ℕ) (bytes : Text) : Type 0 where
  pub leaf : Leaf
  pub at : slice_get L k ≡ Some leaf
  pub list : PrunedList
  pub spells : Spells list bytes
  pub short : length bytes ≤ LIST_BYTES_MAX
  pub proves : FewEntries owner L → ProvesAt d owner L k leaf list

-- Each of the texts proves a position, the first position k.
abbrev pub SpellProofs : Digest → ℕ → List Leaf → ℕ → List Text → Type 0
SpellProofs d owner L k [] = Unit {0}
SpellProofs d owner L k (text ∷ texts) = SpellsProof d owner L k text × SpellProofs d owner L (k + 1) texts

-- ---- replies

-- the parts of a reply that shows a wall are in range, but for the wall's number, and it isn't too long
pub record IsShow (view : View) (from : ℕ) (tree : Text) (texts : List Text) : Type 0 where
  pub is_view : IsView view.wall view
  pub within : from ≤ view.size
  pub parts : (shown (view.size - from)).fits (tree, texts)
  pub short : length (reply_text (Show view from tree texts)) ≤ REPLY_BYTES_MAX

-- The bytes that an honest server replies with: a relation between them, what was asked and the list after the turn.
use Rattle.std.specs.Prelude.{◌≡◌, ℕ, ◌<◌, ◌≤◌, Bool, List, [], length, map, take, Some, None, if◌then◌else◌}
use Rattle.std.specs.List.{AllByRecursion, slice_get}
use Rattle.fr_bytes.specs.Bytes.{Text}
use Rattle.fr_digest.specs.Digest.{Digest}
use Rattle.lms_tree.specs.Valid.{Key}
use Rattle.op_types.specs.declared.op.Leaf.{Leaf}
use Rattle.op_types.specs.declared.view.View.{View}
use Rattle.op_types.specs.Kinds.{is_change}
use Rattle.op_types.specs.Spelling.{leaf_text}
use Rattle.hist_proof.specs.Pruned.{Tree, Prunes}
use Rattle.hist_proof.specs.Shown.{shown}
use Rattle.hist_proof.specs.Spelling.{tree_text}
use Rattle.hist_proof.specs.Spelling as trees
use Rattle.pruned_list.specs.PrunedList.{PrunedList}
use Rattle.dict_proof.specs.Spelling.{list_text}
use Rattle.dict_proof.specs.Spelling as dicts
use Rattle.wall_law.specs.State.{state_of}
use Rattle.msg_form.specs.declared.message.Reply.TheVariants.{Show, KeyOps}
use Rattle.msg_form.specs.Messages.{SpellsReply}
use Rattle.honest_replies.specs.HonestNews.{Begins, IsViewOf, ShowsNews, texts_of}

-- The bytes spell a view with what is shown of it.
pub record SpellsNews (view : View) (from : ℕ) (tree : Tree) (lists : List PrunedList) (bytes : Text) : Type 0 where
  pub text : SpellsReply (Show view from (tree_text tree) (map list_text lists)) bytes
  pub tree_is : trees.IsSpelled tree
  pub lists_are : AllByRecursion dicts.IsSpelled lists

-- The bytes spell a view alone.
abbrev pub SpellsBare : View → Text → Type 0
SpellsBare view bytes = SpellsReply (Show view view.size [] []) bytes

-- No state of the wall has more entries than there may be users.
abbrev pub FewEntries : ℕ → List Leaf → Type 0
FewEntries owner L = (k : ℕ) → length (state_of owner (take k L)).entries ≤ 32

-- a view of the list, with what is new to a client that has accepted `have` positions
pub record NewsReply (d : Digest) (owner have f : ℕ) (L : List Leaf) (whole : Bool) (view : View) (bytes : Text) : Type 0 where
  pub from : ℕ
  pub tree : Tree
  pub lists : List PrunedList
  pub begins : Begins have f L whole from
  pub shows : ShowsNews d owner have L from tree lists
  pub text : SpellsNews view from tree lists bytes

-- What is replied with a list to a client that has accepted `have` positions of its wall: a view of the list, with what
-- is new, where there is something new. Where a state has more entries than there may be users, nothing is said of how
-- that is shown.
pub record ShowReply (d : Digest) (wall owner : ℕ) (server : Key) (have f : ℕ) (L : List Leaf) (whole : Bool) (bytes : Text) : Type 0 where
  pub view : View
  pub is_view : IsViewOf d wall server L view
  pub bare : length L ≤ have → SpellsBare view bytes
  pub news : have < length L → FewEntries owner L → NewsReply d owner have f L whole view bytes

-- ---- changes

-- The bytes spell a tree of the first n leaves that shows exactly the changes of the access list.
pub record KeysReply (d : Digest) (wall : ℕ) (L : List Leaf) (n : ℕ) (bytes : Text) : Type 0 where
  pub tree : Tree
  pub text : SpellsReply (KeyOps wall n (tree_text tree)) bytes
  pub tree_is : trees.IsSpelled tree
  pub prunes : Prunes d tree (texts_of (take n L))
  pub shows : (k : ℕ) (l : Leaf) → k < n → slice_get L k ≡ Some l
      → shown tree n k ≡ (if is_change l.op.kind then Some (leaf_text l) else None)

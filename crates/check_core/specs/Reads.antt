-- What the readers of a reply answer.
use Rattle.std.specs.Prelude.{◌≡◌, ◌<◌, ◌≤◌, List, ◌++◌, map, Result, Ok, Err, true, false}
use Rattle.std.specs.List.{AllByRecursion}
use Rattle.fr_bytes.specs.declared.refusals.ReadRefusal.{ReadRefusal}
use Rattle.fr_bytes.specs.declared.refusals.ReadRefusal.TheVariants as refusals
use Rattle.op_types.specs.declared.op.Leaf.{Leaf}
use Rattle.op_types.specs.declared.limits.TheConstants.{VIEW_SIZE_MAX}
use Rattle.op_types.specs.Spelling.{IsLeaf}
use Rattle.hist_proof.specs.Pruned.{Tree}
use Rattle.hist_proof.specs.View.{tree_view}
use Rattle.dict_proof.specs.View.{list_view}
use Rattle.check_core.specs.declared.read_tree.ReadTree.{ReadTree}
use Rattle.check_core.specs.declared.heard.News.{News}
use Rattle.check_core.specs.declared.heard.Heard.{Heard as Read}
use Rattle.check_core.specs.declared.heard.Heard.TheVariants as reads
use Rattle.check_core.specs.declared.keys_news.KeysNews.{KeysNews}
use Rattle.check_rules.specs.Heard.{Heard, bare, news, refused, KeysHeard, holds_leaves}
use Rattle.check_rules.specs.Shown.{leaves_in}

-- the leaves of a tree behind others
abbrev pub PutsLeaves : Result (Unit {0}) ReadRefusal → List Leaf → List Leaf → Tree → Type 0
PutsLeaves (Ok done) before after tree = (holds_leaves tree ≡ true) × (after ≡ before ++ leaves_in tree)
PutsLeaves (Err refusals.NotForm) before after tree = holds_leaves tree ≡ false
PutsLeaves (Err refusals.NoMemory) before after tree = Unit {0}

abbrev pub heard_view : Read → Heard
heard_view (reads.Bare view) = bare view
heard_view (reads.News n) = news n.view n.from (tree_view n.shown.tree) (map list_view n.lists)
heard_view (reads.Refused wall cause number) = refused wall cause number

abbrev pub keys_view : KeysNews → KeysHeard
keys_view n = record { wall = n.wall; size = n.size; tree = tree_view n.shown.tree }

-- Each text of the tree was read as a leaf.
pub record IsRead (t : ReadTree) : Type 0 where
  pub holds : holds_leaves (tree_view t.tree) ≡ true
  pub leaves : t.leaves.items ≡ leaves_in (tree_view t.tree)
  pub spelled : AllByRecursion IsLeaf t.leaves.items

-- It shows a position of a view of no more than 1,024.
pub record IsNews (n : News) : Type 0 where
  pub some : n.from < n.view.size
  pub few : n.view.size ≤ VIEW_SIZE_MAX
  pub read : IsRead n.shown

abbrev pub IsHeard : Read → Type 0
IsHeard (reads.Bare view) = Unit {0}
IsHeard (reads.News n) = IsNews n
IsHeard (reads.Refused wall cause number) = Unit {0}

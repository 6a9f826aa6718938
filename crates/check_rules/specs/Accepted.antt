-- What a client that takes a reply has checked of it.
use Rattle.std.specs.Prelude.{◌≡◌, ℕ, zero, suc, ◌+◌, ◌-◌, ◌<◌, ◌≤◌, ◌⊎◌, true, List, [], ◌∷◌, Some}
use Rattle.std.specs.List.{slice_get, AllByRecursion}
use Rattle.fr_digest.specs.Digest.{Digest}
use Rattle.op_types.specs.declared.op.Leaf.{Leaf}
use Rattle.op_types.specs.declared.view.View.{View}
use Rattle.hist_proof.specs.Pruned.{Tree, fits, at}
use Rattle.hist_proof.specs.Pruned as trees
use Rattle.pruned_list.specs.PrunedList.{PrunedList}
use Rattle.wall_law.specs.Lawful.{Told, told}
use Rattle.wall_law.specs.Position.{PositionPasses}
use Rattle.check_rules.specs.declared.known.Known.{Known}
use Rattle.check_rules.specs.Shown.{anchor, leaves_from, shows_from}
use Rattle.check_rules.specs.Verdict.{finding, told_before, vouchers_found}

-- what is told in front of the i-th of these leaves, where this was told in front of the first
abbrev pub told_at : Told → List Leaf → ℕ → Told
told_at before leaves zero = before
told_at before [] (suc i) = before
told_at before (leaf ∷ leaves) (suc i) = told_at (told leaf) leaves i

-- Nothing stands in the way of any of the leaves from position k on, each with its list.
abbrev pub PositionsPass : Digest → Known → Tree → ℕ → Told → ℕ → List Leaf → List PrunedList → Type 0
PositionsPass d known tree size before k leaves lists = (i : ℕ) (leaf : Leaf) (list : PrunedList)
    → slice_get leaves i ≡ Some leaf → slice_get lists i ≡ Some list
    → PositionPasses (told_at before leaves i) known.wall (k + i) leaf (finding d known tree size list leaf)

-- A view that covers more than the client has accepted, with the leaves from `from` on that its tree shows and a
-- list in front of each: the tree is one of the view's size and root, shows what it has to, and begins with what
-- was accepted; more than f users vouch for what isn't shown; each leaf is of the wall, and nothing stands in its way.
pub record Accepted (d : Digest) (known : Known) (view : View) (from : ℕ) (tree : Tree) (lists : List PrunedList) : Type 0 where
  pub later : known.size < view.size
  pub old : known.size ≤ from
  pub some : from < view.size
  pub fitting : fits tree view.size ≡ true
  pub shows : shows_from tree view.size (from - 1) ≡ true
  pub root : trees.digest_of d tree ≡ view.root
  pub extends : 0 < known.size → at d tree view.size known.size ≡ Some known.root
  pub vouched : (from ≡ known.size) ⊎ (known.f < vouchers_found (leaves_from tree view.size from) from)
  pub wall : AllByRecursion (λ (l : Leaf). l.op.wall ≡ known.wall) (leaves_from tree view.size from)
  pub positions : PositionsPass d known tree view.size (told_before d known.owner (anchor tree view.size from)) from
      (leaves_from tree view.size from) lists

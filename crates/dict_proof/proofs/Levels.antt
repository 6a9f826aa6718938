-- Which lists have no more than so many levels.
use Rattle.std.proofs.Common.{◌≡◌, ℕ, ◌-◌, ◌<◌, arith}
use Rattle.tree_model.specs.declared.entry.Entry.{Entry}
use Rattle.pruned_list.specs.PrunedList.{PrunedList, absent, hidden, node, levels}
use Rattle.dict_proof.specs.Spelling.{FitsIn, HasRanges, IsDig, IsEntry}

pub absent_in : (n : ℕ) → FitsIn n absent
unfolding levels HasRanges
absent_in n = (omega arith, tt)

-- a list has a level
pub some_level : (p : PrunedList) → (p ≡ absent → ⊥) → 0 < levels p
unfolding levels
some_level absent some = absurd (some cc)
some_level (hidden x) some = omega arith
some_level (node e l r) some = omega arith

pub none_in : (n : ℕ) (p : PrunedList) → n ≡ 0 → 0 < levels p → FitsIn n p → ⊥
none_in n p low some h = omega (arith, h.0)

pub hidden_in : (n : ℕ) (x : _) → (n ≡ 0 → ⊥) → IsDig x → FitsIn n (hidden x)
unfolding levels HasRanges
hidden_in n x above h = (omega arith, h)

pub entry_in : (n : ℕ) (e : Entry) (l r : PrunedList) → FitsIn n (node e l r) → IsEntry e
unfolding HasRanges
entry_in n e l r h = h.1.0

pub left_in : (n : ℕ) (e : Entry) (l r : PrunedList) → FitsIn n (node e l r) → FitsIn (n - 1) l
unfolding levels HasRanges
left_in n e l r h = (omega (arith, h.0), h.1.1)

pub right_in : (n : ℕ) (e : Entry) (l r : PrunedList) → FitsIn n (node e l r) → FitsIn (n - 1) r
unfolding levels HasRanges
right_in n e l r h = (omega (arith, h.0), h.1.2)

pub node_in : (n : ℕ) (e : Entry) (l r : PrunedList) → (n ≡ 0 → ⊥) → IsEntry e → FitsIn (n - 1) l → FitsIn (n - 1) r
    → FitsIn n (node e l r)
unfolding levels HasRanges
node_in n e l r above entry left right = (omega (arith, left.0, right.0), (entry, left.1, right.1))

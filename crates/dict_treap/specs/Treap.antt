-- The treaps that versions of an access list keep, as pruned lists in which nothing is hidden.
use Rattle.std.specs.Prelude.{◌≡◌, ℕ, suc, max, Bool, true, false, ◌&&◌, Option, Some, None, Box, box_value, nat_le, nat_lt, refl}
use Rattle.std.proofs.Common.{Bor}
use Rattle.std.specs.declared.alloc.Global.{Global}
use Rattle.fr_digest.specs.Digest.{Digest}
use Rattle.tree_model.specs.declared.entry.Entry.{Entry}
use Rattle.tree_model.specs.AccessList.{IsRising}
use Rattle.pruned_list.specs.PrunedList.{PrunedList, absent, hidden, node, PrunesList, IsWhole, in_order, levels}

-- a part that may be absent
abbrev pub part : Option (Bor PrunedList) → PrunedList
part None = absent
part (Some p) = p.now

-- the same, where the program owns it
abbrev pub owned : Option (Box PrunedList Global) → PrunedList
owned None = absent
owned (Some b) = box_value b

abbrev pub left_of : PrunedList → PrunedList
left_of absent = absent
left_of (hidden x) = absent
left_of (node e l r) = l

abbrev pub right_of : PrunedList → PrunedList
right_of absent = absent
right_of (hidden x) = absent
right_of (node e l r) = r

-- It is the treap of the entries that it shows.
pub record IsVersion (d : Digest) (p : PrunedList) : Type 0 where
  pub whole : IsWhole p
  pub rising : IsRising (in_order p)
  pub parts : PrunesList d p (in_order p)

-- Going to the right from the top, each user is smaller than this one.
unfoldable pub is_smaller : ℕ → PrunedList → Bool
is_smaller u absent = true
is_smaller u (hidden x) = false
is_smaller u (node e l r) = nat_lt e.user u && is_smaller u r

-- Going to the left from the top, no user is smaller than this one.
unfoldable pub is_greater : ℕ → PrunedList → Bool
is_greater u absent = true
is_greater u (hidden x) = false
is_greater u (node e l r) = nat_le u e.user && is_greater u l

pub levels-node : (e : Entry) (l r : PrunedList) → levels (node e l r) ≡ suc (max (levels l) (levels r))
unfolding levels
levels-node e l r = refl

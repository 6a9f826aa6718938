-- The least part of an access list in which an operation and its look-ups meet nothing hidden. d is the digest of
-- strings.
use Rattle.std.specs.Prelude.{◌≡◌, ℕ, Bool, List, [], IsSome, nat_eq}
use Rattle.std.specs.List.{list_any}
use Rattle.fr_digest.specs.Digest.{Digest}
use Rattle.tree_model.specs.declared.entry.Entry.{Entry}
use Rattle.tree_model.specs.AccessList.{ListChange, adds, drops, stays, entry_of}
use Rattle.pruned_list.specs.PrunedList.{PrunedList, changed, found, seek}
use Rattle.pruned_list.specs.Kept.{entered, kept, path, removal}

-- the user is one of these
abbrev pub is_one_of : List ℕ → ℕ → Bool
is_one_of users u = list_any (λ v. nat_eq v u) users

-- the users of the nodes that a change enters, beside those on the way to its author
abbrev pub changed_users : ListChange → PrunedList → List ℕ
changed_users stays p = []
changed_users (adds e) p = path e.user p
changed_users (drops u) p = removal u p

-- the treap in which the nodes are kept that an operation enters, and each other one is hidden
unfoldable pub least_list : Digest → ℕ → ListChange → PrunedList → PrunedList
least_list d author change t = kept d (is_one_of (entered author change t)) t

-- the search for the changed user meets the user's entry, or an end, as the set has it
abbrev pub FindsChanged : PrunedList → List Entry → ListChange → Type 0
FindsChanged p E stays = Unit {0}
FindsChanged p E (adds e) = seek p e.user ≡ found (entry_of E e.user)
FindsChanged p E (drops u) = seek p u ≡ found (entry_of E u)

-- Both look-ups find what the set has, and the operation meets nothing hidden.
pub record IsOpen (p : PrunedList) (E : List Entry) (author : ℕ) (change : ListChange) : Type 0 where
  pub author_found : seek p author ≡ found (entry_of E author)
  pub changed_found : FindsChanged p E change
  pub carried : (next : ℕ) → IsSome (changed p author next change)

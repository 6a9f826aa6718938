-- The first difference, in pre-order, of a pruned access list and the treap of a set. d is the digest of strings.
use Rattle.std.specs.Prelude.{◌≡◌, ℕ, List, Option, None, Some}
use Rattle.std.specs.Option.{option_or}
use Rattle.fr_digest.specs.Digest.{Digest}
use Rattle.fr_digest.specs.Collision.{Strings}
use Rattle.tree_model.specs.declared.entry.Entry.{Entry}
use Rattle.tree_model.specs.AccessList.{top_of, smaller, greater, node_text, set_digest}
use Rattle.pruned_list.specs.PrunedList.{PrunedList, PrunesList, absent, hidden, node, part_digest}
use Rattle.tree_extract.specs.Difference.{clash_at}

-- the strings of two nodes in the same place, where there are two and they differ with one digest: that of an entry of
-- the pruned list over its parts, and that of the set's top over the smaller and the greater users
abbrev pub node_clash : Digest → Entry → PrunedList → PrunedList → List Entry → Entry → Option Strings
node_clash d e l r E t =
    clash_at d (node_text e (part_digest d l) (part_digest d r))
    (node_text t (set_digest d (smaller t.user E)) (set_digest d (greater t.user E)))

-- what is found at a node or below it, where this is found in the parts and in those of the set's top
abbrev pub found_at : Digest → Entry → PrunedList → PrunedList → (List Entry → Option Strings) → (List Entry → Option Strings) → List Entry → Option Entry → Option Strings
found_at d e l r in_left in_right E None = None
found_at d e l r in_left in_right E (Some t) =
    option_or (node_clash d e l r E t) (option_or (in_left (smaller t.user E)) (in_right (greater t.user E)))

-- The strings of the first nodes in pre-order, the pruned list's first: a node itself, then its left, then its
-- right part. A part without entries, one that is hidden, and a set without entries show no node.
unfoldable pub dict_difference : Digest → PrunedList → List Entry → Option Strings
dict_difference d absent E = None
dict_difference d (hidden x) E = None
dict_difference d (node e l r) E =
    found_at d e l r (λ F. dict_difference d l F) (λ F. dict_difference d r F) E (top_of E)

-- Of a part of a pruned list and a set: their digests, where they have entries, the first difference, and that the
-- part prunes the set where the digests agree and nothing is found.
pub record IsCompared (d : Digest) (a b : Option (List ℕ)) (found : Option Strings) (p : PrunedList) (E : List Entry) : Type 0 where
  pub part : a ≡ part_digest d p
  pub set : b ≡ set_digest d E
  pub finds : found ≡ dict_difference d p E
  pub prunes : a ≡ b → found ≡ None → PrunesList d p E

-- both digests, and what was found
abbrev pub Both : Type 0
Both = Option (List ℕ) × Option (List ℕ) × Option Strings

-- The same of two nodes over what was compared of their parts.
pub record IsOver (d : Digest) (e t : Entry) (left right whole : Both) : Type 0 where
  pub part : whole.0 ≡ Some (d (node_text e left.0 right.0))
  pub set : whole.1 ≡ Some (d (node_text t left.1 right.1))
  pub finds : whole.2 ≡ option_or (clash_at d (node_text e left.0 right.0) (node_text t left.1 right.1)) (option_or left.2 right.2)
  pub same : whole.0 ≡ whole.1 → whole.2 ≡ None → (e ≡ t) × (left.0 ≡ left.1) × (right.0 ≡ right.1)

-- The strings of nodes, as the extraction holds them until it knows which it hands out.
use Rattle.std.specs.Prelude.{ℕ, List, [], ◌∷◌, ◌++◌, Option, None, Some, IfSome}
use Rattle.std.specs.Int.{w32, to_be_bytes}
use Rattle.fr_digest.specs.Collision.{Strings}
use Rattle.fr_digest.specs.Digest.{IsDigest}
use Rattle.tree_model.specs.AccessList.{IsInRange, flags, node_text}
use Rattle.tree_model.specs.declared.entry.Entry.{Entry as EntryOfList}
use Rattle.tree_model.specs.History.{leaf_string, single_string, pair_string}
use Rattle.tree_extract.specs.declared.nodes.NodeString.{NodeString}
use Rattle.tree_extract.specs.declared.nodes.NodeString.TheVariants.{Leaf, Single, Pair, Entry}
use Rattle.tree_extract.specs.declared.nodes.Found.{Found}

-- what stands in front of the digests of an access list's node
abbrev pub head_text : EntryOfList → Option (List ℕ) → Option (List ℕ) → List ℕ
head_text e l r = 2 ∷ (to_be_bytes w32 e.user ++ (e.role ∷ (to_be_bytes w32 e.next ++ (flags l r ∷ []))))

-- the string itself
abbrev pub spelled : NodeString → List ℕ
spelled (Leaf text) = leaf_string text.now
spelled (Single left) = single_string left
spelled (Pair left right) = pair_string left right
spelled (Entry n) = node_text n.entry n.left n.right

-- its digests have a digest's length, and its numbers fit their places
abbrev pub IsShaped : NodeString → Type 0
IsShaped (Leaf text) = Unit {0}
IsShaped (Single left) = IsDigest left
IsShaped (Pair left right) = IsDigest left × IsDigest right
IsShaped (Entry n) = IsInRange n.entry × IfSome n.left IsDigest × IfSome n.right IsDigest

-- both strings of a find
abbrev pub strings_of : Found → Strings
strings_of found = record { a = spelled found.a; b = spelled found.b }

-- and of what may be one
abbrev pub found_strings : Option Found → Option Strings
found_strings None = None
found_strings (Some found) = Some (strings_of found)

-- Pruned access lists: the treap of a set of entries (Aragon and Seidel, "Randomized Search Trees") with some
-- subtrees replaced by their digests; what prunes a set; and look-ups and changes, which are defined on every
-- pruned list, whether or not it prunes a set. d is the digest of strings.
use Rattle.std.specs.Prelude.{◌≡◌, ℕ, suc, ◌+◌, ◌<◌, max, List, [], ◌∷◌, ◌++◌, length, Option, Some, None, nat_lt, nat_eq, if◌then◌else◌, option_map, option_and_then, unwrap_or}
use Rattle.fr_bytes.specs.Bytes.{Text}
use Rattle.fr_digest.specs.Digest.{Digest, IsDigest}
use Rattle.tree_model.specs.declared.entry.Entry.{Entry}
use Rattle.tree_model.specs.AccessList.{top_of, smaller, greater, is_above, node_text, set_digest, ListChange, stays, adds, drops}

-- A part without entries, a part of which the digest alone is known, and an entry over the parts of smaller and
-- of greater users.
pub data PrunedList : Type 0 where
  absent : PrunedList
  hidden : Text → PrunedList
  node : Entry → PrunedList → PrunedList → PrunedList

-- ---- the digest

-- The digest of what a part stands for, where that has an entry.
unfoldable pub part_digest : Digest → PrunedList → Option Text
part_digest d absent = None
part_digest d (hidden x) = Some x
part_digest d (node e l r) = Some (d (node_text e (part_digest d l) (part_digest d r)))

-- The digest of what a pruned list stands for, which always has an entry.
abbrev pub digest_of : Digest → PrunedList → Text
digest_of d p = unwrap_or (part_digest d p) []

-- ---- prunings of a set

-- It prunes the treap of a set: an absent part has no entries; a hidden part has the digest of its entries, of
-- which there is one at least; a node has the entry of greatest priority, and its parts prune the smaller and
-- the greater users.
unfoldable pub PrunesList : Digest → PrunedList → List Entry → Type 0
PrunesList d absent E = E ≡ []
PrunesList d (hidden x) E = set_digest d E ≡ Some x
PrunesList d (node e l r) E =
    (top_of E ≡ Some e) × PrunesList d l (smaller e.user E) × PrunesList d r (greater e.user E)

-- It prunes the treap of an access list, which is never empty.
pub record PrunesDict (d : Digest) (p : PrunedList) (E : List Entry) : Type 0 where
  pub some : 0 < length E
  pub parts : PrunesList d p E

-- Nothing is hidden.
unfoldable pub IsWhole : PrunedList → Type 0
IsWhole absent = Unit {0}
IsWhole (hidden x) = ⊥
IsWhole (node e l r) = IsWhole l × IsWhole r

-- the entries that it shows, from left to right
unfoldable pub in_order : PrunedList → List Entry
in_order absent = []
in_order (hidden x) = []
in_order (node e l r) = in_order l ++ (e ∷ in_order r)

-- Each hidden part has a digest's length.
unfoldable pub HasDigests : PrunedList → Type 0
HasDigests absent = Unit {0}
HasDigests (hidden x) = IsDigest x
HasDigests (node e l r) = HasDigests l × HasDigests r

-- how many levels it has; a hidden part is one
unfoldable pub levels : PrunedList → ℕ
levels absent = 0
levels (hidden x) = 1
levels (node e l r) = suc (max (levels l) (levels r))

-- How many bytes spell it, where a hidden part takes a tag and 32 bytes, and a node a tag, the ten bytes of its
-- entry and which parts there are, and the bytes of its parts.
unfoldable pub byte_count : PrunedList → ℕ
byte_count absent = 0
byte_count (hidden x) = 33
byte_count (node e l r) = 11 + (byte_count l + byte_count r)

-- ---- look-ups

-- What a search meets: a hidden part, or its end, with the entry where there is one.
pub data Sought : Type 0 where
  hid : Sought
  found : Option Entry → Sought

-- The search for a user, from the top: to the left where the user is smaller than the node's, to the right
-- where it is greater.
unfoldable pub seek : PrunedList → ℕ → Sought
seek absent u = found None
seek (hidden x) u = hid
seek (node e l r) u = if nat_eq u e.user then found (Some e) else (if nat_lt u e.user then seek l u else seek r u)

-- ---- changes: None where a step meets a hidden part

-- The user's next number is set in the node that the search meets.
unfoldable pub set_next : ℕ → ℕ → PrunedList → Option PrunedList
set_next user next absent = Some absent
set_next user next (hidden x) = None
set_next user next (node e l r) =
    if nat_eq user e.user then Some (node (record e { next = next }) l r)
    else (if nat_lt user e.user
    then option_map (λ c. node e c r) (set_next user next l)
    else option_map (λ c. node e l c) (set_next user next r))

-- the parts of a split, with a node on top of the part of smaller users, or of that of greater ones
abbrev pub smaller_over : Entry → PrunedList → PrunedList × PrunedList → PrunedList × PrunedList
smaller_over e l parts = (node e l parts.0, parts.1)

abbrev pub greater_over : Entry → PrunedList → PrunedList × PrunedList → PrunedList × PrunedList
greater_over e r parts = (parts.0, node e parts.1 r)

-- The part of smaller users, and the part of greater ones.
unfoldable pub split : PrunedList → ℕ → Option (PrunedList × PrunedList)
split absent u = Some (absent, absent)
split (hidden x) u = None
split (node e l r) u =
    if nat_lt e.user u
    then option_map (smaller_over e l) (split r u)
    else option_map (greater_over e r) (split l u)

-- the entry over the two parts
abbrev pub over : Entry → PrunedList × PrunedList → PrunedList
over e parts = node e parts.0 parts.1

-- An entry comes in: the nodes of greater priority on the way to its user's place stay, and in place of what
-- stands below them is the entry, over what that is split into.
unfoldable pub insert : Entry → PrunedList → Option PrunedList
insert e absent = Some (node e absent absent)
insert e (hidden x) = None
insert e (node f l r) =
    if is_above f.user e.user
    then (if nat_lt e.user f.user
    then option_map (λ c. node f c r) (insert e l)
    else option_map (λ c. node f l c) (insert e r))
    else option_map (over e) (split (node f l r) e.user)

-- a hidden left part joined with a right one
abbrev pub onto_hidden : Text → PrunedList → Option PrunedList
onto_hidden x absent = Some (hidden x)
onto_hidden x (hidden y) = None
onto_hidden x (node f m q) = None

-- A left part that is a node joined with a right one, where `onto` joins the node's own right part with what it
-- is given.
unfoldable pub under : Entry → PrunedList → PrunedList → (PrunedList → Option PrunedList) → PrunedList
    → Option PrunedList
under e l r onto absent = Some (node e l r)
under e l r onto (hidden y) = None
under e l r onto (node f m q) =
    if is_above f.user e.user
    then option_map (λ c. node f c q) (under e l r onto m)
    else option_map (λ c. node e l c) (onto (node f m q))

-- A left and a right part joined. Where one is absent it is the other. Of two nodes the one of greater priority
-- is on top, the left one where neither has it, and its inner part is joined with the other node.
unfoldable pub join : PrunedList → PrunedList → Option PrunedList
join absent b = Some b
join (hidden x) b = onto_hidden x b
join (node e l r) b = under e l r (λ c. join r c) b

-- A user goes: in place of the node that the search meets are its parts, joined.
unfoldable pub remove : ℕ → PrunedList → Option PrunedList
remove user absent = Some absent
remove user (hidden x) = None
remove user (node e l r) =
    if nat_eq user e.user then join l r
    else (if nat_lt user e.user
    then option_map (λ c. node e c r) (remove user l)
    else option_map (λ c. node e l c) (remove user r))

abbrev pub carry : ListChange → PrunedList → Option PrunedList
carry stays p = Some p
carry (adds e) p = insert e p
carry (drops user) p = remove user p

-- What an operation leaves of a pruned list: its author's next number is set, and then the change is made.
abbrev pub changed : PrunedList → ℕ → ℕ → ListChange → Option PrunedList
changed p author next change = option_and_then (carry change) (set_next author next p)

-- Treaps of entries: search trees by the user that are heaps by the priority (Aragon and Seidel,
-- "Randomized Search Trees"). d is the digest of strings.
use Rattle.std.specs.Prelude.{◌≡◌, ℕ, true, List, [], ◌∷◌, ◌++◌, Option, Some, None}
use Rattle.std.specs.List.{AllByRecursion}
use Rattle.fr_digest.specs.Digest.{Digest}
use Rattle.tree_model.specs.declared.entry.Entry.{Entry}
use Rattle.tree_model.specs.AccessList.{IsRising, is_above, node_text}

pub data Treap : Type 0 where
  empty : Treap
  node : Entry → Treap → Treap → Treap

-- its entries from left to right
abbrev pub in_order : Treap → List Entry
in_order empty = []
in_order (node e l r) = in_order l ++ (e ∷ in_order r)

-- the user has a greater priority than each of the entries
abbrev pub IsAboveEach : ℕ → List Entry → Type 0
IsAboveEach user es = AllByRecursion (λ (x : Entry). is_above user x.user ≡ true) es

-- Each node's user has a greater priority than each user below it.
abbrev pub IsHeap : Treap → Type 0
IsHeap empty = Unit {0}
IsHeap (node e l r) = IsAboveEach e.user (in_order l) × IsAboveEach e.user (in_order r) × IsHeap l × IsHeap r

-- It is searched by users, which rise from left to right, and it is a heap by priorities.
abbrev pub IsTreap : Treap → Type 0
IsTreap t = IsRising (in_order t) × IsHeap t

-- The digest of a treap, where it isn't empty: that of its root's string over the digests of its children.
unfoldable pub treap_digest : Digest → Treap → Option (List ℕ)
treap_digest d empty = None
treap_digest d (node e l r) = Some (d (node_text e (treap_digest d l) (treap_digest d r)))

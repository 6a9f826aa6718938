-- What a book of keys holds, by its names.
use Rattle.std.specs.Prelude.{ℕ, List, [], nat_eq, if◌then◌else◌, unwrap_or}
use Rattle.std.specs.BTreeMap.{BTreeMap, get}
use Rattle.std.specs.Ordering.{nat_cmp}
use Rattle.key_graph.specs.declared.node_keys.NodeKey.{NodeKey}
use Rattle.key_graph.specs.NodeKeys.{key_in}
use Rattle.key_graph.specs.declared.book.KeyBook.{KeyBook}
use Rattle.key_graph.specs.KeyBook as book

-- the keys of lists by generation
abbrev pub keys_of : BTreeMap ℕ (List NodeKey) → book.Keys
keys_of m x g = key_in x (unwrap_or (get nat_cmp m g) [])

-- a book as its contracts see it
abbrev pub book_of : KeyBook → book.Book
book_of b = record {
  wall = b.wall;
  depth = b.depth;
  user = b.user;
  leaf = b.leaf;
  slot = b.slot;
  keys = keys_of b.keys;
  epochs = b.epochs.items;
}

-- these keys, with those of a list in the place of those of a generation
abbrev pub in_place : book.Keys → ℕ → List NodeKey → book.Keys
in_place keys g fresh x h = if nat_eq h g then key_in x fresh else keys x h

-- Keys of inner nodes in one generation, as a list.
use Rattle.std.specs.Prelude.{ℕ, List, [], ◌∷◌, Option, Some, None, nat_eq, if◌then◌else◌}
use Rattle.fr_bytes.specs.Bytes.{Text}
use Rattle.key_graph.specs.declared.node_keys.NodeKey.{NodeKey}

-- the node's key, where it is among these
abbrev pub key_in : ℕ → List NodeKey → Option Text
key_in x [] = None
key_in x (k ∷ ks) = if nat_eq k.node x then Some k.key else key_in x ks

use Rattle.std.proofs.Common.{◌≡◌, drop}
use Rattle.key_graph.specs.NodeKeys.{key_in}
use Rattle.key_graph.proofs.node_keys.find_key.Given as goal

abbrev pub invariant-loop-key : goal.invariant-loop-key
invariant-loop-key l = key_in l.node (drop l.key-index l.keys) ≡ key_in l.node l.keys

-- The nodes of the history tree of a version of a list, by their places.
use Rattle.std.specs.Prelude.{ℕ, ◌^◌, List, take, drop}
use Rattle.fr_bytes.specs.Bytes.{Text}

-- The texts of the node of this height whose positions begin at `start`, in version `size`: 2^level of them, or
-- those up to the end of the version.
unfoldable pub node_texts : ℕ → ℕ → ℕ → List Text → List Text
node_texts size level start texts = take (2 ^ level) (drop start (take size texts))

-- Two byte strings that one digest function doesn't tell apart.
use Rattle.std.specs.Prelude.{◌≡◌, ◌≢◌}
use Rattle.fr_bytes.specs.Bytes.{Text}
use Rattle.fr_digest.specs.Digest.{Digest}

-- Two byte strings, in this order.
pub record Strings : Type 0 where
  pub a : Text
  pub b : Text

-- The strings differ and have one digest under d.
pub record Collides (d : Digest) (strings : Strings) : Type 0 where
  pub differ : strings.a ≢ strings.b
  pub agree : d strings.a ≡ d strings.b

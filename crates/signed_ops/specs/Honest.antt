-- Honest walls.
use Rattle.std.specs.Prelude.{◌≡◌, ℕ, List, true}
use Rattle.std.specs.List.{AllByRecursion}
use Rattle.fr_digest.specs.Digest.{Digest}
use Rattle.op_types.specs.declared.op.Leaf.{Leaf}
use Rattle.wall_law.specs.Lawful.{Lawful}
use Rattle.signed_ops.specs.declared.known.Known.{Known}
use Rattle.signed_ops.specs.Signed.{is_author_signed}

-- An honest wall: its history is lawful, and each operation is signed by its author.
pub record IsHonest (d : Digest) (known : Known) (leaves : List Leaf) : Type 0 where
  pub lawful : Lawful d known.owner known.wall leaves
  pub signed : AllByRecursion (λ (leaf : Leaf). is_author_signed known.keys leaf.op ≡ true) leaves

-- What comes of comparisons that are made in order.
use Rattle.std.specs.Prelude.{◌≡◌, List, Option, None}
use Rattle.std.specs.List.{AllByRecursion}
use Rattle.fr_digest.specs.Collision.{Strings}
use Rattle.fr_digest.specs.Digest.{Digest}
use Rattle.world_audit.specs.Comparisons.{Agrees, Comparison, first_difference}

-- The first difference of these comparisons; and where there is none, all of them agree.
pub record Compared (d : Digest) (cs : List Comparison) (found : Option Strings) : Type 0 where
  pub first : found ≡ first_difference d cs
  pub agree : found ≡ None → AllByRecursion (Agrees d) cs

-- What a snapshot stands for.
use Rattle.std.specs.Prelude.{◌≡◌, List}
use Rattle.fr_digest.specs.Digest.{Digest}
use Rattle.op_types.specs.declared.op.Leaf.{Leaf}
use Rattle.wall_law.specs.State.{opening}
use Rattle.hall_core.specs.declared.facts.WallFacts.{WallFacts}
use Rattle.hall_core.specs.declared.snapshot.Snapshot.{Snapshot}
use Rattle.hall_core.specs.Standing.{IsViewOf, items_of}

-- It stands for a list of leaves: its history has the leaves with their texts and the access list after each, its
-- opening list is the wall's first one, and its view is one of these leaves.
pub record Stands {D : Type 0} (d : Digest) (facts : WallFacts) (leaves : List Leaf) (snapshot : Snapshot D) : Type 0
  where
    pub items : snapshot.history ≡ items_of facts.owner leaves
    pub opened : snapshot.opening ≡ (opening facts.owner).entries
    pub viewed : IsViewOf d facts leaves snapshot.view
    pub f : snapshot.f ≡ facts.f

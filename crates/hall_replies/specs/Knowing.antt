-- What a client knows of a wall, beside what the wall's server keeps.
use Rattle.std.specs.Prelude.{◌≡◌}
use Rattle.check_rules.specs.declared.known.Known.{Known}
use Rattle.hall_core.specs.declared.facts.WallFacts.{WallFacts}

-- The client knows of the wall what no call changes of it.
pub record Knows (facts : WallFacts) (known : Known) : Type 0 where
  pub wall : known.wall ≡ facts.wall
  pub owner : known.owner ≡ facts.owner
  pub f : known.f ≡ facts.f
  pub server : known.server ≡ facts.server
  pub users : known.users ≡ facts.users

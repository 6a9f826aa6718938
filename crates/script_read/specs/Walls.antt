-- Walls: each an object of eight keys, with a number that none before it has.
use Rattle.std.specs.Prelude.{ℕ, List, Bool, ◌==◌, codes, Ok}
use Rattle.std.specs.List.{list_any}
use Rattle.serde_json.specs.Data.{Data}
use Rattle.script_read.specs.declared.refusal.ScriptRefusal.TheVariants.{Field}
use Rattle.script_read.specs.declared.script.ScriptWall.{ScriptWall}
use Rattle.script_read.specs.Refusal.{Checked, ◌>>=◌, refused}
use Rattle.script_read.specs.Fields.{listed, natural_within, hexadecimal, an_object, key, limited, no_further}

-- one of the walls has the number
abbrev pub has_wall : List ScriptWall → ℕ → Bool
has_wall walls n = list_any (λ w. w.wall == n) walls

unfoldable pub wall_of : List ScriptWall → Data → Checked ScriptWall
wall_of before d = do
  o ← an_object (codes "walls") d
  wall ← key (codes "wall") listed o
  fresh ← refused (Field (codes "wall")) (has_wall before wall)
  owner ← key (codes "owner") listed o
  f ← limited (codes "f") 0 31 o
  depth ← limited (codes "depth") 1 6 o
  master ← key (codes "master") (hexadecimal 32) o
  private ← key (codes "private") (hexadecimal 32) o
  id ← key (codes "id") (hexadecimal 16) o
  ots ← key (codes "ots") (natural_within 1 4) o
  only ← no_further 8 o
  Ok (record {
    wall = wall;
    owner = owner;
    f = f;
    depth = depth;
    master = master;
    private = private;
    id = id;
    ots = ots;
  })

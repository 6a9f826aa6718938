-- The numbers of a script's users and walls in rising order, and whose they are.
use Rattle.std.specs.Prelude.{◌≡◌, ℕ, ◌==◌, Bool, true, false, List, [], find, Option, unwrap_or}
use Rattle.std.specs.List.{All, Contains}
use Rattle.script_read.specs.declared.script.Script.{Script}
use Rattle.script_read.specs.declared.script.ScriptUser.{ScriptUser}
use Rattle.script_read.specs.declared.script.ScriptWall.{ScriptWall}
use Rattle.world_book.specs.Records.{Rise}

-- the user and the wall of a number, where one is listed
abbrev pub user_in : Script → ℕ → Option ScriptUser
user_in script n = find (λ (u : ScriptUser). u.user == n) script.users

abbrev pub wall_in : Script → ℕ → Option ScriptWall
wall_in script n = find (λ (w : ScriptWall). w.wall == n) script.walls

-- what stands for a user and for a wall that aren't listed
abbrev pub no_user : ScriptUser
no_user = record { user = 0; private = []; id = []; lms = 0; ots = 0; secret = []; rogue = false }

abbrev pub no_wall : ScriptWall
no_wall = record { wall = 0; owner = 0; f = 0; depth = 0; master = []; private = []; id = []; ots = 0 }

unfoldable pub the_user : Script → ℕ → ScriptUser
the_user script n = unwrap_or (user_in script n) no_user

unfoldable pub the_wall : Script → ℕ → ScriptWall
the_wall script n = unwrap_or (wall_in script n) no_wall

-- The numbers rise, each is listed, and each listed one is among them.
pub record Lists (is_listed : ℕ → Bool) (numbers : List ℕ) : Type 0 where
  pub rise : Rise numbers
  pub each : All (λ n. is_listed n ≡ true) numbers
  pub all : (n : ℕ) → is_listed n ≡ true → Contains numbers n

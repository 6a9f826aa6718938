-- The generated script of a number: eight users on two walls, the bytes of each key a digest of the
-- number.
use Rattle.std.specs.Prelude.{ℕ, List, [], ◌∷◌, ◌++◌, map, take, codes, false, ◌==◌, ◌%◌, if◌then◌else◌}
use Rattle.std.specs.List.{range_with_len}
use Rattle.std.specs.Int.{w32, to_be_bytes}
use Rattle.sha2.specs.Sha256.{sha256}
use Rattle.op_types.specs.declared.roles.TheConstants.{WRITER}
use Rattle.script_read.specs.declared.script.DigestName.TheVariants.{Sha}
use Rattle.script_read.specs.declared.script.ScriptUser.{ScriptUser}
use Rattle.script_read.specs.declared.script.ScriptWall.{ScriptWall}
use Rattle.script_read.specs.declared.script.ScriptSession.{ScriptSession}
use Rattle.script_read.specs.declared.script.Command.{Command}
use Rattle.script_read.specs.declared.script.Command.TheVariants.{Post, Read, Admit}
use Rattle.script_read.specs.declared.script.Script.{Script}
use Rattle.script_form.specs.Report.{labelled}

-- the bytes of a kind for the user or wall x
unfoldable pub seed : ℕ → ℕ → ℕ → List ℕ
seed number kind x = sha256 (48 ∷ to_be_bytes w32 number ++ kind ∷ to_be_bytes w32 x)

unfoldable pub user_made : ℕ → ℕ → ScriptUser
user_made number user = record {
  user = user;
  private = seed number 1 user;
  id = take 16 (seed number 3 user);
  lms = 6;
  ots = 3;
  secret = seed number 2 user;
  rogue = false;
}

unfoldable pub wall_made : ℕ → ℕ → ScriptWall
wall_made number wall = record {
  wall = wall;
  owner = wall;
  f = 1;
  depth = 3;
  master = seed number 4 wall;
  private = seed number 5 wall;
  id = take 16 (seed number 6 wall);
  ots = 3;
}

abbrev pub session : ℕ → List Command → ScriptSession
session user commands = record { user = user; commands = commands }

abbrev pub admit : ℕ → ℕ → Command
admit wall user = Admit wall user WRITER

-- phase 1: user 1 admits the others to wall 1, and user 2 to wall 2
unfoldable pub admissions : List ScriptSession
admissions =
    session 1 (map (admit 1) (range_with_len 2 7))
    ∷ session 2 (admit 2 1 ∷ map (admit 2) (range_with_len 3 6))
    ∷ []

-- phases 2 and 28: each user reads both walls
unfoldable pub look : ℕ → ScriptSession
look user = session user (Read 1 ∷ Read 2 ∷ [])

unfoldable pub looking : List ScriptSession
looking = map look (range_with_len 1 8)

-- phases 3 to 27: each user posts on wall 1, on wall 2, and once more on wall 1 in an odd phase and on
-- wall 2 in an even one
unfoldable pub post_text : ℕ → ℕ → ℕ → List ℕ
post_text phase user i = labelled (codes "n") phase ++ labelled (codes " u") user ++ labelled (codes " i") i

abbrev pub post : ℕ → ℕ → ℕ → ℕ → Command
post phase user i wall = Post wall (post_text phase user i)

abbrev pub once_more : ℕ → ℕ
once_more phase = if phase % 2 == 1 then 1 else 2

unfoldable pub posts : ℕ → ℕ → ScriptSession
posts phase user = session user (post phase user 1 1 ∷ post phase user 2 2 ∷ post phase user 3 (once_more phase) ∷ [])

unfoldable pub posting : ℕ → List ScriptSession
posting phase = map (posts phase) (range_with_len 1 8)

unfoldable pub generated_phases : List (List ScriptSession)
generated_phases = admissions ∷ looking ∷ map posting (range_with_len 3 25) ++ looking ∷ []

unfoldable pub generated_of : ℕ → Script
generated_of number = record {
  digest = Sha;
  users = map (user_made number) (range_with_len 1 8);
  walls = map (wall_made number) (range_with_len 1 2);
  phases = generated_phases;
  tamper = [];
}

-- The tasks of a script: their sessions have wires, and their users and walls are listed.
use Rattle.std.proofs.Common.{ℕ, ◌+◌, ◌≤◌, List, [], ◌∷◌, length, arith}
use Rattle.std.specs.List.{All, AllByRecursion}
use Rattle.std.proofs.lemmas.List.Elements.{recursion_from_All}
use Rattle.fr_bytes.proofs.Lists.{each-append}
use Rattle.script_read.specs.declared.script.Command.{Command}
use Rattle.script_read.specs.declared.script.Command.TheVariants as commands
use Rattle.script_read.specs.declared.script.Script.{Script}
use Rattle.script_read.specs.declared.script.ScriptSession.{ScriptSession}
use Rattle.script_read.specs.Limits.{IsListed, IsListedSession, IsListedUser, IsListedWall, IsPhase, IsScript}
use Rattle.script_read.specs.Users.{has_user}
use Rattle.script_read.specs.Walls.{has_wall}
use Rattle.session_laws.specs.Doing.{Task, wall_of}
use Rattle.session_laws.specs.Doing as doing
use Rattle.session_laws.specs.Histories.{IsUser}
use Rattle.run_phases.specs.Tasks.{tasks_from, tasks_in}
use Rattle.run_start.specs.Numbers.{Lists}
use Rattle.run_script.proofs.Halls.{contained}
use Rattle.run_laws.specs.Listed.{AdmitsUsers}

-- A task of one of sixteen sessions, of a listed user, on a listed wall, that admits none but listed users.
pub record IsDoable (users walls : List ℕ) (task : Task) : Type 0 where
  pub first : 1 ≤ task.place.session
  pub last : task.place.session ≤ 16
  pub user : IsUser users task.user
  pub admits : AdmitsUsers users task.command
  pub wall : IsUser walls (wall_of task.command)

module _ (s : Script) (users walls : List ℕ) (all_users : Lists (has_user s.users) users)
    (all_walls : Lists (has_wall s.walls) walls) where
  user-there : (n : ℕ) → IsListedUser s n → IsUser users n
  user-there n listed = contained users n (all_users.all n listed)

  wall-there : (n : ℕ) → IsListedWall s n → IsUser walls n
  wall-there n listed = contained walls n (all_walls.all n listed)

  admits-listed : (c : Command) → IsListed s c → AdmitsUsers users c
  admits-listed (commands.Post wall text) listed = tt
  admits-listed (commands.Read wall) listed = tt
  admits-listed (commands.ReadAll wall) listed = tt
  admits-listed (commands.Admit wall user role) listed = user-there user listed.1
  admits-listed (commands.Remove wall user) listed = tt

  asks-listed : (c : Command) → IsListed s c → IsUser walls (wall_of c)
  asks-listed (commands.Post wall text) listed = wall-there wall listed
  asks-listed (commands.Read wall) listed = wall-there wall listed
  asks-listed (commands.ReadAll wall) listed = wall-there wall listed
  asks-listed (commands.Admit wall user role) listed = wall-there wall listed.0
  asks-listed (commands.Remove wall user) listed = wall-there wall listed.0

  session-tasks : (phase session user n : ℕ) (cs : List Command) → 1 ≤ session → session ≤ 16 → IsUser users user
      → AllByRecursion (IsListed s) cs → AllByRecursion (IsDoable users walls) (doing.tasks_from phase session user n cs)
  session-tasks phase session user n [] one few known listed = tt
  session-tasks phase session user n (c ∷ cs) one few known listed = (
    record {
      first = one;
      last = few;
      user = known;
      admits = admits-listed c listed.0;
      wall = asks-listed c listed.0;
    },
    session-tasks phase session user (n + 1) cs one few known listed.1,
  )

  phase-tasks : (phase number : ℕ) (ss : List ScriptSession) → 1 ≤ number → number + length ss ≤ 17
      → AllByRecursion (IsListedSession s) ss → AllByRecursion (IsDoable users walls) (tasks_in phase number ss)
  phase-tasks phase number [] one few listed = tt
  phase-tasks phase number (x ∷ ss) one few listed =
      each-append (IsDoable users walls) (doing.tasks_of phase number x.user x.commands)
      (tasks_in phase (number + 1) ss)
      (session-tasks phase number x.user 1 x.commands one (omega (few, arith)) (user-there x.user listed.0.user)
      (recursion_from_All (IsListed s) x.commands listed.0.commands))
      (phase-tasks phase (number + 1) ss (omega (one, arith)) (omega (few, arith)) listed.1)

  phases-tasks : (phase : ℕ) (ps : List (List ScriptSession)) → AllByRecursion IsPhase ps
      → AllByRecursion (All (IsListedSession s)) ps → AllByRecursion (IsDoable users walls) (tasks_from phase ps)
  phases-tasks phase [] few listed = tt
  phases-tasks phase (p ∷ ps) few listed =
      let most = few.0.few in
      each-append (IsDoable users walls) (tasks_in phase 1 p) (tasks_from (phase + 1) ps)
      (phase-tasks phase 1 p (omega arith) (omega (most, arith)) (recursion_from_All (IsListedSession s) p listed.0))
      (phases-tasks (phase + 1) ps few.1 listed.1)

  pub script-tasks : IsScript s → AllByRecursion (IsDoable users walls) (tasks_from 1 s.phases)
  script-tasks is =
      phases-tasks 1 s.phases (recursion_from_All IsPhase s.phases is.phases.all)
      (recursion_from_All (All (IsListedSession s)) s.phases is.sessions)

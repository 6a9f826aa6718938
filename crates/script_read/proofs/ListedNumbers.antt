-- Listed numbers, and users who sign no more than they can.
use Rattle.std.proofs.Common.{◌≡◌, ℕ, ◌≤◌, cond, false, not, min, List, [], ◌∷◌, fold, Option, Some, None, refl, inl, inr}
use Rattle.std.specs.Prelude.{⊤}
use Rattle.std.specs.List.{All, AllByRecursion}
use Rattle.std.proofs.lemmas.Bool.{ltb-false, not-false, cases_Bool}
use Rattle.std.proofs.lemmas.List.Elements.{All-from_recursion}
use Rattle.script_read.specs.declared.refusal.Listed.TheVariants.{User, Wall}
use Rattle.script_read.specs.declared.refusal.ScriptRefusal.TheVariants.{Unknown, TooManyWrites}
use Rattle.script_read.specs.declared.script.Command.{Command}
use Rattle.script_read.specs.declared.script.Command.TheVariants.{Post, Read, ReadAll, Admit, Remove}
use Rattle.script_read.specs.declared.script.TamperLine.{TamperLine}
use Rattle.script_read.specs.declared.script.TamperLine.TheVariants as lines
use Rattle.script_read.specs.declared.script.ScriptUser.{ScriptUser}
use Rattle.script_read.specs.declared.script.ScriptWall.{ScriptWall}
use Rattle.script_read.specs.declared.script.ScriptSession.{ScriptSession}
use Rattle.script_read.specs.declared.script.Script.{Script}
use Rattle.script_read.specs.Refusal.{Checked}
use Rattle.script_read.specs.Elements.{every}
use Rattle.script_read.specs.Users.{has_user}
use Rattle.script_read.specs.Walls.{has_wall}
use Rattle.script_read.specs.Known.{user_known, wall_known, both_known, command_known, session_known, serve_known, line_known, owner_known, all_known}
use Rattle.script_read.specs.Writes.{signatures, writes, overspends, lower, overspender, no_overspender, signs_enough}
use Rattle.script_read.specs.Limits.{IsListedUser, IsListedWall, IsListed, IsListedSession, IsListedLine}
use Rattle.script_read.proofs.Holding.{Holds, gives, refuses, after, weaker, refused_holds, every_holds}

-- ---- listed numbers

user_holds : (s : Script) (n : ℕ) → Holds (λ (u : ⊤). IsListedUser s n) (user_known s n)
user_holds s n =
    weaker (user_known s n) (refused_holds (Unknown User n) (not (has_user s.users n)))
    (λ u e. not-false (has_user s.users n) e)

wall_holds : (s : Script) (n : ℕ) → Holds (λ (u : ⊤). IsListedWall s n) (wall_known s n)
wall_holds s n =
    weaker (wall_known s n) (refused_holds (Unknown Wall n) (not (has_wall s.walls n)))
    (λ u e. not-false (has_wall s.walls n) e)

both_hold : (s : Script) (wall user : ℕ)
    → Holds (λ (u : ⊤). IsListedWall s wall × IsListedUser s user) (both_known s wall user)
unfolding both_known
both_hold s wall user =
    after (wall_known s wall) (wall_holds s wall) (λ u listed.
    weaker (user_known s user) (user_holds s user) (λ v known. (listed, known)))

command_holds : (s : Script) (c : Command) → Holds (λ (u : ⊤). IsListed s c) (command_known s c)
unfolding command_known
command_holds s (Post wall text) = wall_holds s wall
command_holds s (Read wall) = wall_holds s wall
command_holds s (ReadAll wall) = wall_holds s wall
command_holds s (Admit wall user role) = both_hold s wall user
command_holds s (Remove wall user) = both_hold s wall user

-- each element of a list passes
all_hold : {A : Type 0} (one : A → Checked ⊤) (P : A → Type 0) → ((x : A) → Holds (λ (u : ⊤). P x) (one x))
    → (xs : List A) → Holds (λ (u : ⊤). All P xs) (every one xs)
all_hold one P h xs = weaker (every one xs) (every_holds one P h xs) (λ u r. All-from_recursion P xs r)

session_holds : (s : Script) (session : ScriptSession)
    → Holds (λ (u : ⊤). IsListedSession s session) (session_known s session)
unfolding session_known
session_holds s session =
    after (user_known s session.user) (user_holds s session.user) (λ u listed.
    weaker (every (command_known s) session.commands)
    (all_hold (command_known s) (IsListed s) (command_holds s) session.commands)
    (λ v known. record { user = listed; commands = known }))

owner_holds : (s : Script) (w : ScriptWall) → Holds (λ (u : ⊤). IsListedUser s w.owner) (owner_known s w)
unfolding owner_known
owner_holds s w = user_holds s w.owner

serve_holds : (s : Script) (wall : ℕ) (users : List ℕ)
    → Holds (λ (u : ⊤). IsListedWall s wall × All (IsListedUser s) users) (serve_known s wall users)
unfolding serve_known
serve_holds s wall users =
    after (wall_known s wall) (wall_holds s wall) (λ u listed.
    weaker (every (user_known s) users) (all_hold (user_known s) (IsListedUser s) (user_holds s) users)
    (λ v known. (listed, known)))

line_holds : (s : Script) (line : TamperLine) → Holds (λ (u : ⊤). IsListedLine s line) (line_known s line)
unfolding line_known
line_holds s (lines.Flip phase session command byte mask) = gives (λ (u : ⊤). ⊤) tt tt
line_holds s (lines.Cut phase session command keep) = gives (λ (u : ⊤). ⊤) tt tt
line_holds s (lines.Add phase session command bytes) = gives (λ (u : ⊤). ⊤) tt tt
line_holds s (lines.From phase session command from) = gives (λ (u : ⊤). ⊤) tt tt
line_holds s (lines.Branch phase wall name of size) = wall_holds s wall
line_holds s (lines.Serve phase wall branch users) = serve_holds s wall users
line_holds s (lines.Forge phase wall branch author seq epoch view body) = both_hold s wall author
line_holds s (lines.Replay phase wall branch of position) = wall_holds s wall
line_holds s (lines.Twin phase wall branch position) = wall_holds s wall

-- the owners, the phases and the tamper lines
abbrev pub AreKnown : Script → Type 0
AreKnown s = All (λ w. IsListedUser s w.owner) s.walls × All (All (IsListedSession s)) s.phases
    × All (IsListedLine s) s.tamper

pub known_holds : (s : Script) → Holds (λ (u : ⊤). AreKnown s) (all_known s)
unfolding all_known
known_holds s =
    after (every (owner_known s) s.walls)
    (all_hold (owner_known s) (λ w. IsListedUser s w.owner) (owner_holds s) s.walls) (λ u owners.
    after (every (every (session_known s)) s.phases)
    (all_hold (every (session_known s)) (All (IsListedSession s))
    (all_hold (session_known s) (IsListedSession s) (session_holds s)) s.phases) (λ v phases.
    weaker (every (line_known s) s.tamper) (all_hold (line_known s) (IsListedLine s) (line_holds s) s.tamper)
    (λ w listed. (owners, phases, listed))))

-- ---- signatures

module _ (s : Script) where
  abbrev spender : Option ℕ → ScriptUser → Option ℕ
  spender least u = cond (overspends s u) (lower least u.user) least

  -- where somebody overspends, somebody does at the end
  stays : (m : ℕ) (users : List ScriptUser) → fold spender (Some m) users ≡ None → ⊥
  stays m [] e = cc
  stays m (u ∷ users) e = elim (cases_Bool (overspends s u)) [
    | inl t ↦ stays (min m u.user) users (rw t at e)
    | inr f ↦ stays m users (rw f at e)
  ]

  enough : (u : ScriptUser) → overspends s u ≡ false → writes s u.user ≤ signatures u.lms
  unfolding overspends
  enough u e = ltb-false (signatures u.lms) (writes s u.user) e

  nobody : (users : List ScriptUser) → fold spender None users ≡ None
      → AllByRecursion (λ u. writes s u.user ≤ signatures u.lms) users
  nobody [] e = tt
  nobody (u ∷ users) e = elim (cases_Bool (overspends s u)) [
    | inl t ↦ absurd (stays u.user users (rw t at e))
    | inr f ↦ (enough u f, nobody users (rw f at e))
  ]

abbrev pub AreSigned : Script → Type 0
AreSigned s = All (λ u. writes s u.user ≤ signatures u.lms) s.users

signs_by : (s : Script) (least : Option ℕ) → overspender s ≡ least
    → Holds (λ (u : ⊤). AreSigned s) (no_overspender least)
unfolding overspender
signs_by s None e =
    gives (λ (u : ⊤). AreSigned s) tt
    (All-from_recursion (λ u. writes s u.user ≤ signatures u.lms) s.users (nobody s s.users e))
signs_by s (Some user) e = refuses (λ (u : ⊤). AreSigned s) (TooManyWrites user)

pub signed_holds : (s : Script) → Holds (λ (u : ⊤). AreSigned s) (signs_enough s)
unfolding signs_enough
signed_holds s = signs_by s (overspender s) refl

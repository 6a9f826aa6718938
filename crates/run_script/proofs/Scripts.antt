-- The phases of a script can be asked of the script's walls for the script's users.
use Rattle.std.proofs.Common.{◌≡◌, ◌∙◌, ℕ, zero, suc, ◌+◌, ◌<◌, ◌≤◌, Bool, true, false, cond, List, [], ◌∷◌, ◌++◌, length, map, refl, sym, ap, subst, inl, inr, eq-eqb, ne_eqb, arith}
use Rattle.std.specs.Prelude.{nat_eq, filter, count_by, sum_by, ◌==◌}
use Rattle.std.specs.List.{All, AllByRecursion, Contains, IsDistinct}
use Rattle.std.proofs.lemmas.Bool.{cases_eq, true≢false}
use Rattle.std.proofs.lemmas.List.Elements.{recursion_from_All}
use Rattle.std.proofs.lemmas.List.Sums.{length-filter, sum_by-cons}
use Rattle.std.proofs.lemmas.Map.Keys.{IsDistinct-head, IsDistinct-tail}
use Rattle.op_types.specs.Roles.{may_be_given}
use Rattle.script_read.specs.declared.script.Command.{Command}
use Rattle.script_read.specs.declared.script.Command.TheVariants as commands
use Rattle.script_read.specs.declared.script.Script.{Script}
use Rattle.script_read.specs.declared.script.ScriptSession.{ScriptSession}
use Rattle.script_read.specs.Limits.{HasRanges, IsListed, IsListedSession, IsListedUser, IsListedWall, IsScript, commands_in, same_session}
use Rattle.script_read.specs.Limits as limits
use Rattle.script_read.specs.Users.{has_user}
use Rattle.script_read.specs.Walls.{has_wall}
use Rattle.session_laws.specs.Doing.{wall_of}
use Rattle.session_laws.specs.Readiness.{IsAskable}
use Rattle.session_run.specs.Phases.{IsAsked}
use Rattle.run_phases.specs.Members.{times}
use Rattle.run_phases.specs.Phases.{IsPhase, IsSession}
use Rattle.run_phases.proofs.Tallies.{times-here, times-more, times-other}
use Rattle.run_start.specs.Numbers.{Lists}
use Rattle.run_script.proofs.Numbers.{listed-once}

-- ---- commands

given : (role : ℕ) → limits.IsRole role → may_be_given role ≡ true
given zero within = absurd (omega (within.0, arith))
given (suc zero) within = refl
given (suc (suc zero)) within = refl
given (suc (suc (suc role))) within = absurd (omega (within.1, arith))

askable : (c : Command) → HasRanges c → IsAskable c
askable (commands.Post wall text) ranges = ranges.1.0
askable (commands.Read wall) ranges = tt
askable (commands.ReadAll wall) ranges = tt
askable (commands.Admit wall user role) ranges = given role ranges.2
askable (commands.Remove wall user) ranges = tt

listed-wall : (s : Script) (c : Command) → IsListed s c → IsListedWall s (wall_of c)
listed-wall s (commands.Post wall text) listed = listed
listed-wall s (commands.Read wall) listed = listed
listed-wall s (commands.ReadAll wall) listed = listed
listed-wall s (commands.Admit wall user role) listed = listed.0
listed-wall s (commands.Remove wall user) listed = listed.0

module _ (s : Script) (users walls : List ℕ) (all_users : Lists (has_user s.users) users)
    (all_walls : Lists (has_wall s.walls) walls) where
  asked : (cs : List Command) → AllByRecursion HasRanges cs → AllByRecursion (IsListed s) cs
      → AllByRecursion (IsAsked walls) cs
  asked [] ranges listed = tt
  asked (c ∷ cs) ranges listed = (
    record {
      askable = askable c ranges.0;
      listed = all_walls.all (wall_of c) (listed-wall s c listed.0);
    },
    asked cs ranges.1 listed.1,
  )

  session-of : (x : ScriptSession) → limits.IsSession x → IsListedSession s x → length x.commands ≤ 2048
      → IsSession walls users x
  session-of x is listed few = record {
    known = listed-once (has_user s.users) users all_users x.user listed.user;
    few = few;
    asked = asked x.commands (recursion_from_All HasRanges x.commands is.commands)
        (recursion_from_All (IsListed s) x.commands listed.commands);
  }

  sessions-of : (xs : List ScriptSession) → AllByRecursion limits.IsSession xs → AllByRecursion (IsListedSession s) xs
      → commands_in xs ≤ 2048 → AllByRecursion (IsSession walls users) xs
  sessions-of [] is listed room = tt
  sessions-of (x ∷ xs) is listed room =
      let sum = sum_by-cons (λ (y : ScriptSession). length y.commands) x xs in (
        session-of x is.0 listed.0 (omega (sum, room, arith)),
        sessions-of xs is.1 listed.1 (omega (sum, room, arith)),
      )

  none-of : (user : ℕ) (x : ScriptSession) (xs : List ScriptSession)
      → AllByRecursion (λ (y : ScriptSession). same_session x y ≡ false) xs → x.user ≡ user
      → times user (map (λ (y : ScriptSession). y.user) xs) ≡ 0
  none-of user x [] apart is = refl
  none-of user x (y ∷ ys) apart is =
      let users' = map (λ (z : ScriptSession). z.user) ys in
      let no : nat_eq x.user y.user ≡ false = apart.0 in
      let other = times-other user y.user
      (λ that. absurd (true≢false (sym (eq-eqb x.user y.user (is ∙ sym that)) ∙ no))) in
      let more = times-more user y.user users' in
      let rest = none-of user x ys apart.1 is in
      omega (other, more, rest, arith)

  apart-of : (user : ℕ) (xs : List ScriptSession) → IsDistinct same_session xs
      → times user (map (λ (y : ScriptSession). y.user) xs) ≤ 1
  apart-of user [] distinct = omega arith
  apart-of user (x ∷ xs) distinct =
      let users' = map (λ (z : ScriptSession). z.user) xs in
      let more = times-more user x.user users' in
      elim (cases_eq x.user user) [
        | inl is ↦
            let here = times-here user x.user is in
            let none = none-of user x xs (IsDistinct-head same_session x xs distinct) is in
            omega (more, here, none, arith)
        | inr ne ↦
            let other = times-other user x.user ne in
            let rest = apart-of user xs (IsDistinct-tail same_session x xs distinct) in
            omega (more, other, rest, arith)
      ]

  phase-of : (xs : List ScriptSession) → limits.IsPhase xs → All (IsListedSession s) xs → commands_in xs ≤ 2048
      → IsPhase walls users xs
  phase-of xs is listed room = record {
    few = is.few;
    each = sessions-of xs (recursion_from_All limits.IsSession xs is.all)
        (recursion_from_All (IsListedSession s) xs listed) room;
    apart = λ user. apart-of user xs is.distinct;
  }

  phases-of : (phases : List (List ScriptSession)) → AllByRecursion limits.IsPhase phases
      → AllByRecursion (λ (xs : List ScriptSession). All (IsListedSession s) xs) phases
      → sum_by commands_in phases ≤ 2048 → AllByRecursion (IsPhase walls users) phases
  phases-of [] is listed room = tt
  phases-of (xs ∷ phases) is listed room =
      let sum = sum_by-cons commands_in xs phases in (
        phase-of xs is.0 listed.0 (omega (sum, room, arith)),
        phases-of phases is.1 listed.1 (omega (sum, room, arith)),
      )

  pub script-phases : IsScript s → AllByRecursion (IsPhase walls users) s.phases
  script-phases is =
      phases-of s.phases (recursion_from_All limits.IsPhase s.phases is.phases.all)
      (recursion_from_All (λ (xs : List ScriptSession). All (IsListedSession s) xs) s.phases is.sessions) is.phases.room

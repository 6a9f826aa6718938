-- The lanes of a phase can run.
use Rattle.std.proofs.Common.{◌≡◌, ◌∙◌, ℕ, ◌+◌, ◌≤◌, Bool, cond, List, [], ◌∷◌, ◌++◌, map, refl, sym, ap, subst, append_assoc, eq-eqb, ne_eqb, arith}
use Rattle.std.specs.Prelude.{length, nat_eq}
use Rattle.std.specs.List.{AllByRecursion, AllZip}
use Rattle.std.proofs.lemmas.List.{append-nil, map-append}
use Rattle.fr_digest.specs.Digest.{Digest}
use Rattle.hall_server.specs.declared.server.Server.{Server}
use Rattle.hall_server.specs.Seating.{walls_of}
use Rattle.hall_server.specs.Sights.{user_of}
use Rattle.script_read.specs.declared.script.Command.{Command}
use Rattle.script_read.specs.declared.script.ScriptSession.{ScriptSession}
use Rattle.session_laws.specs.Doing.{PlainClient}
use Rattle.session_laws.specs.Readiness.{CanDo}
use Rattle.session_run.specs.declared.lane.Lane.{Lane}
use Rattle.session_run.specs.Phases.{IsAsked, IsReady}
use Rattle.session_run.specs.Views.{client_of}
use Rattle.run_phases.specs.Members.{Member, member_at, times, users_of}
use Rattle.run_phases.specs.Phases.{IsLaneOf, IsSession, lane_member}
use Rattle.run_phases.specs.Tasks.{commands_in}
use Rattle.run_phases.proofs.Tallies.{at-here, none-ahead, tally-more, times-append, times-here, times-more}

-- ---- a user's commands

abbrev pub session_users : List ScriptSession → List ℕ
session_users sessions = map (λ (s : ScriptSession). s.user) sessions

pub commands-append : (user : ℕ) (xs ys : List ScriptSession)
    → commands_in user (xs ++ ys) ≡ commands_in user xs ++ commands_in user ys
commands-append user [] ys = refl
commands-append user (x ∷ xs) ys =
    ap (λ (l : List Command). cond (nat_eq x.user user) x.commands [] ++ l) (commands-append user xs ys)
    ∙ sym (append_assoc (cond (nat_eq x.user user) x.commands []) (commands_in user xs) (commands_in user ys))

pub commands-none : (user : ℕ) (sessions : List ScriptSession) → times user (session_users sessions) ≡ 0
    → commands_in user sessions ≡ []
commands-none user [] none = refl
commands-none user (s ∷ sessions) none =
    let ahead = none-ahead user s.user (session_users sessions) none in
    ap (λ (b : Bool). cond b s.commands [] ++ commands_in user sessions) (ne_eqb s.user user ahead.0)
    ∙ commands-none user sessions ahead.1

commands-here : (xs : List ScriptSession) (s : ScriptSession) (ys : List ScriptSession)
    → times s.user (session_users (xs ++ s ∷ ys)) ≤ 1 → commands_in s.user (xs ++ s ∷ ys) ≡ s.commands
commands-here xs s ys most =
    let u = s.user in
    let cut : times u (session_users (xs ++ s ∷ ys)) ≡ times u (session_users xs) + times u (u ∷ session_users ys) =
    ap (times u) (map-append (λ (t : ScriptSession). t.user) xs (s ∷ ys))
    ∙ times-append u (session_users xs) (u ∷ session_users ys) in
    let more = times-more u u (session_users ys) in
    let one = times-here u u refl in
    let front : times u (session_users xs) ≡ 0 = omega arith in
    let back : times u (session_users ys) ≡ 0 = omega arith in
    commands-append u xs (s ∷ ys)
    ∙ ap (λ (l : List Command). l ++ commands_in u (s ∷ ys)) (commands-none u xs front)
    ∙ ap (λ (b : Bool). cond b s.commands [] ++ commands_in u ys) (eq-eqb u u refl)
    ∙ ap (λ (l : List Command). s.commands ++ l) (commands-none u ys back) ∙ append-nil s.commands

pub commands-own : (whole xs ss : List ScriptSession) → xs ++ ss ≡ whole
    → ((u : ℕ) → times u (session_users whole) ≤ 1)
    → AllByRecursion (λ (s : ScriptSession). commands_in s.user whole ≡ s.commands) ss
commands-own whole xs [] is once = tt
commands-own whole xs (s ∷ ss) is once = (
  ap (commands_in s.user) (sym is) ∙ commands-here xs s ss (subst (λ (l : List ScriptSession). times s.user
      (session_users l) ≤ 1) (sym is) (once s.user)),
  commands-own whole (xs ++ s ∷ []) ss (append_assoc xs (s ∷ []) ss ∙ is) once,
)

module _ {D W : Type 0} (d : Digest) (server : Server D) where
  -- ---- a lane's user

  pub lanes-found : (whole xs : List Member) (lanes : List (Lane D W))
      → xs ++ map (λ (l : Lane D W). lane_member l) lanes ≡ whole → ((u : ℕ) → times u (users_of whole) ≤ 1)
      → AllByRecursion (λ (l : Lane D W). member_at (user_of l.session.seats) whole ≡ lane_member l) lanes
  lanes-found whole xs [] is once = tt
  lanes-found whole xs (l ∷ ls) is once =
      let m = lane_member l in
      let rest = map (λ (x : Lane D W). lane_member x) ls in
      let u = user_of l.session.seats in
      let same : times u (users_of (xs ++ m ∷ rest)) ≡ times u (users_of whole) =
      ap (λ (x : List Member). times u (users_of x)) is in
      let most = once u in
      let sum = tally-more u xs m rest in
      let one = times-here u u refl in
      let none : times u (users_of xs) ≡ 0 = omega arith in (
        ap (member_at u) (sym is) ∙ at-here u m xs rest none refl,
        lanes-found whole (xs ++ m ∷ []) ls (append_assoc xs (m ∷ []) rest ∙ is) once,
      )

  -- ---- lanes

  pub lanes-ready : (before : List Member) (users : List ℕ) (whole sessions : List ScriptSession)
      (lanes : List (Lane D W)) → AllZip (IsLaneOf d server) sessions lanes
      → AllByRecursion (IsSession (walls_of server) users) sessions
      → AllByRecursion (λ (l : Lane D W). member_at (user_of l.session.seats) before ≡ lane_member l) lanes
      → AllByRecursion (λ (s : ScriptSession). commands_in s.user whole ≡ s.commands) sessions
      → ((user : ℕ) → times user users ≡ 1 → CanDo (member_at user before).client (commands_in user whole))
      → AllByRecursion (IsReady d server) lanes
  lanes-ready before users whole [] [] each known found own can = tt
  lanes-ready before users whole [] (l ∷ ls) each known found own can = absurd each
  lanes-ready before users whole (s ∷ ss) [] each known found own can = absurd each
  lanes-ready before users whole (s ∷ ss) (l ∷ ls) each known found own can =
      let is = each.0 in
      let at : (member_at s.user before).client ≡ client_of l.session.client =
      ap (λ (u : ℕ). (member_at u before).client) (sym is.user_is) ∙ ap (λ (m : Member). m.client) found.0 in
      let commands : commands_in s.user whole ≡ l.session.commands = own.0 ∙ sym is.commands in (
        record {
          seats = is.seats;
          user = is.user;
          few = subst (λ (cs : List Command). length cs ≤ 2048) (sym is.commands) known.0.few;
          asked = subst (AllByRecursion (IsAsked (walls_of server))) (sym is.commands) known.0.asked;
          can =
              subst (CanDo (client_of l.session.client)) commands
              (subst (λ (c : PlainClient). CanDo c (commands_in s.user whole)) at (can s.user known.0.known));
          outcomes = is.outcomes;
          whole = is.whole;
        },
        lanes-ready before users whole ss ls each.1 known.1 found.1 own.1 can,
      )

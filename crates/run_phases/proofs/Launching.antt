-- The lanes that a phase's sessions got can run.
use Rattle.std.proofs.Common.{◌≡◌, ◌∙◌, ℕ, ◌≤◌, List, [], ◌∷◌, ◌++◌, length, map, refl, sym, ap, subst, arith}
use Rattle.std.specs.List.{All, AllByRecursion, AllZip}
use Rattle.std.proofs.lemmas.List.Elements.{All-from_recursion}
use Rattle.std.proofs.lemmas.Slice.Zip.{AllZip-long}
use Rattle.fr_digest.specs.Digest.{Digest}
use Rattle.hall_server.specs.declared.server.Server.{Server}
use Rattle.hall_server.specs.Seating.{walls_of}
use Rattle.hall_server.specs.Sights.{user_of}
use Rattle.script_read.specs.declared.script.ScriptSession.{ScriptSession}
use Rattle.session_laws.specs.Readiness.{CanDo}
use Rattle.session_run.specs.declared.lane.Lane.{Lane}
use Rattle.session_run.specs.Phases.{IsReady}
use Rattle.run_phases.specs.declared.running.Running.{Running}
use Rattle.run_phases.specs.Members.{Member, member_at, times, users_of}
use Rattle.run_phases.specs.Phases.{AreMembers, Entered, IsLaneOf, IsPhase, lane_member, members_of}
use Rattle.run_phases.specs.Tasks.{commands_in}
use Rattle.run_phases.proofs.Boarding.{even-of, users-members}
use Rattle.run_phases.proofs.Readying.{commands-own, lanes-found, lanes-ready}

pub each-so : {A : Type 0} (P Q : A → Type 0) (xs : List A) → ((x : A) → P x → Q x) → AllByRecursion P xs → AllByRecursion Q xs
each-so P Q [] so all = tt
each-so P Q (x ∷ xs) so all = (so x all.0, each-so P Q xs so all.1)

-- no two members are the same user's
pub once-before : {D W : Type 0} (d : Digest) (server : Server D) (run : Running D W)
    → AreMembers d server run.clients.items run.seats.items → (user : ℕ) → times user (users_of (members_of run)) ≤ 1
once-before d server run are user =
    subst (λ (l : List ℕ). times user l ≤ 1)
    (sym (users-members run.clients.items run.seats.items (even-of run.clients.items run.seats.items are.same)))
    (are.once user)

module _ {D W : Type 0} (d : Digest) (server : Server D) (sessions : List ScriptSession) (before mid : Running D W)
    (lanes : List (Lane D W)) (are : AreMembers d server before.clients.items before.seats.items)
    (e : Entered d server sessions before mid lanes)
    (p : IsPhase (walls_of server) (map user_of before.seats.items) sessions) where
  pub few-lanes : length lanes ≤ 16
  few-lanes =
      let long : length lanes ≡ length sessions = AllZip-long (IsLaneOf d server) sessions lanes e.each in
      let few = p.few in
      omega (long, few, arith)

  pub all-ready : ((user : ℕ) → times user (map user_of before.seats.items) ≡ 1
      → CanDo (member_at user (members_of before)).client (commands_in user sessions)) → All (IsReady d server) lanes
  all-ready can =
      let gone = map (λ (l : Lane D W). lane_member l) lanes in
      let whole = members_of mid ++ gone in
      let once = λ (u : ℕ). let le : times u (users_of whole) ≤ 1 =
      subst (λ (n : ℕ). n ≤ 1) (e.moved.counted u) (once-before d server before are u) in le in
      let found = each-so
      (λ (l : Lane D W). member_at (user_of l.session.seats) whole ≡ lane_member l)
      (λ (l : Lane D W). member_at (user_of l.session.seats) (members_of before) ≡ lane_member l) lanes
      (λ l at. e.moved.same (user_of l.session.seats) ∙ at)
      (lanes-found d server whole (members_of mid) lanes refl once) in
      All-from_recursion (IsReady d server) lanes
      (lanes-ready d server (members_of before) (map user_of before.seats.items) sessions sessions lanes e.each p.each
      found (commands-own sessions [] sessions refl p.apart) can)

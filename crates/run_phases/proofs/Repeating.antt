-- The next phase of a script can be played, and what it leaves is a script's with one phase more.
use Rattle.std.proofs.Common.{◌≡◌, ◌∙◌, ℕ, suc, ◌+◌, ◌<◌, ◌≤◌, Bool, true, false, cond, List, [], ◌∷◌, ◌++◌, length, get_or, take, drop, map, refl, sym, ap, subst, arith, inl, inr}
use Rattle.std.proofs.lemmas.List.{drop_more}
use Rattle.std.specs.List.{AllByRecursion}
use Rattle.fr_digest.specs.Digest.{Digest}
use Rattle.fr_edges.specs.Wire.{WireView}
use Rattle.op_types.specs.declared.limits.TheConstants.{SEQ_MAX}
use Rattle.client_core.specs.Sides.{SideView, side_of}
use Rattle.hall_server.specs.declared.server.Server.{Server}
use Rattle.hall_server.specs.Seating.{walls_of}
use Rattle.hall_server.specs.Sights.{user_of}
use Rattle.script_read.specs.declared.script.Command.{Command}
use Rattle.script_read.specs.declared.script.ScriptSession.{ScriptSession}
use Rattle.session_laws.specs.Doing.{Heard, PlainClient, last, stream, wall_of}
use Rattle.session_laws.specs.Histories.{IsUser}
use Rattle.session_laws.specs.Readiness.{CanDo, IsFound, write_of, writes}
use Rattle.run_phases.specs.declared.running.Running.{Running}
use Rattle.run_phases.specs.Members.{member_at, times}
use Rattle.run_phases.specs.Phases.{AreMembers, CanPlay, IsPhase, IsSession, KeepsUsers, Played, PlayedPhase, members_of, run_view}
use Rattle.run_phases.specs.Tasks.{commands_in, commands_of, tasks_in}
use Rattle.run_phases.proofs.Embarking.{take-long, take-more}
use Rattle.run_phases.proofs.Phasing.{played-more}
use Rattle.run_phases.proofs.Staying.{can-last, stream-commands}

-- ---- phases by a place

pub next-phases : (phases items : List (List ScriptSession)) (i : ℕ) (s t : List ScriptSession) → items ≡ phases
    → i < length items → s ≡ get_or items i s → t ≡ s → drop i phases ≡ t ∷ drop (i + 1) phases
next-phases phases items i s t same lt is this =
    let there : s ≡ get_or phases i s = subst (λ (l : List (List ScriptSession)). s ≡ get_or l i s) same is in
    let below : i < length phases = subst (λ (l : List (List ScriptSession)). i < length l) same lt in
    drop_more phases i s below ∙ ap (λ (x : List ScriptSession). x ∷ drop (i + 1) phases) (sym there ∙ sym this)

pub longer-phases : (phases items : List (List ScriptSession)) (i : ℕ) (s t : List ScriptSession) → items ≡ phases
    → i < length items → s ≡ get_or items i s → t ≡ s → take (i + 1) phases ≡ take i phases ++ t ∷ []
longer-phases phases items i s t same lt is this =
    let there : s ≡ get_or phases i s = subst (λ (l : List (List ScriptSession)). s ≡ get_or l i s) same is in
    let below : i < length phases = subst (λ (l : List (List ScriptSession)). i < length l) same lt in
    take-more phases i s below there ∙ ap (λ (x : List ScriptSession). take i phases ++ x ∷ []) (sym this)

pub number-at : (phases items : List (List ScriptSession)) (i number : ℕ) → items ≡ phases → i < length items
    → number ≡ i + 1 → number ≡ 1 + length (take i phases)
number-at phases items i number same lt is =
    let long = take-long phases i
    (let less : i < length phases = subst (λ (l : List (List ScriptSession)). i < length l) same lt in omega (less, arith)) in
    omega (long, is, arith)

-- ---- commands

pub writes-append : (xs ys : List Command) → writes (xs ++ ys) ≡ writes xs + writes ys
writes-append [] ys = omega arith
writes-append (x ∷ xs) ys =
    let more = writes-append xs ys in
    let sum : write_of x + writes (xs ++ ys) ≡ write_of x + writes xs + writes ys = omega (more, arith) in
    sum

found-front : (c : PlainClient) (xs ys : List Command)
    → AllByRecursion (λ (command : Command). IsFound (wall_of command) c.sides) (xs ++ ys)
    → AllByRecursion (λ (command : Command). IsFound (wall_of command) c.sides) xs
found-front c [] ys all = tt
found-front c (x ∷ xs) ys all = (all.0, found-front c xs ys all.1)

-- who can do commands can do the first of them
pub can-front : (c : PlainClient) (xs ys : List Command) → CanDo c (xs ++ ys) → CanDo c xs
can-front c xs ys can =
    let sum = writes-append xs ys in
    record {
      walls = found-front c xs ys can.walls;
      leaves = let all = can.leaves in omega (sum, all, arith);
      numbers = λ wall s found. let all = can.numbers wall s found in omega (sum, all, arith);
    }

-- ---- users

only : (P : ℕ → Type 0) (user other : ℕ) → P user → IsUser (user ∷ []) other → P other
only P user other p (inl is) = subst P is p
only P user other p (inr none) = absurd none

session-kept : (walls users users' : List ℕ) (s : ScriptSession) → ((user : ℕ) → times user users' ≡ times user users)
    → IsSession walls users s → IsSession walls users' s
session-kept walls users users' s counted p = record {
  known = counted s.user ∙ p.known;
  few = p.few;
  asked = p.asked;
}

sessions-kept : (walls users users' : List ℕ) (ss : List ScriptSession) → ((user : ℕ) → times user users' ≡ times user users)
    → AllByRecursion (IsSession walls users) ss → AllByRecursion (IsSession walls users') ss
sessions-kept walls users users' [] counted all = tt
sessions-kept walls users users' (s ∷ ss) counted all =
    (session-kept walls users users' s counted all.0, sessions-kept walls users users' ss counted all.1)

phases-kept : (walls users users' : List ℕ) (phases : List (List ScriptSession))
    → ((user : ℕ) → times user users' ≡ times user users) → AllByRecursion (IsPhase walls users) phases
    → AllByRecursion (IsPhase walls users') phases
phases-kept walls users users' [] counted all = tt
phases-kept walls users users' (p ∷ phases) counted all = (
  record {
    few = all.0.few;
    each = sessions-kept walls users users' p counted all.0.each;
    apart = all.0.apart;
  },
  phases-kept walls users users' phases counted all.1,
)

module _ {D W : Type 0} (d : Digest) (view : W → WireView) (server : Server D) where
  pub keeps-itself : (run : Running D W) → AreMembers d server run.clients.items run.seats.items
      → KeepsUsers d server run run
  keeps-itself run are = record { members = are; wires = refl; counted = λ user. refl; many = refl }

  pub keeps-more : (a b c : Running D W) → KeepsUsers d server a b → KeepsUsers d server b c → KeepsUsers d server a c
  keeps-more a b c p q = record {
    members = q.members;
    wires = q.wires ∙ p.wires;
    counted = λ user. q.counted user ∙ p.counted user;
    many = q.many ∙ p.many;
  }

  -- ---- the next phase

  pub can-first : (run : Running D W) (sessions : List ScriptSession) (phases : List (List ScriptSession))
      → CanPlay d server run (sessions ∷ phases) → (user : ℕ) → times user (map user_of run.seats.items) ≡ 1
      → CanDo (member_at user (members_of run)).client (commands_in user sessions)
  can-first run sessions phases can user one =
      can-front (member_at user (members_of run)).client (commands_in user sessions) (commands_of user phases)
      (can.can user one)

  -- who has played a phase can play those behind it
  pub can-rest : (run now : Running D W) (number : ℕ) (sessions : List ScriptSession)
      (phases : List (List ScriptSession)) → CanPlay d server run (sessions ∷ phases) → KeepsUsers d server run now
      → ((u : ℕ) (users : List ℕ)
      → ((user : ℕ) → IsUser (u ∷ users) user → times user (map user_of run.seats.items) ≡ 1)
      → PlayedPhase d (u ∷ users) (run_view view run) (run_view view now) (tasks_in number 1 sessions))
      → CanPlay d server now phases
  can-rest run now number sessions phases can keeps played = record {
    members = keeps.members;
    wires = keeps.wires ∙ can.wires;
    each = phases-kept (walls_of server) (map user_of run.seats.items) (map user_of now.seats.items) phases keeps.counted
        can.each.1;
    can = λ user one.
        let before : times user (map user_of run.seats.items) ≡ 1 = sym (keeps.counted user) ∙ one in
        let alone = λ (other : ℕ) (is : IsUser (user ∷ []) other). let e : times other (map user_of run.seats.items) ≡ 1 =
        only (λ (u : ℕ). times u (map user_of run.seats.items) ≡ 1) user other before is in e in
        let ran = (played user [] alone).run in
        let client = (member_at user (members_of run)).client in
        let heards = stream user ran.heards in
        subst (λ (c : PlainClient). CanDo c (commands_of user phases)) (sym (ran.clients user))
        (can-last d client heards (commands_of user phases)
        (subst (λ (cs : List Command). CanDo client (cs ++ commands_of user phases))
        (sym (stream-commands number user sessions ran.heards ran.asked)) (can.can user before)));
  }

  -- ---- one phase more

  pub one-more : (start mid now : Running D W) (phases phases' : List (List ScriptSession))
      (sessions : List ScriptSession) (number : ℕ) → number ≡ 1 + length phases → phases' ≡ phases ++ sessions ∷ []
      → KeepsUsers d server start mid
      → ((u : ℕ) (users : List ℕ)
      → ((user : ℕ) → IsUser (u ∷ users) user → times user (map user_of start.seats.items) ≡ 1)
      → Played d (u ∷ users) 1 phases (run_view view start) (run_view view mid))
      → ((u : ℕ) (users : List ℕ)
      → ((user : ℕ) → IsUser (u ∷ users) user → times user (map user_of mid.seats.items) ≡ 1)
      → PlayedPhase d (u ∷ users) (run_view view mid) (run_view view now) (tasks_in number 1 sessions))
      → (u : ℕ) (users : List ℕ)
      → ((user : ℕ) → IsUser (u ∷ users) user → times user (map user_of start.seats.items) ≡ 1)
      → Played d (u ∷ users) 1 phases' (run_view view start) (run_view view now)
  one-more start mid now phases phases' sessions number at longer keeps played more u users one =
      subst (λ (ps : List (List ScriptSession)). Played d (u ∷ users) 1 ps (run_view view start) (run_view view now))
      (sym longer)
      (played-more d (u ∷ users) phases sessions (run_view view start) (run_view view mid) (run_view view now)
      (played u users one)
      (subst (λ (n : ℕ). PlayedPhase d (u ∷ users) (run_view view mid) (run_view view now) (tasks_in n 1 sessions)) at
      (more u users (λ user is. keeps.counted user ∙ one user is))))

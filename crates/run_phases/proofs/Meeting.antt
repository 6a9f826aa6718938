-- All users of a run meet behind a phase.
use Rattle.std.proofs.Common.{◌≡◌, ◌∙◌, ℕ, ◌≤◌, List, [], ◌∷◌, length, map, refl, sym, ap, subst}
use Rattle.std.specs.List.{All, AllByRecursion, AllZip}
use Rattle.std.proofs.lemmas.List.Elements.{recursion_from_All}
use Rattle.std.proofs.lemmas.Slice.Zip.{AllZip-long}
use Rattle.fr_bytes.specs.History.{Begins}
use Rattle.fr_digest.specs.Digest.{Digest}
use Rattle.fr_edges.specs.Wire.{WireView}
use Rattle.hall_core.specs.declared.ask.Called.{Called}
use Rattle.hall_server.specs.declared.seats.Seats.{Seats}
use Rattle.hall_server.specs.declared.server.Server.{Server}
use Rattle.hall_server.specs.Meetings.{HasMet, KnowsOf}
use Rattle.hall_server.specs.Seating.{IsSeatsOf}
use Rattle.hall_server.specs.Sights.{Sight, sight_at, user_of}
use Rattle.session_laws.specs.Doing.{Task}
use Rattle.session_laws.specs.Histories.{IsUser}
use Rattle.session_laws.specs.Runs.{PhaseRun}
use Rattle.run_phases.specs.declared.running.Running.{Running}
use Rattle.run_phases.specs.Members.{member_at, members, times}
use Rattle.run_phases.specs.Phases.{AreMembers, KeepsUsers, PlayedPhase, run_view}
use Rattle.run_phases.proofs.Boarding.{even-of}
use Rattle.run_phases.proofs.Gathering.{MetRun, at-found, met-client, met-seat, met-users, phase-played}

module _ {D W : Type 0} (d : Digest) (view : W → WireView) (server : Server D) (before mid other : Running D W)
    (kept : KeepsUsers d server before mid) (same : AllZip HasMet mid.seats.items other.seats.items) where
  -- the run with the seats as they are behind the meeting
  abbrev pub with-met : Running D W
  with-met = record { clients = mid.clients; seats = other.seats; wires = mid.wires; outcomes = mid.outcomes }

  users-met : map user_of other.seats.items ≡ map user_of mid.seats.items
  users-met = met-users mid.seats.items other.seats.items same

  pub keeps-met : All (IsSeatsOf d server) other.seats.items → KeepsUsers d server before with-met
  keeps-met seated = record {
    members = record {
      same = kept.members.same ∙ sym users-met;
      once = λ user. subst (λ (l : List ℕ). times user l ≤ 1) (sym users-met) (kept.members.once user);
      seated = recursion_from_All (IsSeatsOf d server) other.seats.items seated;
    };
    wires = kept.wires;
    counted = λ user. ap (times user) users-met ∙ kept.counted user;
    many = AllZip-long HasMet mid.seats.items other.seats.items same ∙ kept.many;
  }

  even-mid : length mid.clients.items ≡ length mid.seats.items
  even-mid = even-of mid.clients.items mid.seats.items kept.members.same

  module _ (knows : All (λ (user : Seats D). All (λ (other : Seats D). KnowsOf other user) mid.seats.items) other.seats.items)
    where
      KnowsAll : Seats D → Type 0
      KnowsAll user = All (λ (other : Seats D). KnowsOf other user) mid.seats.items

      told : (user friend wall : ℕ) → times user (map user_of before.seats.items) ≡ 1
          → times friend (map user_of before.seats.items) ≡ 1
          → Begins ((member_at friend (members mid.clients.items mid.seats.items)).seat wall).front
          ((member_at user (members mid.clients.items other.seats.items)).seat wall).front
      unfolding KnowsAll
      told user friend wall one that =
          let here = at-found KnowsAll mid.clients.items other.seats.items
          (even-mid ∙ sym (AllZip-long HasMet mid.seats.items other.seats.items same))
          (recursion_from_All KnowsAll other.seats.items knows) user
          (ap (times user) users-met ∙ kept.counted user ∙ one) in
          let there = at-found (λ (o : Seats D). KnowsOf o here.0) mid.clients.items mid.seats.items even-mid
          (recursion_from_All (λ (o : Seats D). KnowsOf o here.0) mid.seats.items here.1) friend
          (kept.counted friend ∙ that) in
          subst (λ (s : ℕ → Sight). Begins (s wall).front
          ((member_at user (members mid.clients.items other.seats.items)).seat wall).front) (sym there.2)
          (subst (λ (s : ℕ → Sight). Begins (sight_at there.0 wall).front (s wall).front) (sym here.2)
          (there.1 wall))

      pub met-of : (u : ℕ) (users : List ℕ)
          → ((user : ℕ) → IsUser (u ∷ users) user → times user (map user_of before.seats.items) ≡ 1)
          → MetRun (u ∷ users) (run_view view mid) (run_view view with-met)
      met-of u users one = record {
        client = λ user. met-client mid.clients.items mid.seats.items other.seats.items same user;
        saw = λ user wall. met-seat mid.clients.items mid.seats.items other.seats.items same user wall;
        wire = λ session. refl;
        outcomes = refl;
        told = λ user friend is that wall. told user friend wall (one user is) (one friend that);
      }

      pub played-of : (tasks : List Task) → PhaseRun d (run_view view before) (run_view view mid) tasks
          → (u : ℕ) (users : List ℕ)
          → ((user : ℕ) → IsUser (u ∷ users) user → times user (map user_of before.seats.items) ≡ 1)
          → PlayedPhase d (u ∷ users) (run_view view before) (run_view view with-met) tasks
      played-of tasks ran u users one =
          phase-played d u users (run_view view before) (run_view view mid) (run_view view with-met) tasks ran
          (met-of u users one)

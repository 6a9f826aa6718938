use Rattle.std.proofs.Common.{◌≡◌, ◌∷◌, ℕ, List, map}
use Rattle.std.specs.List.{All}
use Rattle.std.proofs.lemmas.List.Elements.{All-from_recursion}
use Rattle.hall_server.specs.declared.seats.Seats.{Seats}
use Rattle.hall_server.specs.Meetings.{KnowsOf}
use Rattle.hall_server.specs.Seating.{IsSeatsOf}
use Rattle.hall_server.specs.Sights.{user_of}
use Rattle.session_laws.specs.Histories.{IsUser}
use Rattle.run_phases.specs.Members.{times}
use Rattle.run_phases.specs.Phases.{KeepsUsers, PlayedPhase, run_view}
use Rattle.run_phases.specs.Tasks.{tasks_in}
use Rattle.run_phases.proofs.Meeting.{keeps-met, played-of}
use Rattle.run_phases.proofs.Sailing.{ok-so}
use Rattle.run_phases.proofs.playing.play_phase.Goals as goal

pub meet_all-requires : goal.meet_all-requires
meet_all-requires g c = record {
  seats = All-from_recursion (IsSeatsOf g.D.Digester.digest_of c.args.server.now) c.play_lanes.new.run.seats.items
      c.in_ok-play_lanes.ensures.users.members.seated;
}

pub returns-clause-played : goal.returns-clause-played
returns-clause-played g c =
    let d = g.D.Digester.digest_of in
    let view = g.W.Wire.view in
    let before = c.args.run.now in
    let mid = c.play_lanes.new.run in
    let met = c.meet_all.new.seats in
    let tasks = tasks_in c.args.phase 1 c.args.sessions.now in
    let now = record mid { seats = met } in
    ok-so (All (λ (user : Seats g.row.D.Denot). All (λ (other : Seats g.row.D.Denot). KnowsOf other user) mid.seats.items)
    met.items)
    ((u : ℕ) (users : List ℕ)
    → ((user : ℕ) → IsUser (u ∷ users) user → times user (map user_of before.seats.items) ≡ 1)
    → PlayedPhase d (u ∷ users) (run_view view before) (run_view view now) tasks) c.meet_all.result
    c.meet_all.ensures.met
    (λ knows. played-of d view c.args.server.now before mid now c.in_ok-play_lanes.ensures.users
    c.meet_all.ensures.same knows tasks c.in_ok-play_lanes.ensures.ran)

pub returns-clause-users : goal.returns-clause-users
returns-clause-users g c =
    let d = g.D.Digester.digest_of in
    let view = g.W.Wire.view in
    let mid = c.play_lanes.new.run in
    let met = c.meet_all.new.seats in
    let now = record mid { seats = met } in
    ok-so (All (λ (user : Seats g.row.D.Denot). All (λ (other : Seats g.row.D.Denot). KnowsOf other user) mid.seats.items)
    met.items)
    (KeepsUsers d c.args.server.now c.args.run.now now) c.meet_all.result
    c.meet_all.ensures.met
    (λ knows. keeps-met d view c.args.server.now c.args.run.now mid now c.in_ok-play_lanes.ensures.users
    c.meet_all.ensures.same c.meet_all.ensures.seats)

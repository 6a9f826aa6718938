use Rattle.std.proofs.Common.{◌∙◌, ap, sym, subst, refl, rules}
use Rattle.std.specs.Vec.{with_item}
use Rattle.hall_core.specs.Slips.{Slip}
use Rattle.hall_server.specs.declared.seats.Seats.{Seats}
use Rattle.hall_server.specs.Answers.{HalfwayAt, Turned}
use Rattle.hall_server.specs.Sights.{sight_at, user_of}
use Rattle.hall_server.proofs.Reseating.{caller_is, is_seat, kept_seats, kept_turned, old_halfway, old_seats, within, within_gates, within_shots}
use Rattle.hall_server.proofs.server.Server.take_turn.Goals as goal

pub index-requires : goal.index-requires
index-requires g c =
    let below = within_gates g.D.Digester.digest_of c.args.self.now c.args.seats.now c.requires.seats c.args.wall
    c.args.place c.requires.place in
    search (rules, below)

pub index_mut-requires : goal.index_mut-requires
index_mut-requires g c =
    let below = within g.D.Digester.digest_of c.args.self.now c.args.seats.now c.requires.seats c.args.wall
    c.args.place c.requires.place in
    search (rules, below)

pub turn_at-answer-requires-clause-seat : goal.turn_at-answer-requires-clause-seat
turn_at-answer-requires-clause-seat g c =
    is_seat g.D.Digester.digest_of c.args.self.now c.args.seats.now c.requires.seats c.args.wall c.args.place
    c.requires.place c.index.result.now c.index_mut.result.now c.index.ensures c.index_mut.ensures.value

pub turn_at-answer-requires-clause-caller : goal.turn_at-answer-requires-clause-caller
turn_at-answer-requires-clause-caller g c =
    ap (λ (slip : Slip). slip.caller) c.in-Ok.ensures.made
    ∙ sym (caller_is g.D.Digester.digest_of c.args.self.now c.args.seats.now c.requires.seats c.args.wall c.args.place
    c.requires.place c.index_mut.result.now c.index_mut.ensures.value)

pub returns-in_err-seats-clause-seats : goal.returns-in_err-seats-clause-seats
returns-in_err-seats-clause-seats g c =
    let turn = c.turn_at-answer.ensures in
    old_seats g.D.Digester.digest_of c.args.self.now c.args.seats.now c.requires.seats c.args.wall c.args.place
    c.requires.place c.index_mut.result.now c.index_mut.ensures.value c.index.result.now c.turn_at-answer.new.seat
    c.index.ensures turn.seat turn.same c.in-Ok.slip.ask c.turn_at-answer.result.0 turn.turn _ refl refl refl

pub returns-in_err-seats-clause-halfway : goal.returns-in_err-seats-clause-halfway
returns-in_err-seats-clause-halfway g c =
    let d = g.D.Digester.digest_of in
    let turn = c.turn_at-answer.ensures in
    let before = c.args.seats.now in
    let after : Seats _ = record {
      user = before.user;
      places = record { seats = with_item before.places.seats c.args.place c.turn_at-answer.new.seat };
      snapshots = before.snapshots;
    } in
    let half = subst (HalfwayAt d (user_of before) (sight_at before) (sight_at after) c.args.wall)
    (ap (λ (slip : Slip). slip.ask) c.in-Ok.ensures.made)
    (old_halfway d c.args.self.now before c.requires.seats c.args.wall c.args.place
    c.requires.place c.index_mut.result.now c.index_mut.ensures.value c.index.result.now c.turn_at-answer.new.seat
    c.index.ensures turn.seat turn.same c.in-Ok.slip.ask c.turn_at-answer.result.0 turn.turn after refl refl refl) in
    search (rules, half)

pub index_mut-requires-2 : goal.index_mut-requires-2
index_mut-requires-2 g c =
    let below = within_shots g.D.Digester.digest_of c.args.self.now c.args.seats.now c.requires.seats c.args.wall
    c.args.place c.requires.place in
    search (rules, below)

pub returns-clause-seats : goal.returns-clause-seats
returns-clause-seats g c =
    let turn = c.turn_at-answer.ensures in
    let stands = rw c.in_ok-seats.was at turn.shown in
    kept_seats g.D.Digester.digest_of c.args.self.now c.args.seats.now c.requires.seats c.args.wall c.args.place
    c.requires.place c.index_mut.result.now c.index_mut.ensures.value c.index.result.now c.turn_at-answer.new.seat
    c.index.ensures turn.seat turn.same c.in-Ok.slip.ask c.turn_at-answer.result.0 turn.turn c.in_ok-seats.field-0 _
    refl refl refl stands

pub returns-clause-turned : goal.returns-clause-turned
returns-clause-turned g c =
    let d = g.D.Digester.digest_of in
    let turn = c.turn_at-answer.ensures in
    let stands = rw c.in_ok-seats.was at turn.shown in
    let before = c.args.seats.now in
    let after : Seats _ = record {
      user = before.user;
      places = record { seats = with_item before.places.seats c.args.place c.turn_at-answer.new.seat };
      snapshots = with_item before.snapshots c.args.place c.in_ok-seats.field-0;
    } in
    subst (λ ask. Turned d (user_of before) (sight_at before) (sight_at after) c.args.wall ask c.turn_at-answer.result.0)
    (ap (λ (slip : Slip). slip.ask) c.in-Ok.ensures.made)
    (kept_turned d c.args.self.now before c.requires.seats c.args.wall
    c.args.place c.requires.place c.index_mut.result.now c.index_mut.ensures.value c.index.result.now
    c.turn_at-answer.new.seat c.index.ensures turn.seat turn.same c.in-Ok.slip.ask c.turn_at-answer.result.0 turn.turn
    c.in_ok-seats.field-0 after refl refl refl stands)

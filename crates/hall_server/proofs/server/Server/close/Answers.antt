use Rattle.std.proofs.Common.{◌≡◌, map, sym, subst}
use Rattle.std.proofs.lemmas.Result.{IfOk-weaker}
use Rattle.std.specs.List.{All}
use Rattle.hall_server.specs.Meetings.{AreClosedOn, HasNoStranger, IsKept}
use Rattle.hall_server.proofs.Endings.{hall_in, halls_kept, no_strangers, places_for, users_closed}
use Rattle.hall_server.proofs.Rounds.{sit_all}
use Rattle.hall_server.proofs.server.Server.close.Goals as goal

pub close_users-requires-clause-seats : goal.close_users-requires-clause-seats
close_users-requires-clause-seats g c =
    rw (c.into_gates.ensures, c.swap_places.ensures.places)
    (sit_all g.D.Digester.digest_of c.args.self c.args.seats.items c.requires.seats)

pub close_users-requires-clause-all : goal.close_users-requires-clause-all
close_users-requires-clause-all g c =
    rw (c.into_gates.ensures, c.swap_places.ensures.places)
    (places_for g.D.Digester.digest_of c.args.self c.args.seats.items c.requires.all)

pub returns-clause-kept : goal.returns-clause-kept
returns-clause-kept g c =
    let d = g.D.Digester.digest_of in
    let values = c.in_ok-halls.halls.items in
    IfOk-weaker c.halls_of.result (λ halls. halls.items ≡ map hall_in values) (λ halls. All (IsKept d) halls.items)
    (λ halls same. subst (All (IsKept d)) (sym same) (halls_kept d values c.in_ok-halls.ensures.valid)) c.halls_of.ensures

pub returns-clause-closed : goal.returns-clause-closed
returns-clause-closed g c =
    let d = g.D.Digester.digest_of in
    let values = c.in_ok-halls.halls.items in
    let seats = c.args.seats.items in
    let closed = rw c.swap_places.ensures.places at c.in_ok-halls.ensures.closed in
    IfOk-weaker c.halls_of.result (λ halls. halls.items ≡ map hall_in values)
    (λ halls. All (AreClosedOn d halls.items) seats)
    (λ halls same. rw same (users_closed d c.args.self values seats c.requires.seats closed)) c.halls_of.ensures

pub returns-clause-users : goal.returns-clause-users
returns-clause-users g c = λ users are.
    let d = g.D.Digester.digest_of in
    let values = c.in_ok-halls.halls.items in
    IfOk-weaker c.halls_of.result (λ halls. halls.items ≡ map hall_in values)
    (λ halls. All (HasNoStranger users) halls.items)
    (λ halls same. subst (All (HasNoStranger users)) (sym same)
    (no_strangers d users c.args.self.gates.items values are
    (rw c.into_gates.ensures at c.in_ok-halls.ensures.callers))) c.halls_of.ensures

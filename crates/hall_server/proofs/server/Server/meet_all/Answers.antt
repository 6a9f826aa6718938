use Rattle.std.proofs.Common.{◌≡◌, length, rules, arith}
use Rattle.std.proofs.lemmas.List.{length-map}
use Rattle.std.proofs.lemmas.Slice.Zip.{AllZip-long}
use Rattle.gate_users.proofs.Zips.{zip_itself}
use Rattle.gate_users.specs.Users.{HaveSeenMore}
use Rattle.hall_core.specs.Calls.{caller_of}
use Rattle.hall_server.specs.declared.seats.Seats.{Seats}
use Rattle.hall_server.specs.Meetings.{HasMet}
use Rattle.hall_server.specs.Moves.{places_of}
use Rattle.hall_server.proofs.Moves.{length-seated}
use Rattle.hall_server.proofs.Rounds.{back, know_all, met_all, met_itself, seats_after, sit_all}
use Rattle.hall_server.proofs.server.Server.meet_all.Goals as goal

pub returns-in_err-places-clause-same : goal.returns-in_err-places-clause-same
returns-in_err-places-clause-same g c = zip_itself HasMet met_itself c.args.seats.now.items

pub meet_users-requires : goal.meet_users-requires
meet_users-requires g c = record {
  seats = rw (c.deref.ensures.value, c.swap_places.ensures.places)
      (sit_all g.D.Digester.digest_of c.args.self.now c.args.seats.now.items c.requires.seats);
}

pub swap_places-requires-2 : goal.swap_places-requires-2
swap_places-requires-2 g c =
    let old = c.args.seats.now.items in
    let none = c.in_ok-places.places.items in
    let saw = rw c.swap_places.ensures.places at c.meet_users.ensures.same in
    let count = length-map old (λ (user : Seats _). user.places) in
    let many : length none ≡ length old = search (rules, c.in_ok-places.ensures, c.len.ensures) in
    let long = AllZip-long (HaveSeenMore caller_of) (places_of old) c.meet_users.new.users.items saw in
    let seats = length-seated old none many in
    rw c.swap_places.ensures.seats (omega arith)

pub returns-clause-seats : goal.returns-clause-seats
returns-clause-seats g c =
    let d = g.D.Digester.digest_of in
    let old = c.args.seats.now.items in
    let none = c.in_ok-places.places.items in
    let ps = c.meet_users.new.users.items in
    let saw = rw c.swap_places.ensures.places at c.meet_users.ensures.same in
    let sits = rw c.deref.ensures.value at c.meet_users.ensures.seats in
    let many : length none ≡ length old = search (rules, c.in_ok-places.ensures, c.len.ensures) in
    rw (c.swap_places-2.ensures.seats, c.swap_places.ensures.seats, back d c.args.self.now old none ps many saw)
    (seats_after d c.args.self.now old ps c.requires.seats saw sits)

pub returns-clause-same : goal.returns-clause-same
returns-clause-same g c =
    let d = g.D.Digester.digest_of in
    let old = c.args.seats.now.items in
    let none = c.in_ok-places.places.items in
    let ps = c.meet_users.new.users.items in
    let saw = rw c.swap_places.ensures.places at c.meet_users.ensures.same in
    let many : length none ≡ length old = search (rules, c.in_ok-places.ensures, c.len.ensures) in
    rw (c.swap_places-2.ensures.seats, c.swap_places.ensures.seats, back d c.args.self.now old none ps many saw)
    (met_all d c.args.self.now old ps c.requires.seats saw)

pub returns-clause-met : goal.returns-clause-met
returns-clause-met g c =
    let d = g.D.Digester.digest_of in
    let server = c.args.self.now in
    let old = c.args.seats.now.items in
    let none = c.in_ok-places.places.items in
    let ps = c.meet_users.new.users.items in
    let saw = rw c.swap_places.ensures.places at c.meet_users.ensures.same in
    let sits = rw c.deref.ensures.value at c.meet_users.ensures.seats in
    let met = rw c.swap_places.ensures.places at c.meet_users.ensures.met in
    let many : length none ≡ length old = search (rules, c.in_ok-places.ensures, c.len.ensures) in
    rw (c.swap_places-2.ensures.seats, c.swap_places.ensures.seats, back d c.args.self.now old none ps many saw)
    (know_all d server old old ps c.requires.seats (seats_after d server old ps c.requires.seats saw sits) met)

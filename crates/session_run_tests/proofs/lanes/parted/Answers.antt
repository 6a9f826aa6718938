use Rattle.std.proofs.Common.{Some}
use Rattle.std.proofs.lemmas.List.Elements.{All-pop, All-push}
use Rattle.hall_server.specs.Seating.{IsSeatsOf}
use Rattle.sha2.specs.Sha256.{sha256}
use Rattle.session_run_tests.proofs.lanes.parted.Goals as goal

pub loop-lane-preserved : goal.loop-lane-preserved
loop-lane-preserved c =
    let l = c.loop-lane in
    let server = c.args.server.now in
    let popped = All-pop (λ lane. IsSeatsOf sha256 server lane.session.seats) l.lanes.items c.pop.new.self.items
    (Some c.in-Some.lane) c.in-Some.ensures.items l.invariant.left in
    record {
      left = popped.0;
      taken = rw c.in_ok-push.ensures.items (All-push (IsSeatsOf sha256 server) l.all.items _ l.invariant.taken
          (rw c.seats_of-seats.ensures popped.1));
    }

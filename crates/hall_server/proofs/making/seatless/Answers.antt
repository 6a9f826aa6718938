use Rattle.std.proofs.Common.{rules}
use Rattle.std.proofs.lemmas.List.{map-append, take_more}
use Rattle.std.proofs.lemmas.List.Elements.{All-push}
use Rattle.hall_server.specs.Seating.{IsSeatless}
use Rattle.hall_server.proofs.making.seatless.Goals as goal

pub loop-user-preserved : goal.loop-user-preserved
loop-user-preserved g c = let pushed = c.in_ok-push.ensures.items in record {
  users = rw pushed (search (rules, map-append, take_more, c.loop-user.invariant.users));
  none = rw pushed (All-push IsSeatless c.loop-user.all.items _ c.loop-user.invariant.none
      (record { places = c.new.ensures.items; snapshots = c.new-in-loop-user.ensures.items }));
}

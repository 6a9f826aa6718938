use Rattle.std.proofs.Common.{List, subst, sym}
use Rattle.std.specs.List.{All}
use Rattle.hall_core.specs.Standing as standing
use Rattle.hall_server.specs.Meetings.{AreClosedOn, HasNoStranger, IsKept}
use Rattle.run_script.specs.Order.{Closes, Comes}
use Rattle.run_script.proofs.Ending.{if-so}
use Rattle.run_script.proofs.closing.close.Goals as goal

pub ended-requires : goal.ended-requires
ended-requires g c =
    c.requires.together c.in_order.new.run c.in_ok-clients.clients.items c.in_ok-clients.seats.items
    c.in_ok-clients.ensures

pub returns : goal.returns
returns g c =
    let d = g.D.Digester.digest_of in
    let clients = c.in_ok-clients.clients.items in
    let halls = c.in_ok-halls.halls.items in
    let e = c.in_ok-halls.ensures in
    if-so (Comes d clients c.args.notes halls c.in_order.new.run)
    (Closes d c.args.server c.args.users.now c.args.notes c.args.run) c.ended.result c.ended.ensures
    (λ ran comes. record {
      clients = clients;
      seats = c.in_ok-clients.seats.items;
      last = c.in_order.new.run;
      order = c.in_ok-clients.ensures;
      comes = subst (λ (hs : List standing.Hall). Comes d clients c.args.notes hs c.in_order.new.run ran)
          (sym comes.halls_are) comes;
      kept = subst (All (IsKept d)) (sym comes.halls_are) e.kept;
      closed = subst (λ (hs : List standing.Hall). All (AreClosedOn d hs) c.in_ok-clients.seats.items)
          (sym comes.halls_are) e.closed;
      known = λ all has. subst (All (HasNoStranger all)) (sym comes.halls_are) (e.users all has);
    })

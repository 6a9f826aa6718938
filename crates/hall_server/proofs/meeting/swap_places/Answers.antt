use Rattle.std.proofs.Common.{◌≡◌, ◌<◌, ◌∙◌, ◌+◌, suc, length, ap, arith, rules}
use Rattle.hall_server.proofs.Moves.{length-seated_first, places_all, places_more, seated_all, seated_more}
use Rattle.hall_server.proofs.meeting.swap_places.Goals as goal

pub index_mut-requires : goal.index_mut-requires
index_mut-requires g c =
    let old = c.args.seats.now.items in
    let ps = c.args.places.now.items in
    let long = ap length c.loop-user.invariant.seats ∙ length-seated_first c.loop-user.user old ps c.requires.many in
    search (rules, long)

pub loop-user-preserved : goal.loop-user-preserved
loop-user-preserved g c =
    let old = c.args.seats.now.items in
    let ps = c.args.places.now.items in
    let i = c.loop-user.user in
    let u = c.index_mut.result.now in
    let p = c.index_mut-in-loop-user.result.now in
    let below : i < length old = search rules in
    let next : i + 1 ≡ suc i = omega arith in
    let at = rw c.loop-user.invariant.seats at c.index_mut.ensures.value in
    let at' = rw c.loop-user.invariant.places at c.index_mut-in-loop-user.ensures.value in
    record {
      seats = rw (c.loop-user.invariant.seats, c.swap.ensures.x_after, next)
          (seated_more i old ps u p c.requires.many below at at');
      places = rw (c.loop-user.invariant.places, c.swap.ensures.y_after, next)
          (places_more i old ps u c.requires.many below at);
    }

pub returns-clause-seats : goal.returns-clause-seats
returns-clause-seats g c =
    let all : c.loop-user.user ≡ length c.args.seats.now.items = search rules in
    c.loop-user.invariant.seats
    ∙ seated_all c.loop-user.user c.args.seats.now.items c.args.places.now.items c.requires.many all

pub returns-clause-places : goal.returns-clause-places
returns-clause-places g c =
    let all : c.loop-user.user ≡ length c.args.seats.now.items = search rules in
    c.loop-user.invariant.places
    ∙ places_all c.loop-user.user c.args.seats.now.items c.args.places.now.items c.requires.many all

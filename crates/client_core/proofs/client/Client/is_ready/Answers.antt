use Rattle.std.proofs.Common.{◌≡◌, ◌∙◌, ◌<◌, List, get_or, length, ap, sym, subst, arith}
use Rattle.std.proofs.lemmas.Bool.{ltb-true}
use Rattle.client_core.specs.declared.side.Side.{Side}
use Rattle.client_core.specs.Clients.{IsReady, Standing, client_view}
use Rattle.client_core.specs.Sides.{HasSide, place_of, side_view, sides_view}
use Rattle.client_core.proofs.Places.{at-place, length-view}
use Rattle.client_core.proofs.client.Client.is_ready.Goals as goal

pub returns-in-Some-clause-ready : goal.returns-in-Some-clause-ready
returns-in-Some-clause-ready g c room_is =
    let room = c.has_room.ensures.room room_is in
    let items = c.self.inside.sides.items in
    let place = c.place_of-place.result in
    let s = c.in-Some.side.now in
    let same = c.deref-2.ensures.value in
    let e = c.place_of-place.ensures ∙ ap (λ (xs : List Side). place_of c.args.wall
    (sides_view xs)) c.deref.ensures.value in
    let less : place < length items =
    subst (λ (xs : List Side). place < length xs) same (ltb-true place (length c.deref-2.result.now)
    (sym c.in-Some.ensures.lookup.0)) in
    let n = length-view items in
    let h : HasSide c.args.wall (sides_view items) = omega arith in
    let is = subst (λ (xs : List Side). s ≡ get_or xs place s) same c.in-Some.ensures.lookup.1 in
    let at = at-place c.args.wall items place s e h is in
    subst (λ (x : Standing). IsReady (client_view x) c.args.wall) c.self.view_is
    (record { side = side_view s; found = at.found; number = room.0; leaf = room.1 })

use Rattle.std.proofs.Common.{◌∙◌, List, ap, sym, subst}
use Rattle.client_core.specs.declared.side.Side.{Side}
use Rattle.client_core.specs.Clients.{Standing}
use Rattle.client_core.specs.Keeping.{HasKeys}
use Rattle.client_core.specs.Sides.{HasSide, place_of, side_view, sides_view}
use Rattle.client_core.proofs.Places.{at-place}
use Rattle.client_core.proofs.client.Client.side.Goals as goal

pub returns-clause-is_side : goal.returns-clause-is_side
returns-clause-is_side g c =
    let h = subst (λ (xs : List Side). HasSide c.args.wall (sides_view xs)) (sym (ap (λ
    (x : Standing). x.sides) c.self.view_is)) c.requires in
    let e = c.place_of-place.ensures ∙ ap (λ (xs : List Side). place_of c.args.wall
    (sides_view xs)) c.deref.ensures.value in
    let at = at-place c.args.wall c.self.inside.sides.items c.place_of-place.result c.index.result.now e h
    c.index.ensures in
    at.is_side c.self.invariant.each

pub returns-clause-keys : goal.returns-clause-keys
returns-clause-keys g c =
    let h = subst (λ (xs : List Side). HasSide c.args.wall (sides_view xs)) (sym (ap (λ
    (x : Standing). x.sides) c.self.view_is)) c.requires in
    let e = c.place_of-place.ensures ∙ ap (λ (xs : List Side). place_of c.args.wall
    (sides_view xs)) c.deref.ensures.value in
    let at = at-place c.args.wall c.self.inside.sides.items c.place_of-place.result c.index.result.now e h
    c.index.ensures in
    subst (λ (x : Standing). HasKeys x.book.user (side_view c.index.result.now)) c.self.view_is
    (c.self.invariant.keys c.args.wall (side_view c.index.result.now) at.found)

use Rattle.std.proofs.Common.{◌≡◌, ◌∙◌, List, Option, Some, ap, sym, subst}
use Rattle.std.specs.Prelude.{IfOk, OnErr, Result, slice_set}
use Rattle.msg_form.specs.declared.decline.Decline.{Decline}
use Rattle.client_core.specs.declared.side.Side.{Side}
use Rattle.op_types.specs.declared.op.Op.{Op}
use Rattle.client_core.specs.Asking.{sent_of}
use Rattle.client_core.specs.Clients.{Standing, client_view, Appends, IsSendable}
use Rattle.client_core.specs.Sides.{HasSide, SideView, place_of, side_of, side_view, sides_view}
use Rattle.client_core.proofs.Places.{at-place}
use Rattle.client_core.specs.declared.sent.Sent.{Sent}
use Rattle.client_core.proofs.Places.{has-side}
use Rattle.client_core.specs.Keeping.{IsMadeOn}
use Rattle.client_core.proofs.Steps.{appends, appends-keeps, now, still, unmoved}
use Rattle.client_core.proofs.client.Client.append.Goals as goal
use Rattle.client_core.proofs.client.Client.append.Goals.{in-Ok, in-Err}

pub invariant_of-self : goal.invariant_of-self
invariant_of-self g c =
    let h = subst (λ (xs : List Side). HasSide c.args.wall (sides_view xs)) (sym (ap (λ
    (x : Standing). x.sides) c.self.view_is))
    (has-side c.args.wall (sides_view c.args.self.now.sides) c.requires.ready.side c.requires.ready.found) in
    let e = c.place_of-place.ensures ∙ ap (λ (xs : List Side). place_of c.args.wall
    (sides_view xs)) c.deref.ensures.value in
    let at = at-place c.args.wall c.self.inside.sides.items c.place_of-place.result c.index_mut-side.result.now e h
    c.index_mut-side.ensures.value in
    let old = c.self.inside in
    let s = c.index_mut-side.result.now in
    let d = g.D.Digester.digest_of in
    let new = c.append.new.side in
    elim c.match-append.branch [
      | in-Ok w ↦ appends-keeps d old.signer old.sides.items old.book c.args.wall c.place_of-place.result s at
          c.self.invariant new c.args.kind c.append.new.signer c.append.new.book
          (subst (λ (x : Standing). IsMadeOn x.book.user (side_view s) c.args.kind) (sym c.self.view_is)
          (c.requires.made (side_view s) (subst (λ (x : Standing). side_of c.args.wall (sides_view x.sides)
          ≡ Some (side_view s)) c.self.view_is at.found)))
          w.in-Ok.ensures.signer w.in-Ok.ensures.side w.in-Ok.ensures.book
      | in-Err w ↦ still d old.signer old.sides.items old.book c.args.wall c.place_of-place.result s at
          c.self.invariant new c.append.new.signer c.append.new.book
          w.in-Err.ensures.same_signer w.in-Err.ensures.same_side w.in-Err.ensures.same_book
    ]

pub returns-clause-appends : goal.returns-clause-appends
returns-clause-appends g c =
    let h = subst (λ (xs : List Side). HasSide c.args.wall (sides_view xs)) (sym (ap (λ
    (x : Standing). x.sides) c.self.view_is))
    (has-side c.args.wall (sides_view c.args.self.now.sides) c.requires.ready.side c.requires.ready.found) in
    let e = c.place_of-place.ensures ∙ ap (λ (xs : List Side). place_of c.args.wall
    (sides_view xs)) c.deref.ensures.value in
    let at = at-place c.args.wall c.self.inside.sides.items c.place_of-place.result c.index_mut-side.result.now e h
    c.index_mut-side.ensures.value in
    let old = c.self.inside in
    let s = c.index_mut-side.result.now in
    let d = g.D.Digester.digest_of in
    let new = c.append.new.side in
    let after = now c.append.new.signer (slice_set old.sides.items c.place_of-place.result new) c.append.new.book in
    elim c.match-append.branch [
      | in-Ok w ↦ subst (λ (r : Result Sent Decline). IfOk r (λ sent. Appends
          (client_view c.args.self.now) c.args.wall c.args.kind sent after))
          (sym w.result-is)
          (subst (λ (x : Standing). Appends (client_view x) c.args.wall c.args.kind w.in-Ok.sent after) c.self.view_is
          (appends d old.signer old.sides.items old.book c.args.wall c.place_of-place.result s at c.self.invariant
          new c.args.kind c.append.new.signer c.append.new.book w.in-Ok.sent
          w.in-Ok.ensures.sent w.in-Ok.ensures.valid w.in-Ok.ensures.signer w.in-Ok.ensures.side w.in-Ok.ensures.book))
      | in-Err w ↦ subst (λ (r : Result Sent Decline). IfOk r (λ sent. Appends
          (client_view c.args.self.now) c.args.wall c.args.kind sent after))
          (sym w.result-is) tt
    ]

pub returns-clause-unchanged : goal.returns-clause-unchanged
returns-clause-unchanged g c =
    let h = subst (λ (xs : List Side). HasSide c.args.wall (sides_view xs)) (sym (ap (λ
    (x : Standing). x.sides) c.self.view_is))
    (has-side c.args.wall (sides_view c.args.self.now.sides) c.requires.ready.side c.requires.ready.found) in
    let e = c.place_of-place.ensures ∙ ap (λ (xs : List Side). place_of c.args.wall
    (sides_view xs)) c.deref.ensures.value in
    let at = at-place c.args.wall c.self.inside.sides.items c.place_of-place.result c.index_mut-side.result.now e h
    c.index_mut-side.ensures.value in
    let old = c.self.inside in
    let s = c.index_mut-side.result.now in
    let d = g.D.Digester.digest_of in
    let new = c.append.new.side in
    let after = now c.append.new.signer (slice_set old.sides.items c.place_of-place.result new) c.append.new.book in
    elim c.match-append.branch [
      | in-Ok w ↦ subst (λ (r : Result Sent Decline). OnErr r (after
          ≡ client_view c.args.self.now)) (sym w.result-is) tt
      | in-Err w ↦ subst (λ (r : Result Sent Decline). OnErr r (after ≡ client_view c.args.self.now)) (sym w.result-is)
          (subst (λ (x : Standing). after ≡ client_view x) c.self.view_is
          (unmoved d old.signer old.sides.items old.book c.args.wall c.place_of-place.result s at c.self.invariant
          new c.append.new.signer c.append.new.book
          w.in-Err.ensures.same_signer w.in-Err.ensures.same_side w.in-Err.ensures.same_book))
    ]

pub returns-clause-spelled : goal.returns-clause-spelled
unfolding sent_of
returns-clause-spelled g c =
    let h = subst (λ (xs : List Side). HasSide c.args.wall (sides_view xs)) (sym (ap (λ (x : Standing). x.sides) c.self.view_is))
    (has-side c.args.wall (sides_view c.args.self.now.sides) c.requires.ready.side c.requires.ready.found) in
    let e = c.place_of-place.ensures ∙ ap (λ (xs : List Side). place_of c.args.wall (sides_view xs)) c.deref.ensures.value in
    let at = at-place c.args.wall c.self.inside.sides.items c.place_of-place.result c.index_mut-side.result.now e h c.index_mut-side.ensures.value in
    let s = c.index_mut-side.result.now in
    let found : side_of c.args.wall (sides_view c.args.self.now.sides) ≡ Some (side_view s) =
    ap (λ (x : Standing). side_of c.args.wall (sides_view x.sides)) (sym c.self.view_is) ∙ at.found in
    elim c.match-append.branch [
      | in-Ok w ↦ subst (λ (r : Result Sent Decline). IfOk r (λ sent. (t : SideView)
          → side_of c.args.wall (sides_view c.args.self.now.sides) ≡ Some t → IsSendable t.known.size sent.signed))
          (sym w.result-is)
          (λ t there.
          let same : side_view s ≡ t = let both = sym found ∙ there in cc in
          let signed = ap (λ (x : Sent). x.signed) w.in-Ok.ensures.sent in
          subst (λ (x : SideView). IsSendable x.known.size w.in-Ok.sent.signed) same
          (subst (λ (o : Option Op). IsSendable s.known.size o) (sym signed) w.in-Ok.ensures.spelled))
      | in-Err w ↦ subst (λ (r : Result Sent Decline). IfOk r (λ sent. (t : SideView)
          → side_of c.args.wall (sides_view c.args.self.now.sides) ≡ Some t → IsSendable t.known.size sent.signed))
          (sym w.result-is) tt
    ]

use Rattle.std.proofs.Common.{◌≡◌, ◌∙◌, List, Some, refl, ap, sym, subst}
use Rattle.std.specs.Prelude.{IfOk, OnErr, Result, slice_set}
use Rattle.msg_form.specs.declared.verdict.Verdict.{Verdict}
use Rattle.client_core.specs.declared.side.Side.{Side}
use Rattle.client_core.specs.Clients.{Standing, client_view, Makes}
use Rattle.client_core.specs.Sides.{HasSide, place_of, side_of, side_view, sides_view}
use Rattle.client_core.proofs.Places.{at-place}
use Rattle.client_core.specs.declared.news.News.{News}
use Rattle.client_core.proofs.Heard.{sound-leaves}
use Rattle.client_core.proofs.Steps.{heard-keeps, makes, now, still, unmoved}
use Rattle.client_core.proofs.client.Client.hear.Goals as goal
use Rattle.client_core.proofs.client.Client.hear.Goals.{in-Ok, in-Err}

pub hear-requires : goal.hear-requires
hear-requires g c =
    let h = subst (λ (xs : List Side). HasSide c.args.wall (sides_view xs)) (sym (ap (λ
    (x : Standing). x.sides) c.self.view_is)) c.requires.side in
    let e = c.place_of-place.ensures ∙ ap (λ (xs : List Side). place_of c.args.wall
    (sides_view xs)) c.deref.ensures.value in
    let at = at-place c.args.wall c.self.inside.sides.items c.place_of-place.result c.index_mut-side.result.now e h
    c.index_mut-side.ensures.value in
    let old = c.self.inside in
    let s = c.index_mut-side.result.now in
    let d = g.D.Digester.digest_of in
    sound-leaves d s.known c.args.checked (c.requires.sound (side_view s)
    (subst (λ (x : Standing). side_of c.args.wall (sides_view x.sides) ≡ Some (side_view s)) c.self.view_is at.found))

pub invariant_of-self : goal.invariant_of-self
invariant_of-self g c =
    let h = subst (λ (xs : List Side). HasSide c.args.wall (sides_view xs)) (sym (ap (λ
    (x : Standing). x.sides) c.self.view_is)) c.requires.side in
    let e = c.place_of-place.ensures ∙ ap (λ (xs : List Side). place_of c.args.wall
    (sides_view xs)) c.deref.ensures.value in
    let at = at-place c.args.wall c.self.inside.sides.items c.place_of-place.result c.index_mut-side.result.now e h
    c.index_mut-side.ensures.value in
    let old = c.self.inside in
    let s = c.index_mut-side.result.now in
    let d = g.D.Digester.digest_of in
    let new = c.hear.new.side in
    let is = c.requires.sound (side_view s)
    (subst (λ (x : Standing). side_of c.args.wall (sides_view x.sides)
    ≡ Some (side_view s)) c.self.view_is at.found) in
    elim c.match-hear.branch [
      | in-Ok w ↦ heard-keeps d old.signer old.sides.items old.book c.args.wall c.place_of-place.result s at
          c.self.invariant new c.args.checked c.hear.new.book is
          w.in-Ok.ensures.side w.in-Ok.ensures.book
      | in-Err w ↦ still d old.signer old.sides.items old.book c.args.wall c.place_of-place.result s at
          c.self.invariant new old.signer c.hear.new.book refl
          w.in-Err.ensures.same_side w.in-Err.ensures.same_book
    ]

pub returns-clause-makes : goal.returns-clause-makes
returns-clause-makes g c =
    let h = subst (λ (xs : List Side). HasSide c.args.wall (sides_view xs)) (sym (ap (λ
    (x : Standing). x.sides) c.self.view_is)) c.requires.side in
    let e = c.place_of-place.ensures ∙ ap (λ (xs : List Side). place_of c.args.wall
    (sides_view xs)) c.deref.ensures.value in
    let at = at-place c.args.wall c.self.inside.sides.items c.place_of-place.result c.index_mut-side.result.now e h
    c.index_mut-side.ensures.value in
    let old = c.self.inside in
    let s = c.index_mut-side.result.now in
    let d = g.D.Digester.digest_of in
    let new = c.hear.new.side in
    let after = now old.signer (slice_set old.sides.items c.place_of-place.result new) c.hear.new.book in
    elim c.match-hear.branch [
      | in-Ok w ↦ subst (λ (r : Result News Verdict). IfOk r (λ news. Makes
          (client_view c.args.self.now) c.args.wall c.args.checked news after))
          (sym w.result-is)
          (subst (λ (x : Standing). Makes (client_view x) c.args.wall c.args.checked w.in-Ok.news after) c.self.view_is
          (makes d old.signer old.sides.items old.book c.args.wall c.place_of-place.result s at c.self.invariant
          new c.args.checked c.hear.new.book w.in-Ok.news
          w.in-Ok.ensures.news w.in-Ok.ensures.side w.in-Ok.ensures.book))
      | in-Err w ↦ subst (λ (r : Result News Verdict). IfOk r (λ news. Makes
          (client_view c.args.self.now) c.args.wall c.args.checked news after))
          (sym w.result-is) tt
    ]

pub returns-clause-unchanged : goal.returns-clause-unchanged
returns-clause-unchanged g c =
    let h = subst (λ (xs : List Side). HasSide c.args.wall (sides_view xs)) (sym (ap (λ
    (x : Standing). x.sides) c.self.view_is)) c.requires.side in
    let e = c.place_of-place.ensures ∙ ap (λ (xs : List Side). place_of c.args.wall
    (sides_view xs)) c.deref.ensures.value in
    let at = at-place c.args.wall c.self.inside.sides.items c.place_of-place.result c.index_mut-side.result.now e h
    c.index_mut-side.ensures.value in
    let old = c.self.inside in
    let s = c.index_mut-side.result.now in
    let d = g.D.Digester.digest_of in
    let new = c.hear.new.side in
    let after = now old.signer (slice_set old.sides.items c.place_of-place.result new) c.hear.new.book in
    elim c.match-hear.branch [
      | in-Ok w ↦ subst (λ (r : Result News Verdict). OnErr r (after
          ≡ client_view c.args.self.now)) (sym w.result-is) tt
      | in-Err w ↦ subst (λ (r : Result News Verdict). OnErr r (after ≡ client_view c.args.self.now)) (sym w.result-is)
          (subst (λ (x : Standing). after ≡ client_view x) c.self.view_is
          (unmoved d old.signer old.sides.items old.book c.args.wall c.place_of-place.result s at c.self.invariant
          new old.signer c.hear.new.book refl
          w.in-Err.ensures.same_side w.in-Err.ensures.same_book))
    ]

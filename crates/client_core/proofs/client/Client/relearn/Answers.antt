use Rattle.std.proofs.Common.{◌≡◌, ◌∙◌, List, refl, ap, sym, subst}
use Rattle.std.specs.Prelude.{OnOk, OnErr, Result, slice_set}
use Rattle.msg_form.specs.declared.verdict.Verdict.{Verdict}
use Rattle.client_core.specs.declared.side.Side.{Side}
use Rattle.client_core.specs.Clients.{Standing, client_view, Learns}
use Rattle.client_core.specs.Sides.{HasSide, place_of, sides_view}
use Rattle.client_core.proofs.Places.{at-place}
use Rattle.client_core.proofs.Steps.{learns, learns-keeps, now, still, unmoved}
use Rattle.client_core.proofs.client.Client.relearn.Goals as goal
use Rattle.client_core.proofs.client.Client.relearn.Goals.{in-Ok, in-Err}

pub invariant_of-self : goal.invariant_of-self
invariant_of-self g c =
    let h = subst (λ (xs : List Side). HasSide c.args.wall (sides_view xs)) (sym (ap (λ
    (x : Standing). x.sides) c.self.view_is)) c.requires.side in
    let e = c.place_of-place.ensures ∙ ap (λ (xs : List Side). place_of c.args.wall
    (sides_view xs)) c.deref.ensures.value in
    let at = at-place c.args.wall c.self.inside.sides.items c.place_of-place.result c.index_mut-side.result.now e h
    c.index_mut-side.ensures.value in
    let old = c.self.inside in
    let s = c.index_mut-side.result.now in
    let d = g.D.Digester.digest_of in
    let new = c.relearn.new.self in
    elim c.match-relearn.branch [
      | in-Ok w ↦ learns-keeps d old.signer old.sides.items old.book c.args.wall c.place_of-place.result s at
          c.self.invariant new c.args.changes.now w.in-Ok.ensures.learnt
      | in-Err w ↦ still d old.signer old.sides.items old.book c.args.wall c.place_of-place.result s at
          c.self.invariant new old.signer old.book refl w.in-Err.ensures.unchanged refl
    ]

pub returns-clause-learns : goal.returns-clause-learns
returns-clause-learns g c =
    let h = subst (λ (xs : List Side). HasSide c.args.wall (sides_view xs)) (sym (ap (λ
    (x : Standing). x.sides) c.self.view_is)) c.requires.side in
    let e = c.place_of-place.ensures ∙ ap (λ (xs : List Side). place_of c.args.wall
    (sides_view xs)) c.deref.ensures.value in
    let at = at-place c.args.wall c.self.inside.sides.items c.place_of-place.result c.index_mut-side.result.now e h
    c.index_mut-side.ensures.value in
    let old = c.self.inside in
    let s = c.index_mut-side.result.now in
    let d = g.D.Digester.digest_of in
    let new = c.relearn.new.self in
    let after = now old.signer (slice_set old.sides.items c.place_of-place.result new) old.book in
    elim c.match-relearn.branch [
      | in-Ok w ↦ subst (λ (r : Result (Unit {0}) Verdict). OnOk r (Learns
          (client_view c.args.self.now) c.args.wall c.args.changes.now after))
          (sym w.result-is)
          (subst (λ (x : Standing). Learns (client_view x) c.args.wall c.args.changes.now after) c.self.view_is
          (learns d old.signer old.sides.items old.book c.args.wall c.place_of-place.result s at c.self.invariant
          new c.args.changes.now w.in-Ok.ensures.learnt))
      | in-Err w ↦ subst (λ (r : Result (Unit {0}) Verdict). OnOk r (Learns
          (client_view c.args.self.now) c.args.wall c.args.changes.now after))
          (sym w.result-is) tt
    ]

pub returns-clause-unchanged : goal.returns-clause-unchanged
returns-clause-unchanged g c =
    let h = subst (λ (xs : List Side). HasSide c.args.wall (sides_view xs)) (sym (ap (λ
    (x : Standing). x.sides) c.self.view_is)) c.requires.side in
    let e = c.place_of-place.ensures ∙ ap (λ (xs : List Side). place_of c.args.wall
    (sides_view xs)) c.deref.ensures.value in
    let at = at-place c.args.wall c.self.inside.sides.items c.place_of-place.result c.index_mut-side.result.now e h
    c.index_mut-side.ensures.value in
    let old = c.self.inside in
    let s = c.index_mut-side.result.now in
    let d = g.D.Digester.digest_of in
    let new = c.relearn.new.self in
    let after = now old.signer (slice_set old.sides.items c.place_of-place.result new) old.book in
    elim c.match-relearn.branch [
      | in-Ok w ↦ subst (λ (r : Result (Unit {0}) Verdict). OnErr r (after
          ≡ client_view c.args.self.now)) (sym w.result-is) tt
      | in-Err w ↦ subst (λ (r : Result (Unit {0}) Verdict). OnErr r (after
          ≡ client_view c.args.self.now)) (sym w.result-is)
          (subst (λ (x : Standing). after ≡ client_view x) c.self.view_is
          (unmoved d old.signer old.sides.items old.book c.args.wall c.place_of-place.result s at c.self.invariant
          new old.signer old.book refl w.in-Err.ensures.unchanged refl))
    ]

use Rattle.std.proofs.Common.{◌≡◌, List, sym, subst, arith, map, refl, Some, take, ◌∷◌, []}
use Rattle.std.specs.Prelude.{option_and_then, slice_get}
use Rattle.world_audit.specs.Comparisons.{Comparison, lists, texts_of}
use Rattle.world_audit.specs.Ready.{AreReady}
use Rattle.audit_run.specs.Compared.{Compared}
use Rattle.audit_run.specs.Line.{History}
use Rattle.audit_run.proofs.Others.{found-there, fronts-are, line-within, no-fronts, no-story-fronts}
use Rattle.audit_run.proofs.Owned.{at-place}
use Rattle.audit_run.proofs.record.fronts_clash.Goals as goal

pub returns-in_default : goal.returns-in_default
returns-in_default g c h at =
    no-fronts c.args.index.now.world.now (map (λ r. r.now) c.args.index.now.records.items) c.requires.index
    c.args.histories.now.lines.items c.args.histories.now.places.items c.requires.places g.D.Digester.digest_of c.args.v h.leaves c.args.place
    c.in_default.is

pub returns-in_default-place_of : goal.returns-in_default-place_of
returns-in_default-place_of g c h at =
    let w = c.args.index.now.world.now in
    let R = map (λ r. r.now) c.args.index.now.records.items in
    let lines = c.args.histories.now.lines.items in
    let places = c.args.histories.now.places.items in
    let it = found-there w R c.requires.index lines places c.requires.places c.args.place (option_and_then (slice_get R) c.args.place) c.in-Some.i c.place_of.result c.in-Some.is c.requires.within refl
    (subst (λ ps. slice_get ps c.in-Some.i ≡ Some c.place_of.result) c.deref.ensures.value c.place_of.ensures) in
    no-story-fronts w R c.requires.index lines places c.requires.places g.D.Digester.digest_of c.args.v h.leaves (option_and_then (slice_get R) c.args.place) c.in-Some.i c.place_of.result it
    c.in_default-place_of.is

pub index-requires-2 : goal.index-requires-2
index-requires-2 g c =
    let w = c.args.index.now.world.now in
    let R = map (λ r. r.now) c.args.index.now.records.items in
    let lines = c.args.histories.now.lines.items in
    let places = c.args.histories.now.places.items in
    let it = found-there w R c.requires.index lines places c.requires.places c.args.place (option_and_then (slice_get R) c.args.place) c.in-Some.i c.place_of.result c.in-Some.is c.requires.within refl
    (subst (λ ps. slice_get ps c.in-Some.i ≡ Some c.place_of.result) c.deref.ensures.value c.place_of.ensures) in
    let less = line-within w R c.requires.index lines places c.requires.places (option_and_then (slice_get R) c.args.place) c.in-Some.i c.in-Some-place_of.other c.place_of.result it
    c.in-Some-place_of.is in
    let ok = c.args.histories.now.lines.ok.0 in omega arith

pub front_clash-requires-clause-left : goal.front_clash-requires-clause-left
front_clash-requires-clause-left g c =
    c.requires.long c.index.result.now (at-place c.args.histories.now.lines.items c.args.line c.index.result.now c.requires.line c.index.ensures)

pub front_clash-requires-clause-right : goal.front_clash-requires-clause-right
front_clash-requires-clause-right g c =
    let w = c.args.index.now.world.now in
    let R = map (λ r. r.now) c.args.index.now.records.items in
    let lines = c.args.histories.now.lines.items in
    let places = c.args.histories.now.places.items in
    let it = found-there w R c.requires.index lines places c.requires.places c.args.place (option_and_then (slice_get R) c.args.place) c.in-Some.i c.place_of.result c.in-Some.is c.requires.within refl
    (subst (λ ps. slice_get ps c.in-Some.i ≡ Some c.place_of.result) c.deref.ensures.value c.place_of.ensures) in
    let both = fronts-are w R c.requires.index lines places c.requires.places c.args.v c.index.result.now.leaves (option_and_then (slice_get R) c.args.place) c.in-Some.i c.in-Some-place_of.other c.place_of.result
    c.index-2.result.now it c.in-Some-place_of.is c.index-2.ensures c.requires.size in
    both.0

pub front_clash-requires-clause-ready : goal.front_clash-requires-clause-ready
front_clash-requires-clause-ready g c =
    let w = c.args.index.now.world.now in
    let R = map (λ r. r.now) c.args.index.now.records.items in
    let lines = c.args.histories.now.lines.items in
    let places = c.args.histories.now.places.items in
    let it = found-there w R c.requires.index lines places c.requires.places c.args.place (option_and_then (slice_get R) c.args.place) c.in-Some.i c.place_of.result c.in-Some.is c.requires.within refl
    (subst (λ ps. slice_get ps c.in-Some.i ≡ Some c.place_of.result) c.deref.ensures.value c.place_of.ensures) in
    let both = fronts-are w R c.requires.index lines places c.requires.places c.args.v c.index.result.now.leaves (option_and_then (slice_get R) c.args.place) c.in-Some.i c.in-Some-place_of.other c.place_of.result
    c.index-2.result.now it c.in-Some-place_of.is c.index-2.ensures c.requires.size in
    subst (AreReady g.D.Digester.digest_of) both.1
    (c.requires.ready c.index.result.now (at-place lines c.args.line c.index.result.now c.requires.line c.index.ensures))

pub returns : goal.returns
returns g c h at =
    let w = c.args.index.now.world.now in
    let R = map (λ r. r.now) c.args.index.now.records.items in
    let lines = c.args.histories.now.lines.items in
    let places = c.args.histories.now.places.items in
    let it = found-there w R c.requires.index lines places c.requires.places c.args.place (option_and_then (slice_get R) c.args.place) c.in-Some.i c.place_of.result c.in-Some.is c.requires.within refl
    (subst (λ ps. slice_get ps c.in-Some.i ≡ Some c.place_of.result) c.deref.ensures.value c.place_of.ensures) in
    let both = fronts-are w R c.requires.index lines places c.requires.places c.args.v h.leaves (option_and_then (slice_get R) c.args.place) c.in-Some.i c.in-Some-place_of.other c.place_of.result
    c.index-2.result.now it c.in-Some-place_of.is c.index-2.ensures c.requires.size in
    let there = at-place lines c.args.line c.index.result.now c.requires.line c.index.ensures in
    let same : c.index.result.now ≡ h = cc in
    subst (λ (cs : List Comparison). Compared g.D.Digester.digest_of cs c.in_ok-clash.clash) (sym both.1)
    (subst (λ (x : History). Compared g.D.Digester.digest_of (lists (texts_of (take c.args.v x.leaves)) (texts_of (take c.args.v c.index-2.result.now.leaves)) ∷ []) c.in_ok-clash.clash) same
    c.in_ok-clash.ensures)

use Rattle.std.proofs.Common.{◌≡◌, List, sym, subst, arith, map, refl, Some}
use Rattle.std.specs.Prelude.{slice_get}
use Rattle.world_audit.specs.Comparisons.{Comparison, base}
use Rattle.world_audit.specs.Ready.{AreReady}
use Rattle.audit_run.specs.Compared.{Compared}
use Rattle.audit_run.proofs.Others.{base-is, found-less, found-there, line-within, no-base, no-story-base}
use Rattle.audit_run.proofs.Records.{item-at}
use Rattle.audit_run.proofs.record.base_clash.Goals as goal

pub returns-in_default : goal.returns-in_default
returns-in_default g c =
    no-base c.args.index.now.world.now (map (λ r. r.now) c.args.index.now.records.items) c.requires.index
    c.args.histories.now.lines.items c.args.histories.now.places.items c.requires.places g.D.Digester.digest_of c.args.r.now c.base.result
    c.in_default.is c.base.ensures.is

pub returns-in_default-place_of : goal.returns-in_default-place_of
returns-in_default-place_of g c =
    let w = c.args.index.now.world.now in
    let R = map (λ r. r.now) c.args.index.now.records.items in
    let lines = c.args.histories.now.lines.items in
    let places = c.args.histories.now.places.items in
    let it = found-there w R c.requires.index lines places c.requires.places c.base.result (base w c.args.r.now) c.in-Some.i c.place_of.result c.in-Some.is c.base.ensures.within c.base.ensures.is
    (subst (λ ps. slice_get ps c.in-Some.i ≡ Some c.place_of.result) c.deref.ensures.value c.place_of.ensures) in
    no-story-base w R c.requires.index lines places c.requires.places g.D.Digester.digest_of c.args.r.now c.in-Some.i c.place_of.result it
    c.in_default-place_of.is

pub index-requires-2 : goal.index-requires-2
index-requires-2 g c =
    let w = c.args.index.now.world.now in
    let R = map (λ r. r.now) c.args.index.now.records.items in
    let lines = c.args.histories.now.lines.items in
    let places = c.args.histories.now.places.items in
    let it = found-there w R c.requires.index lines places c.requires.places c.base.result (base w c.args.r.now) c.in-Some.i c.place_of.result c.in-Some.is c.base.ensures.within c.base.ensures.is
    (subst (λ ps. slice_get ps c.in-Some.i ≡ Some c.place_of.result) c.deref.ensures.value c.place_of.ensures) in
    let less = line-within w R c.requires.index lines places c.requires.places (base w c.args.r.now) c.in-Some.i c.in-Some-place_of.line c.place_of.result it
    c.in-Some-place_of.is in
    let ok = c.args.histories.now.lines.ok.0 in omega arith

pub tree_clash-requires-clause-within : goal.tree_clash-requires-clause-within
tree_clash-requires-clause-within g c =
    let w = c.args.index.now.world.now in
    let R = map (λ r. r.now) c.args.index.now.records.items in
    let lines = c.args.histories.now.lines.items in
    let places = c.args.histories.now.places.items in
    let it = found-there w R c.requires.index lines places c.requires.places c.base.result (base w c.args.r.now) c.in-Some.i c.place_of.result c.in-Some.is c.base.ensures.within c.base.ensures.is
    (subst (λ ps. slice_get ps c.in-Some.i ≡ Some c.place_of.result) c.deref.ensures.value c.place_of.ensures) in
    let both = base-is w R c.requires.index lines places c.requires.places c.args.r.now c.in-Some.i c.in-Some-place_of.line c.index.result.now.now.size c.place_of.result
    c.index-2.result.now c.index.result.now.now it c.in-Some-place_of.is c.index-2.ensures
    (item-at (λ r. r.now) c.args.index.now.records.items c.args.index.now.records.items refl c.in-Some.i c.index.result.now
    (found-less (λ r. r.now) c.args.index.now.records.items c.base.result c.in-Some.i c.in-Some.is c.base.ensures.within) c.index.ensures) refl in
    both.0

pub tree_clash-requires-clause-ready : goal.tree_clash-requires-clause-ready
tree_clash-requires-clause-ready g c =
    let w = c.args.index.now.world.now in
    let R = map (λ r. r.now) c.args.index.now.records.items in
    let lines = c.args.histories.now.lines.items in
    let places = c.args.histories.now.places.items in
    let it = found-there w R c.requires.index lines places c.requires.places c.base.result (base w c.args.r.now) c.in-Some.i c.place_of.result c.in-Some.is c.base.ensures.within c.base.ensures.is
    (subst (λ ps. slice_get ps c.in-Some.i ≡ Some c.place_of.result) c.deref.ensures.value c.place_of.ensures) in
    let both = base-is w R c.requires.index lines places c.requires.places c.args.r.now c.in-Some.i c.in-Some-place_of.line c.index.result.now.now.size c.place_of.result
    c.index-2.result.now c.index.result.now.now it c.in-Some-place_of.is c.index-2.ensures
    (item-at (λ r. r.now) c.args.index.now.records.items c.args.index.now.records.items refl c.in-Some.i c.index.result.now
    (found-less (λ r. r.now) c.args.index.now.records.items c.base.result c.in-Some.i c.in-Some.is c.base.ensures.within) c.index.ensures) refl in
    subst (AreReady g.D.Digester.digest_of) both.1 c.requires.ready

pub returns : goal.returns
returns g c =
    let w = c.args.index.now.world.now in
    let R = map (λ r. r.now) c.args.index.now.records.items in
    let lines = c.args.histories.now.lines.items in
    let places = c.args.histories.now.places.items in
    let it = found-there w R c.requires.index lines places c.requires.places c.base.result (base w c.args.r.now) c.in-Some.i c.place_of.result c.in-Some.is c.base.ensures.within c.base.ensures.is
    (subst (λ ps. slice_get ps c.in-Some.i ≡ Some c.place_of.result) c.deref.ensures.value c.place_of.ensures) in
    let both = base-is w R c.requires.index lines places c.requires.places c.args.r.now c.in-Some.i c.in-Some-place_of.line c.index.result.now.now.size c.place_of.result
    c.index-2.result.now c.index.result.now.now it c.in-Some-place_of.is c.index-2.ensures
    (item-at (λ r. r.now) c.args.index.now.records.items c.args.index.now.records.items refl c.in-Some.i c.index.result.now
    (found-less (λ r. r.now) c.args.index.now.records.items c.base.result c.in-Some.i c.in-Some.is c.base.ensures.within) c.index.ensures) refl in
    subst (λ (cs : List Comparison). Compared g.D.Digester.digest_of cs c.in_ok-clash.clash) (sym both.1) c.in_ok-clash.ensures

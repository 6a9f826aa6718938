use Rattle.std.proofs.Common.{◌≡◌, ap, sym, subst, arith, map, length, Some, List, refl}
use Rattle.std.specs.Prelude.{slice_get}
use Rattle.std.proofs.lemmas.List.{length-map}
use Rattle.world_audit.specs.Comparisons.{Comparison}
use Rattle.world_audit.specs.Ready.{AreReady}
use Rattle.audit_run.specs.Compared.{Compared}
use Rattle.audit_run.specs.Fronts.{compared_on}
use Rattle.audit_run.proofs.Others.{no-record, record-ends, record-is, record-long, record-old, record-within}
use Rattle.audit_run.proofs.Ordering.{same-record}
use Rattle.audit_run.proofs.Reaching.{there-at}
use Rattle.audit_run.proofs.Records.{item-at}
use Rattle.audit_run.proofs.record.place_clash.Goals as goal

pub place_of-requires : goal.place_of-requires
place_of-requires g c =
    let count = c.requires.places.count in
    let all = ap length c.requires.index.all in
    let many = length-map c.args.index.now.records.items (λ r. r.now) in
    let e = ap length c.deref.ensures.value in
    let within = c.requires.within in omega arith

pub returns-in_default : goal.returns-in_default
returns-in_default g c r at =
    no-record c.args.index.now.world.now (map (λ x. x.now) c.args.index.now.records.items) c.requires.index c.args.histories.now.lines.items
    c.args.histories.now.places.items c.requires.places c.args.i r c.place_of.result at
    (subst (λ ps. slice_get ps c.args.i ≡ Some c.place_of.result) c.deref.ensures.value c.place_of.ensures) g.D.Digester.digest_of c.in_default.is

pub record_clash-requires : goal.record_clash-requires
record_clash-requires g c =
    let w = c.args.index.now.world.now in
    let R = map (λ x. x.now) c.args.index.now.records.items in
    let lines = c.args.histories.now.lines.items in
    let places = c.args.histories.now.places.items in
    let r = c.index-r.result.now.now in
    let at = item-at (λ x. x.now) c.args.index.now.records.items c.args.index.now.records.items refl c.args.i c.index-r.result.now c.requires.within c.index-r.ensures in
    let here = subst (λ ps. slice_get ps c.args.i ≡ Some c.place_of.result) c.deref.ensures.value c.place_of.ensures in
    let fits = c.is_counted.ensures in
    let ends = record-ends w R c.requires.index lines places c.requires.places c.args.i r c.place_of.result at here c.in-Some.line c.in-Some.is in
    record {
      index = c.requires.index;
      places = c.requires.places;
      line = record-within w R c.requires.index lines places c.requires.places c.args.i r c.place_of.result at here c.in-Some.line c.in-Some.is;
      room = omega arith;
      long = record-long w R c.requires.index lines places c.requires.places c.args.i r c.place_of.result at here c.in-Some.line c.in-Some.is;
      old = record-old w R c.requires.index lines places c.requires.places c.args.i r c.place_of.result at here c.in-Some.line c.in-Some.is;
      ready = λ h it. subst (AreReady g.D.Digester.digest_of)
          (record-is w R c.requires.index lines places c.requires.places c.args.i r c.place_of.result at here c.in-Some.line c.in-Some.is h it)
          (c.requires.ready r at);
    }

pub returns : goal.returns
returns g c r at =
    let w = c.args.index.now.world.now in
    let R = map (λ x. x.now) c.args.index.now.records.items in
    let lines = c.args.histories.now.lines.items in
    let places = c.args.histories.now.places.items in
    let same = same-record (λ x. x.now) c.args.index.now.records.items c.args.i c.index-r.result.now r c.requires.within c.index-r.ensures at in
    let here = subst (λ ps. slice_get ps c.args.i ≡ Some c.place_of.result) c.deref.ensures.value c.place_of.ensures in
    let h = there-at lines c.in-Some.line (record-within w R c.requires.index lines places c.requires.places c.args.i r c.place_of.result at here c.in-Some.line c.in-Some.is) in
    subst (λ (cs : List Comparison). Compared g.D.Digester.digest_of cs c.in_ok-clash.clash)
    (sym (record-is w R c.requires.index lines places c.requires.places c.args.i r c.place_of.result at here c.in-Some.line c.in-Some.is h.0 h.1))
    (subst (λ t. Compared g.D.Digester.digest_of (compared_on w t h.0) c.in_ok-clash.clash) same (c.in_ok-clash.ensures h.0 h.1))

use Rattle.std.proofs.Common.{◌≡◌, ap, arith, map, length, ◌∷◌, []}
use Rattle.std.proofs.lemmas.List.{length-append, length-map}
use Rattle.audit_run.proofs.Ordering.{same-record}
use Rattle.audit_run.proofs.Reaching.{more-held, none-held, table-begins}
use Rattle.audit_run.proofs.stories.all_histories.Goals as goal

pub loop-i-init : goal.loop-i-init
loop-i-init g c =
    let count = c.in_ok-no_rows.ensures.count in
    let e = c.len.ensures in
    let ok = c.args.index.now.records.ok.0 in
    let many = length-map c.args.index.now.records.items (λ r. r.now) in
    let all = ap length c.requires.all in (
      ap length c.new-places.ensures.items,
      table-begins c.args.index.now.world.now c.new.result.items c.in_ok-no_rows.field-0.items c.new.ensures.items (omega arith)
          c.in_ok-no_rows.ensures.unknown,
      none-held c.args.index.now.world.now c.new.result.items c.new-places.result.items c.new-places.ensures.items,
    )

pub reach-requires-clause-place : goal.reach-requires-clause-place
reach-requires-clause-place g c =
    let less = c.loop-i-test.true in
    let e = c.len-i-end.ensures in
    let ok = c.args.index.now.records.ok.0 in
    let many = length-map c.args.index.now.records.items (λ r. r.now) in omega arith

pub reach-requires-clause-fuel : goal.reach-requires-clause-fuel
reach-requires-clause-fuel g c r at =
    let less = c.loop-i-test.true in
    let e = c.len-i-end.ensures in
    let ok = c.args.index.now.records.ok.0 in
    let same = same-record (λ x. x.now) c.args.index.now.records.items c.loop-i.i c.index.result.now r (omega arith) c.index.ensures at in
    let size : c.index.result.now.now.size ≡ r.size = ap (λ t. t.size) same in omega arith

pub loop-i-preserved : goal.loop-i-preserved
loop-i-preserved g c =
    let long = c.loop-i.invariant.0 in
    let more = ap length c.in_ok-push.ensures.items in
    let parts = length-append c.loop-i.places.items (c.in_ok-reach.field-0 ∷ []) in (
      omega arith,
      c.in_ok-reach.ensures.table,
      more-held c.args.index.now.world.now (map (λ r. r.now) c.args.index.now.records.items) c.loop-i.stories.lines.items
          c.reach.new.stories.lines.items c.loop-i.places.items c.push.new.self.items c.loop-i.i c.in_ok-reach.field-0 c.requires.all
          long c.in_ok-push.ensures.items c.in_ok-reach.ensures.grows c.loop-i.invariant.2 c.in_ok-reach.ensures.holds,
    )

pub returns : goal.returns
returns g c =
    let past = c.loop-i-test.false in
    let within = c.loop-i.auto.i-end in
    let long = c.loop-i.invariant.0 in
    let e = c.len-i-end.ensures in
    let ok = c.args.index.now.records.ok.0 in
    let many = length-map c.args.index.now.records.items (λ r. r.now) in
    let all = ap length c.requires.all in
    record { count = omega arith; each = c.loop-i.invariant.2; owners = c.loop-i.invariant.1.owners }

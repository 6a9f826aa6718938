use Rattle.std.proofs.Common.{◌≡◌, sym, ap, length, refl, arith}
use Rattle.std.proofs.lemmas.Option.{slice_get_past}
use Rattle.fr_bytes.proofs.HistoryLaws.{begins_itself}
use Rattle.hall_gate.proofs.Places.{earlier, newest, past, shorter}
use Rattle.hall_gate.proofs.calls.Calls.get.Goals as goal

pub loop-init : goal.loop-init
loop-init g c = record { front = begins_itself c.args.self.now; behind = omega arith }

pub returns-in_err-before : goal.returns-in_err-before
returns-in_err-before g c =
    let kept = c.loop.invariant in
    rw c.from_residual.ensures
    (past c.loop.first.now c.args.self.now c.args.i c.loop.counter kept.front (c.in_err-before.ensures.none refl)
    kept.behind
    (omega arith))

pub loop-preserved : goal.loop-preserved
loop-preserved g c =
    let kept = c.loop.invariant in
    let parts = c.in_ok-before.ensures.parts in
    let less = shorter c.loop.first.now c.in_ok-before.before.now c.in_ok-before.field-0-0.now parts in
    record {
      front = earlier c.loop.first.now c.args.self.now c.in_ok-before.before.now c.in_ok-before.field-0-0.now
          kept.front parts;
      behind = omega arith;
    }

pub loop-before-init : goal.loop-before-init
loop-before-init g c = record {
  front = begins_itself c.args.self.now;
  apart = omega (arith, c.loop.invariant.behind);
  found_is = sym (slice_get_past c.args.self.now _ (omega arith));
}

pub returns-in_err-entry : goal.returns-in_err-entry
returns-in_err-entry g c =
    let kept = c.loop-before.invariant in
    let apart = kept.apart in
    let none = ap length (c.in_err-entry.ensures.none refl) in
    let some = shorter c.loop-before.first.now c.in-Some.before.now c.in-Some.field-0-0.now c.in-Some.ensures.parts in
    absurd (omega arith)

pub loop-before-preserved : goal.loop-before-preserved
loop-before-preserved g c =
    let kept = c.loop-before.invariant in
    let apart = kept.apart in
    let parts = c.in_ok-entry.ensures.parts in
    let less = shorter c.loop-before.at.now c.in_ok-entry.earlier.now c.in_ok-entry.entry.now parts in
    let some = shorter c.loop-before.first.now c.in-Some.before.now c.in-Some.field-0-0.now c.in-Some.ensures.parts in
    record {
      front = earlier c.loop-before.at.now c.args.self.now c.in_ok-entry.earlier.now c.in_ok-entry.entry.now kept.front
          parts;
      apart = omega arith;
      found_is = sym (newest c.loop-before.at.now c.args.self.now c.in_ok-entry.earlier.now c.in_ok-entry.entry.now
          kept.front parts);
    }

pub returns : goal.returns
returns g c =
    let kept = c.loop-before.invariant in
    let apart = kept.apart in
    let none = ap length (c.in_default.ensures.none refl) in
    let here : length c.loop-before.at.now ≡ c.args.i = omega arith in
    rw here at kept.found_is

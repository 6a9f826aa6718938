use Rattle.std.proofs.Common.{◌≡◌, ◌++◌, ◌<◌, length, ◌∙◌, arith}
use Rattle.std.proofs.lemmas.List.{length-set}
use Rattle.std.proofs.lemmas.List.Edits.{fill_by_more}
use Rattle.std.proofs.lemmas.List.FromFn.{fill_by_all}
use Rattle.lms_params.specs.Parameters.{ots_row}
use Rattle.lms_ots.specs.Digits.{coef, checksum, digit, digits, shortfall, u16str}
use Rattle.lms_ots.proofs.coefficients.digits.Goals as goal

pub loop-i-preserved : goal.loop-i-preserved
loop-i-preserved g c =
    let was = c.loop-i.invariant in
    let w = g.row.W in
    let whole = c.with_checksum-whole.result in
    let within : c.loop-i.i < length c.loop-i.out = omega arith in
    let e : c.coef.result ≡ coef whole c.loop-i.i w = c.coef.ensures in
    record {
      sized = length-set c.loop-i.out c.loop-i.i c.coef.result ∙ was.sized;
      written = rw e (fill_by_more (λ k. coef whole k w) c.loop-i.out c.loop-i.i 0 within was.written);
    }

pub returns : goal.returns
unfolding checksum digit digits
returns g c =
    let was = c.loop-i.invariant in
    let e : c.loop-i.i ≡ g.row.P = omega arith in
    let all = fill_by_all (λ k. coef c.with_checksum-whole.result k g.row.W) c.loop-i.out g.row.P 0 was.sized (rw e at was.written) in
    let row = ots_row g.row.CODE g.row.W g.row.P g.row.LS in
    let sum : c.shortfall.result ≡ shortfall row c.args.q.now = c.shortfall.ensures.value in
    let whole : c.with_checksum-whole.result ≡ c.args.q.now ++ u16str (checksum row c.args.q.now) =
    rw sum at c.with_checksum-whole.ensures in
    rw whole at all

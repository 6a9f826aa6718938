use Rattle.std.proofs.Common.{◌≡◌, ◌-◌, ◌/◌, ◌^◌, ◌∙◌, ap, arith, sum_by}
use Rattle.std.specs.List.{range_with_len}
use Rattle.lms_ots.specs.Digits.{coef, shortfall}
use Rattle.lms_ots.proofs.Ranges.{sum_more, small_more}
use Rattle.lms_ots.proofs.coefficients.shortfall.Goals as goal

pub loop-i-preserved : goal.loop-i-preserved
loop-i-preserved g c =
    let w = g.row.W in
    let hash = c.args.hash.now in
    let i = c.loop-i.i in
    let was = c.loop-i.invariant in
    let added : c.from-sum.result ≡ 2 ^ w - 1 - coef hash i w = cc in
    let more = sum_more (λ k. 2 ^ w - 1 - coef hash k w) i in
    record {
      so_far = rw (more, added, was.so_far);
      small = rw added (small_more c.loop-i.sum i (2 ^ w - 1) (coef hash i w) was.small);
    }

pub returns-clause-value : goal.returns-clause-value
unfolding shortfall
returns-clause-value g c =
    let e : c.loop-i.i ≡ 256 / g.row.W = omega arith in
    c.loop-i.invariant.so_far ∙ ap (λ n. sum_by (λ i. 2 ^ g.row.W - 1 - coef c.args.hash.now i g.row.W) (range_with_len 0 n)) e

use Rattle.std.proofs.Common.{◌≡◌, ◌≤◌, ◌-◌, ◌*◌, ◌^◌, sum_by}
use Rattle.std.specs.List.{range_with_len}
use Rattle.lms_ots.specs.Digits.{coef}
use Rattle.lms_ots.proofs.coefficients.shortfall.Given as goal

abbrev pub invariant-loop-i : goal.invariant-loop-i
invariant-loop-i g l = record {
  so_far : l.sum ≡ sum_by (λ i. 2 ^ g.row.W - 1 - coef l.hash i g.row.W) (range_with_len 0 l.i);
  small : l.sum ≤ l.i * (2 ^ g.row.W - 1);
}

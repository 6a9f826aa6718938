use Rattle.std.proofs.Common.{◌≡◌, ℕ, ◌<◌, get_or, length}
use Rattle.lms_ots.specs.Digits.{coef}
use Rattle.lms_ots.proofs.coefficients.digits.Given as goal

abbrev pub invariant-loop-i : goal.invariant-loop-i
invariant-loop-i g l = record {
  sized : length l.out ≡ g.row.P;
  written : (k : ℕ) → k < l.i → get_or l.out k 0 ≡ coef l.whole k g.row.W;
}

use Rattle.std.proofs.Common.{◌≡◌, ℕ, ◌+◌, ◌<◌, drop}
use Rattle.vouch_rule.specs.Vouching.{IsVouched, vouchers}
use Rattle.vouch_rule.proofs.point.vouch_point.Given as goal

abbrev pub invariant-loop-place : goal.invariant-loop-place
invariant-loop-place l =
    (l.found ≡ vouchers (drop l.place l.ops) (l.have + l.place))
    × ((m : ℕ) → IsVouched l.ops l.have l.f m → m < l.have + l.place)

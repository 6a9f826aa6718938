use Rattle.std.proofs.Common.{◌≡◌, ◌+◌, drop}
use Rattle.vouch_rule.proofs.Points.{new_count}
use Rattle.vouch_rule.proofs.point.vouchers_until.Given as goal

abbrev pub invariant-loop-place : goal.invariant-loop-place
invariant-loop-place l = l.found + new_count l.from l.ops (drop l.place l.ops) ≡ new_count l.from l.ops l.ops

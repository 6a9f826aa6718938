use Rattle.std.proofs.Common.{◌≡◌, ◌+◌, drop}
use Rattle.vouch_rule.specs.Vouching.{vouchers}
use Rattle.vouch_rule.proofs.counting.vouchers.Given as goal

abbrev pub invariant-loop-place : goal.invariant-loop-place
invariant-loop-place l = l.found + vouchers (drop l.place l.ops) l.from ≡ vouchers l.ops l.from

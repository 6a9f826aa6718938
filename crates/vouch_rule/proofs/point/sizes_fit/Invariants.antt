use Rattle.std.proofs.Common.{◌<◌, ◌^◌, take}
use Rattle.std.specs.Prelude.{All}
use Rattle.vouch_rule.specs.declared.vouch.Vouch.{Vouch}
use Rattle.vouch_rule.proofs.point.sizes_fit.Given as goal

abbrev pub invariant-loop-op : goal.invariant-loop-op
invariant-loop-op l = All (λ (op : Vouch). op.size < 2 ^ 64) (take l.op-index l.ops)

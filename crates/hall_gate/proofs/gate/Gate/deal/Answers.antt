use Rattle.std.proofs.Common.{arith}
use Rattle.hall_gate.proofs.Seating.{deals}
use Rattle.hall_gate.proofs.gate.Gate.deal.Goals as goal

pub split_seat-seat-requires : goal.split_seat-seat-requires
split_seat-seat-requires g c = let t = g.T.Turned in let shape = c.args.self.now.shape in (
  c.loop-caller.invariant.at,
  omega arith,
  rw c.loop-caller.invariant.state (deals t.valid t.fixed t.entries t.legal t.caller _ _ _),
)

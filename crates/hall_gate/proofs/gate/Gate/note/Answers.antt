use Rattle.std.proofs.Common.{◌∙◌, arith}
use Rattle.hall_gate.proofs.Seating.{notes}
use Rattle.hall_gate.proofs.gate.Gate.note.Goals as goal

pub split_seat-requires : goal.split_seat-requires
split_seat-requires g c = let t = g.T.Turned in let shape = c.args.self.now.shape in (
  c.requires.at,
  omega arith,
  rw c.requires.knows (notes t.valid t.fixed t.entries t.legal t.caller _ _ c.requires.charge),
)

pub returns-clause-seat : goal.returns-clause-seat
returns-clause-seat g c = record {
  charge = c.requires.charge;
  at = c.split_seat.ensures.0 ∙ c.requires.at;
  knows = rw c.requires.knows at c.split_seat.ensures.2;
}

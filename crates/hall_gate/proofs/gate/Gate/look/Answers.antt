use Rattle.std.proofs.Common.{◌∙◌, arith}
use Rattle.hall_gate.specs.Knowing.{has_front}
use Rattle.hall_gate.proofs.Seating.{joins, meets, meets_told}
use Rattle.hall_gate.proofs.gate.Gate.look.Goals as goal

pub join_seat-requires : goal.join_seat-requires
join_seat-requires g c = let t = g.T.Turned in let shape = c.args.self.now.shape in let seat = c.requires.seat in (
  seat.at,
  c.requires.at,
  λ i. (c.requires.note i).1,
  omega arith,
  rw (seat.knows, c.requires.note) (joins t.valid t.fixed t.entries t.legal t.caller _ _ _ _ _ _ _),
)

pub load-requires : goal.load-requires
load-requires g c = let t = g.T.Turned in let shape = c.args.self.now.shape in let seat = c.requires.seat in
    let me = rw (seat.knows, c.requires.note) at c.join_seat.ensures.2 in (
      c.join_seat.ensures.0 ∙ seat.at,
      omega arith,
      rw me (meets t.valid t.fixed t.entries t.legal t.caller _ _ _ _ _),
    )

pub returns-clause-seat : goal.returns-clause-seat
returns-clause-seat g c = let seat = c.requires.seat in let me = rw (seat.knows, c.requires.note) at c.join_seat.ensures.2 in let met = rw me at c.load.ensures.2 in record {
  charge = has_front seat.charge met.front;
  at = c.load.ensures.0 ∙ (c.join_seat.ensures.0 ∙ seat.at);
  knows = met.seat;
}

pub returns-clause-told : goal.returns-clause-told
returns-clause-told g c = let t = g.T.Turned in let me = rw (c.requires.seat.knows, c.requires.note) at c.join_seat.ensures.2 in
    meets_told t.legal t.caller _ _ _ _ (rw me at c.load.ensures.2)

use Rattle.std.proofs.Common.{◌∙◌, Some, arith}
use Rattle.std.proofs.lemmas.List.Elements.{All-pop}
use Rattle.hall_gate.specs.Seats.{IsSeatOf}
use Rattle.hall_gate.proofs.Gathering.{gathers_last, gathers_more}
use Rattle.hall_gate.proofs.Seating.{joins}
use Rattle.hall_gate.proofs.gate.Gate.gather.Goals as goal

pub loop-seat-init : goal.loop-seat-init
loop-seat-init g c = let popped = All-pop (IsSeatOf c.args.self.now) _ _ (Some c.in-Some.last) c.in-Some.ensures.items c.requires.seats in let is = c.into_place-place.ensures in
    let last = gathers_last _ _ _ _ _ c.in-Some.ensures.items popped.1 (λ i. (is i).me) in record {
      at = (λ i. (is i).table_id) ∙ popped.1.at;
      state = last.0;
      seats = popped.0;
      gathered = last.1;
    }

pub join_seat-requires : goal.join_seat-requires
join_seat-requires g c = let t = g.T.Turned in let shape = c.args.self.now.shape in
    let popped = All-pop (IsSeatOf c.args.self.now) _ _ (Some c.in-Some-pop.seat) c.in-Some-pop.ensures.items c.loop-seat.invariant.seats in let is = c.into_place.ensures in
    let me = (λ i. (is i).me) ∙ popped.1.knows in (
      c.loop-seat.invariant.at,
      (λ i. (is i).table_id) ∙ popped.1.at,
      (λ i. (me i).1),
      omega arith,
      rw (c.loop-seat.invariant.state, me) (joins t.valid t.fixed t.entries t.legal t.caller _ _ _ _ _ _ _),
    )

pub loop-seat-preserved : goal.loop-seat-preserved
loop-seat-preserved g c =
    let popped = All-pop (IsSeatOf c.args.self.now) _ _ (Some c.in-Some-pop.seat) c.in-Some-pop.ensures.items c.loop-seat.invariant.seats in let is = c.into_place.ensures in
    let more = gathers_more _ _ _ _ _ _ _ _ c.in-Some-pop.ensures.items popped.1 (λ i. (is i).me) (rw c.loop-seat.invariant.state at c.join_seat.ensures.2) c.loop-seat.invariant.gathered in record {
      at = c.join_seat.ensures.0 ∙ c.loop-seat.invariant.at;
      state = more.0;
      seats = popped.0;
      gathered = more.1;
    }

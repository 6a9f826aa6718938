use Rattle.std.proofs.Common.{◌≡◌, ◌∙◌, arith}
use Rattle.hall_gate.specs.Knowing.{has_front}
use Rattle.hall_gate.proofs.Turning.{serves}
use Rattle.hall_gate.proofs.gate.Gate.give_back.Goals as goal

pub fetch_add-served-requires : goal.fetch_add-served-requires
fetch_add-served-requires g c = let t = g.T.Turned in let shape = c.args.self.now.shape in let h = c.requires.holding in let next = c.requires.next in
    let me = rw h.knows at c.exchange-slot.ensures.3 in
    let same : t.fixed c.args.inner ≡ h.charge.fixed = let e = rw h.knows at next.same in cc in (
      c.exchange-slot.ensures.0 ∙ h.at,
      omega arith,
      rw (shape.1, me) (serves t.valid t.fixed t.entries t.legal t.caller _ _ h.ticket h.charge c.args.inner next.entry next.good same (rw h.knows at next.all) (rw h.knows at next.by) (g.met.T.Turned.always_legal c.args.inner next.good)),
    )

pub returns-clause-seat : goal.returns-clause-seat
returns-clause-seat g c = let h = c.requires.holding in let me = rw h.knows at c.exchange-slot.ensures.3 in record {
  charge = has_front h.charge (g.T.Turned.entries c.args.inner);
  at = c.fetch_add-served.ensures.0 ∙ (c.exchange-slot.ensures.0 ∙ h.at);
  knows = rw me at c.fetch_add-served.ensures.2;
}

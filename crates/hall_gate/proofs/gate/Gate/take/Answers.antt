use Rattle.std.proofs.Common.{◌∙◌, refl, Some}
use Rattle.hall_gate.proofs.gate.Gate.take.Goals as goal

pub exchange-slot-requires : goal.exchange-slot-requires
exchange-slot-requires g c = let h = c.requires.1 in (h.at, (Some c.requires.0, rw h.knows refl))

pub returns-clause-holding : goal.returns-clause-holding
returns-clause-holding g c = let h = c.requires.1 in record {
  charge = h.charge;
  ticket = h.ticket;
  at = c.exchange-slot.ensures.0 ∙ h.at;
  knows = rw h.knows at c.exchange-slot.ensures.3;
}

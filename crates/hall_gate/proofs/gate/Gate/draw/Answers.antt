use Rattle.std.proofs.Common.{◌∙◌, arith}
use Rattle.hall_gate.proofs.Turning.{draws}
use Rattle.hall_gate.proofs.gate.Gate.draw.Goals as goal

pub fetch_add-requires : goal.fetch_add-requires
fetch_add-requires g c = let t = g.T.Turned in let shape = c.args.self.now.shape in (
  c.requires.at,
  omega arith,
  rw c.requires.knows (draws t.valid t.fixed t.entries t.legal t.caller _ _ _ _),
)

pub returns-clause-waiting : goal.returns-clause-waiting
returns-clause-waiting g c = record {
  charge = c.requires.charge;
  at = c.fetch_add.ensures.0 ∙ c.requires.at;
  knows = rw c.requires.knows at c.fetch_add.ensures.2;
}

use Rattle.std.proofs.Common.{◌∙◌, arith}
use Rattle.hall_gate.proofs.Opening.{opens, fills}
use Rattle.hall_gate.proofs.gate.Gate.enter.Goals as goal

pub load-requires : goal.load-requires
load-requires g c = let t = g.T.Turned in let shape = c.args.self.now.shape in (
  c.requires.at,
  omega arith,
  rw c.requires.unborn (opens t.valid t.fixed t.entries t.legal t.caller _ _ _),
)

pub load-requires-2 : goal.load-requires-2
load-requires-2 g c = let t = g.T.Turned in let shape = c.args.self.now.shape in
    let opened = rw c.requires.unborn at c.load.ensures.2 in let me = rw opened at c.exchange-slot.ensures.3 in (
      c.exchange-slot.ensures.0 ∙ (c.load.ensures.0 ∙ c.requires.at),
      omega arith,
      rw me (fills t.valid t.fixed t.entries t.legal t.caller _ _ _ c.args.inner c.requires.valid c.requires.fresh (g.met.T.Turned.always_legal c.args.inner c.requires.valid)),
    )

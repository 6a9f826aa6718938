use Rattle.fr_edges.proofs.MemoryLemmas.{brings_carries}
use Rattle.fr_edges.proofs.mem_wire.MemWireWire.carry.Goals as goal

pub returns-else-next_fails-clause-carries : goal.returns-else-next_fails-clause-carries
returns-else-next_fails-clause-carries c = brings_carries c.args.self.now c.bring.new.self _ _ _ _ c.bring.ensures

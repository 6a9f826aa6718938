use Rattle.key_graph.proofs.Streams.{not_root, once, one_generation}
use Rattle.key_graph.proofs.laws.streams.Goals as goal

pub returns-clause-once : goal.returns-clause-once
returns-clause-once c = λ setting p i j u fit small a b. once setting p fit small i j u a b

pub returns-clause-root : goal.returns-clause-root
returns-clause-root c = λ setting p i g u a e. not_root setting p i u g a e

pub returns-clause-generations : goal.returns-clause-generations
returns-clause-generations c = one_generation

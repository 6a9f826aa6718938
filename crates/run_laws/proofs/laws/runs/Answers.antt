use Rattle.run_laws.proofs.Bridging.{untouched}
use Rattle.run_laws.proofs.laws.runs.Goals as goal

pub returns : goal.returns
returns c = λ d script wires wires' world halls outcomes run limits straight.
    untouched d script limits wires wires' world halls outcomes run straight

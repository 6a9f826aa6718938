use Rattle.pad_wrap.proofs.Pads.{twice, size}
use Rattle.pad_wrap.proofs.laws.pads.Goals as goal

pub returns-clause-undone : goal.returns-clause-undone
returns-clause-undone c = twice

pub returns-clause-size : goal.returns-clause-size
returns-clause-size c = size

use Rattle.wall_law.proofs.Histories.{state_of-snoc, state_of-rising, state_of-epoch}
use Rattle.wall_law.proofs.laws.states.Goals as goal

pub returns : goal.returns
returns c = record { added = state_of-snoc; rising = state_of-rising; epoch = state_of-epoch }

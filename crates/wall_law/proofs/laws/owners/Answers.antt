use Rattle.wall_law.proofs.Owners.{after-owner, state_of-owner, state_of-some, state_of-alone}
use Rattle.wall_law.proofs.laws.owners.Goals as goal

pub returns : goal.returns
returns c = record { stays = after-owner; listed = state_of-owner; some = state_of-some; alone = state_of-alone }

use Rattle.frient_script.proofs.WithinLimits.{within_limits}
use Rattle.frient_script.proofs.generated.generated_law.Goals as goal

pub returns : goal.returns
returns c = within_limits c.args.number

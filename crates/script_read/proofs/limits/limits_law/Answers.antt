use Rattle.script_read.proofs.WholeScript.{limits}
use Rattle.script_read.proofs.limits.limits_law.Goals as goal

pub returns : goal.returns
returns c = limits c.args.bytes.now c.args.script.now c.requires

use Rattle.std.proofs.Common.{rules}
use Rattle.op_types.specs.Spelling.{no_root}
use Rattle.hall_core.proofs.signing.no_view.Goals as goal

pub returns : goal.returns
unfolding no_root
returns c = search rules

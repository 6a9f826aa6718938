use Rattle.std.proofs.Common.{drop, arith, length-drop}
use Rattle.std.proofs.lemmas.List.{take_all}
use Rattle.lms_ots.proofs.chain.element.Goals as goal

pub returns-clause-value : goal.returns-clause-value
returns-clause-value c = take_all 32 (drop 23 c.args.input.now) (omega (arith, length-drop 23 c.args.input.now, c.told-input))

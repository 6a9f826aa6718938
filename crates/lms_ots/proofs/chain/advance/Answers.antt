use Rattle.std.proofs.Common.{◌<◌, length, ap, ◌∙◌, arith}
use Rattle.std.proofs.lemmas.List.{take-set, set_split}
use Rattle.sha2.specs.Sha256.{sha256}
use Rattle.lms_ots.specs.Chain.{step}
use Rattle.lms_ots.proofs.Elements.{shorter}
use Rattle.lms_ots.proofs.chain.advance.Goals as goal

pub returns-clause-name : goal.returns-clause-name
returns-clause-name c = c.put_element.ensures.name ∙ take-set c.args.input.now 22 c.args.j

pub returns-clause-element : goal.returns-clause-element
unfolding step
returns-clause-element c =
    let within : 22 < length c.args.input.now = omega (arith, c.told-input) in
    c.put_element.ensures.element ∙
    (c.digest-next.ensures ∙ ap sha256 (set_split c.args.input.now 22 c.args.j within))

pub returns-clause-leaf : goal.returns-clause-leaf
returns-clause-leaf c = shorter 20 22 c.put_element.new.input c.args.input.now (omega arith) (returns-clause-name c)

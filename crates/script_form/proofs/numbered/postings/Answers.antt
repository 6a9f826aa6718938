use Rattle.std.proofs.Common.{rules}
use Rattle.script_form.specs.Generated.{posting}
use Rattle.script_form.proofs.numbered.postings.Goals as goal

pub returns : goal.returns
returns c = c.numbered.ensures posting (λ x r lt made. search rules)

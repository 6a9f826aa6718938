use Rattle.check_rules.proofs.Takings.{is-said, is-taken, takes}
use Rattle.check_rules.proofs.laws.takings.Goals as goal

pub returns-clause-exactly : goal.returns-clause-exactly
returns-clause-exactly c = λ d known asked bytes view from tree leaves lists.
    (takes d known asked bytes view from tree leaves lists, is-taken d known asked bytes view from tree leaves lists)

pub returns-clause-said : goal.returns-clause-said
returns-clause-said c = is-said

use Rattle.session_laws.proofs.Fronts.{closed-is-last, one-stretch}
use Rattle.session_laws.proofs.laws.histories.Goals as goal

pub returns-clause-stretch : goal.returns-clause-stretch
returns-clause-stretch c = λ u users before lanes met news history t p.
    let one = one-stretch u users before lanes met news history t p in
    (one.stretch, one.together, one.own_news)

pub returns-clause-end : goal.returns-clause-end
returns-clause-end c = λ u users front history entries t closed. closed-is-last u users front history entries t closed

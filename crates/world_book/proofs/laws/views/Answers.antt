use Rattle.world_book.proofs.Records.{record-facts, signed-seen}
use Rattle.world_book.proofs.laws.views.Goals as goal

pub returns-clause-before : goal.returns-clause-before
returns-clause-before c = λ d w kept r at some. let it = (record-facts d w kept r at).prev some in (it.0, it.1.found)

pub returns-clause-embedded : goal.returns-clause-embedded
returns-clause-embedded c = signed-seen

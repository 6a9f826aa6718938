use Rattle.dict_proof.specs.View.{change_view, list_view}
use Rattle.dict_proof.proofs.Prunings.{left_prunes}
use Rattle.dict_proof.proofs.changes.apply.Goals as goal

pub returns-clause-pruning : goal.returns-clause-pruning
returns-clause-pruning c = λ d E rising fits prunes.
    left_prunes d (list_view c.args.p) E c.args.author c.args.next (change_view c.args.change) c.changed_list.result
    c.changed_list.ensures.value rising fits prunes

use Rattle.pruned_list.proofs.Insertions.{insert-prunes}
use Rattle.pruned_list.proofs.Joins.{join-prunes}
use Rattle.pruned_list.proofs.Removals.{next-prunes, remove-prunes}
use Rattle.pruned_list.proofs.Splits.{split-prunes}
use Rattle.pruned_list.proofs.laws.steps.Goals as goal

pub returns : goal.returns
returns g c = record {
  set_next = next-prunes g.D.Digester.digest_of;
  insert = insert-prunes g.D.Digester.digest_of;
  remove = remove-prunes g.D.Digester.digest_of;
  split = split-prunes g.D.Digester.digest_of;
  join = join-prunes g.D.Digester.digest_of;
}

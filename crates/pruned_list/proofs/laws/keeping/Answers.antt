use Rattle.pruned_list.proofs.Keeping.{kept-prunes}
use Rattle.pruned_list.proofs.Shown.{added-kept, author-kept, changed-kept, dropped-kept}
use Rattle.pruned_list.proofs.laws.keeping.Goals as goal

pub returns : goal.returns
returns g c = record {
  prunes = kept-prunes g.D.Digester.digest_of;
  operation = changed-kept g.D.Digester.digest_of;
  author = author-kept g.D.Digester.digest_of;
  added = added-kept g.D.Digester.digest_of;
  dropped = dropped-kept g.D.Digester.digest_of;
}

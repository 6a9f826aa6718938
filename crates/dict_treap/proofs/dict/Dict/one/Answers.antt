use Rattle.dict_treap.proofs.Treaps.{one-makes}
use Rattle.dict_treap.proofs.dict.Dict.one.Goals as goal

pub of-requires-clause-some : goal.of-requires-clause-some
of-requires-clause-some g c = rw c.in_ok-over.ensures (one-makes g.D.Digester.digest_of c.args.entry).some

pub of-requires-clause-treap : goal.of-requires-clause-treap
of-requires-clause-treap g c = rw c.in_ok-over.ensures (one-makes g.D.Digester.digest_of c.args.entry).treap

pub returns : goal.returns
returns g c = rw (c.in_ok-over.ensures, (one-makes g.D.Digester.digest_of c.args.entry).entries) at c.of.ensures

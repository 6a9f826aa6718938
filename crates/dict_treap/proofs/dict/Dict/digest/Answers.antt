use Rattle.dict_treap.proofs.Treaps.{digest-is}
use Rattle.dict_treap.proofs.dict.Dict.digest.Goals as goal

pub returns : goal.returns
returns g c =
    digest-is g.D.Digester.digest_of c.root.result.now c.args.self.now c.digest.result
    c.root.ensures.treap c.digest.ensures

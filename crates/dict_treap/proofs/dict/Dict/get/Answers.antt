use Rattle.dict_treap.proofs.Treaps.{finds}
use Rattle.dict_treap.proofs.dict.Dict.get.Goals as goal

pub returns : goal.returns
returns g c =
    finds g.D.Digester.digest_of c.root.result.now c.args.self.now c.args.user c.find.result c.root.ensures.rising
    c.root.ensures.whole c.root.ensures.treap c.find.ensures

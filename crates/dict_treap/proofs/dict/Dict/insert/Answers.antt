use Rattle.dict_treap.specs.Treap.{owned}
use Rattle.dict_treap.proofs.Treaps.{insert-makes}
use Rattle.dict_treap.proofs.dict.Dict.insert.Goals as goal

pub of-requires : goal.of-requires
of-requires g c =
    let tree = c.root.ensures in
    let made =
    insert-makes g.D.Digester.digest_of c.args.entry c.root.result.now (owned c.in_ok-root.root) c.args.self.now
    tree.rising tree.whole tree.treap c.requires.absent c.in_ok-root.ensures in
    record { some = made.some; treap = made.treap }

pub returns : goal.returns
returns g c =
    let tree = c.root.ensures in
    let made =
    insert-makes g.D.Digester.digest_of c.args.entry c.root.result.now (owned c.in_ok-root.root) c.args.self.now
    tree.rising tree.whole tree.treap c.requires.absent c.in_ok-root.ensures in
    rw made.entries at c.of.ensures

use Rattle.dict_treap.specs.Treap.{owned}
use Rattle.dict_treap.proofs.Treaps.{set_next-makes}
use Rattle.dict_treap.proofs.dict.Dict.set_next.Goals as goal

pub of-requires : goal.of-requires
of-requires g c =
    let tree = c.root.ensures in
    let made =
    set_next-makes g.D.Digester.digest_of c.args.user c.args.next c.root.result.now (owned c.in_ok-root.root)
    c.args.self.now
    tree.rising tree.whole tree.treap c.in_ok-root.ensures in
    record { some = made.some; treap = made.treap }

pub returns : goal.returns
returns g c =
    let tree = c.root.ensures in
    let made =
    set_next-makes g.D.Digester.digest_of c.args.user c.args.next c.root.result.now (owned c.in_ok-root.root)
    c.args.self.now
    tree.rising tree.whole tree.treap c.in_ok-root.ensures in
    rw made.entries at c.of.ensures

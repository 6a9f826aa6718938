use Rattle.dict_treap.proofs.Treaps.{any-parted, parted}
use Rattle.dict_treap.proofs.dict.Dict.top.Goals as goal

pub part-requires : goal.part-requires
part-requires g c =
    let tree = c.root-root.ensures in
    rw c.left.ensures.value
    (any-parted g.D.Digester.digest_of c.root-root.result.now c.args.self.now tree.rising tree.whole tree.treap).0

pub part-requires-2 : goal.part-requires-2
part-requires-2 g c =
    let tree = c.root-root.ensures in
    rw c.right.ensures.value
    (any-parted g.D.Digester.digest_of c.root-root.result.now c.args.self.now tree.rising tree.whole tree.treap).1

pub returns : goal.returns
returns g c =
    let tree = c.root-root.ensures in
    let parts =
    parted g.D.Digester.digest_of c.root-root.result.now c.args.self.now c.entry.result
    tree.rising tree.whole tree.treap c.entry.ensures in
    record {
      entry = parts.top;
      smaller = rw (c.left.ensures.value, parts.smaller_users) at c.in_ok-smaller.ensures;
      greater = rw (c.right.ensures.value, parts.greater_users) at c.in_ok-greater.ensures;
    }

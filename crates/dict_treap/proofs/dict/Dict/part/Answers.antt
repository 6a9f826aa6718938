use Rattle.std.proofs.Common.{refl}
use Rattle.dict_treap.specs.Treap.{part}
use Rattle.dict_treap.proofs.Treaps.{none-absent, some-node}
use Rattle.dict_treap.proofs.dict.Dict.part.Goals as goal

pub returns-in_default : goal.returns-in_default
returns-in_default g c = none-absent (part c.args.at) (rw c.in_default.is refl)

pub of-requires-clause-some : goal.of-requires-clause-some
of-requires-clause-some g c =
    rw (c.in_ok-root.ensures, c.in-Some.is) (some-node c.entry-entry.result c.in-Some.node.now c.entry-entry.ensures)

use Rattle.std.proofs.Common.{refl}
use Rattle.dict_treap.proofs.Treaps.{some-absent}
use Rattle.dict_treap.specs.Treap.{owned}
use Rattle.dict_treap.proofs.dict.Dict.of.Goals as goal

pub unreachable-requires : goal.unreachable-requires
unreachable-requires g c = some-absent (owned c.args.root) (rw c.in_default.is refl) c.requires.some

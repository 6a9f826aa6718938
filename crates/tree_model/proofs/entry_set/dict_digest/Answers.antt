use Rattle.std.proofs.Common.{◌∙◌, sym}
use Rattle.tree_model.proofs.AccessLists.{set_digest-some}
use Rattle.tree_model.proofs.entry_set.dict_digest.Goals as goal

pub unreachable-requires : goal.unreachable-requires
unreachable-requires g c = set_digest-some g.D.Digester.digest_of c.args.entries.now c.requires.some (sym c.set_digest.ensures ∙ c.in-None.is)

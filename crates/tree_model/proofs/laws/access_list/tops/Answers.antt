use Rattle.tree_model.proofs.Tops.{top-exactly, top-filter, top-none}
use Rattle.tree_model.proofs.laws.access_list.tops.Goals as goal

pub returns : goal.returns
returns c = record { exactly = top-exactly; none = top-none; part = top-filter }

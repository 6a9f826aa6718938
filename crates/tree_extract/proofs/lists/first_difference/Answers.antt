use Rattle.std.proofs.Common.{◌∙◌, sym}
use Rattle.tree_extract.proofs.Differences.{list_difference-at}
use Rattle.tree_extract.proofs.lists.first_difference.Goals as goal

pub returns : goal.returns
returns g c =
    c.compare.ensures.found
    ∙ sym (list_difference-at g.D.Digester.digest_of c.args.a.now c.args.b.now c.depth_of.result c.depth_of.ensures.value c.requires.lengths)

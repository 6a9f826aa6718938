use Rattle.std.proofs.Common.{◌≡◌, ◌∙◌, ap, arith, length, sym}
use Rattle.hist_proof.specs.View.{tree_view}
use Rattle.hist_proof.proofs.Trees.{fits-is}
use Rattle.tree_model.specs.History.{depth}
use Rattle.tree_extract.proofs.PrunedDifferences.{history_difference-at}
use Rattle.tree_extract.proofs.history.compare_all.Goals as goal

pub depth_of-requires : goal.depth_of-requires
depth_of-requires g c = (fits-is (tree_view c.args.p.now) c.args.size c.requires.fitting).some

pub compare_parts-requires-clause-some : goal.compare_parts-requires-clause-some
compare_parts-requires-clause-some g c =
    let some = (fits-is (tree_view c.args.p.now) c.args.size c.requires.fitting).some in
    let count = c.requires.lengths in omega arith

pub compare_parts-requires-clause-fitting : goal.compare_parts-requires-clause-fitting
compare_parts-requires-clause-fitting g c =
    rw (c.depth_of.ensures.value, c.requires.lengths) ((fits-is (tree_view c.args.p.now) c.args.size
    c.requires.fitting).parts)

pub returns-clause-found : goal.returns-clause-found
returns-clause-found g c =
    let height : depth (length c.args.texts.now) ≡ c.depth_of.result = ap depth c.requires.lengths
    ∙ sym c.depth_of.ensures.value in
    rw (history_difference-at g.D.Digester.digest_of (tree_view c.args.p.now) c.args.texts.now, height)
    c.compare_parts.ensures.found

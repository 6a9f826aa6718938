use Rattle.hist_proof.specs.View.{tree_view}
use Rattle.hist_proof.proofs.Spellings.{cuts_spelled}
use Rattle.hist_proof.proofs.cuts.cut.Goals as goal

pub returns-clause-spelled : goal.returns-clause-spelled
returns-clause-spelled c spelled =
    cuts_spelled (tree_view c.args.p.now) c.args.size c.args.v c.cut_any.result c.cut_any.ensures spelled

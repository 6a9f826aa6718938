use Rattle.std.proofs.Common.{◌∙◌, arith, map}
use Rattle.std.proofs.lemmas.List.{length-map}
use Rattle.hist_tree.proofs.Nodes.{node-top}
use Rattle.hist_tree.proofs.hist.Hist.root_at.Goals as goal

pub returns : goal.returns
returns g c =
    let count = length-map c.args.self.now g.T.HasText.text_of in
    let within = c.requires.within in
    (rw c.depth_of.ensures.value at c.node.ensures)
    ∙ node-top g.D.Digester.digest_of (map g.T.HasText.text_of c.args.self.now) c.args.v (omega arith)

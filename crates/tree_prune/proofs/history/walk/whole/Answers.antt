use Rattle.std.proofs.Common.{◌∙◌, arith, map}
use Rattle.std.proofs.lemmas.List.{length-map}
use Rattle.std.proofs.lemmas.Result.{IfOk-weaker}
use Rattle.tree_model.specs.History.{part}
use Rattle.tree_prune.specs.Wanted.{is_wanted}
use Rattle.tree_prune.proofs.Steps.{step-whole}
use Rattle.tree_prune.proofs.Wants.{versions-first}
use Rattle.tree_prune.proofs.history.walk.whole.Goals as goal

pub returns : goal.returns
returns g c =
    let count = length-map c.args.h.now g.T.HasText.text_of in
    let version = c.requires.version in
    let w = c.args.wanted.now in
    let all = step-whole (part g.D.Digester.digest_of) (is_wanted w.from w.positions.now) w.versions.now (map
    g.T.HasText.text_of c.args.h.now) c.args.size (omega arith) (versions-first w.versions.now) in
    IfOk-weaker c.pruned.result _ _ (λ p is. is ∙ all) (rw c.depth_of.ensures.value at c.pruned.ensures)

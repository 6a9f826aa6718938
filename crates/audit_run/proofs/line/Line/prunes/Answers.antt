use Rattle.std.proofs.Common.{◌∙◌, ap, subst, arith, map, take, length, List}
use Rattle.std.specs.List.{take-map}
use Rattle.std.proofs.lemmas.List.{length-map}
use Rattle.fr_bytes.specs.Bytes.{Text}
use Rattle.hist_proof.specs.Pruned.{Prunes}
use Rattle.hist_proof.specs.View.{tree_view}
use Rattle.op_types.specs.Spelling.{leaf_text}
use Rattle.audit_run.specs.Line.{History}
use Rattle.audit_run.specs.declared.line.LeafText.{LeafText}
use Rattle.audit_run.proofs.Prunings.{whole-tree}
use Rattle.audit_run.proofs.line.Line.prunes.Goals as goal

pub returns : goal.returns
returns g c =
    let are = c.self.invariant.3 ∙ ap (λ (h : History). map leaf_text h.leaves) c.self.view_is in
    let long = ap length are ∙ length-map c.args.self.now.leaves leaf_text in
    let within = c.requires.within in
    λ yes. subst (λ (xs : List Text). Prunes g.D.Digester.digest_of (tree_view c.args.tree.now) xs)
    (ap (take c.args.size) are ∙ take-map leaf_text c.args.size c.args.self.now.leaves)
    (whole-tree g.D.Digester.digest_of c.args.size (map (λ (x : LeafText). x.text) c.self.inside.texts)
    (tree_view c.args.tree.now) c.requires.some (omega arith)
    (rw (← c.depth_of.ensures.value) (c.prunes_part.ensures yes)))

use Rattle.std.proofs.Common.{◌≡◌, ◌∙◌, Some, sym, ap}
use Rattle.std.specs.Option.{option_or}
use Rattle.tree_model.specs.AccessList.{node_text}
use Rattle.tree_extract.specs.Difference.{clash_at}
use Rattle.tree_extract.specs.NodeString.{found_strings}
use Rattle.tree_extract.proofs.AccessListDifferences.{over-same}
use Rattle.tree_extract.proofs.Differences.{both_none}
use Rattle.tree_extract.proofs.NodeStrings.{found_strings-or}
use Rattle.tree_extract.proofs.dicts.over_parts.Goals as goal

pub returns : goal.returns
returns g c =
    let d = g.D.Digester.digest_of in
    let node = c.compare_nodes-node.ensures in
    let here = clash_at d (node_text c.args.entry c.args.left.a c.args.right.a) (node_text c.args.top c.args.left.b c.args.right.b) in
    let finds =
    node.found
    ∙ ap (λ x. option_or here x) (ap found_strings c.or.ensures ∙ found_strings-or c.args.left.found c.args.right.found) in
    record {
      part = ap (λ x. Some x) node.a;
      set = ap (λ x. Some x) node.b;
      finds = finds;
      same = λ agree none.
          let digests : c.compare_nodes-node.result.a ≡ c.compare_nodes-node.result.b = cc in
          over-same d c.args.entry c.args.top c.args.left.a c.args.left.b c.args.right.a c.args.right.b c.range.ensures c.range-2.ensures
          c.is_sized.ensures c.is_sized-2.ensures (sym node.a ∙ digests ∙ node.b) (both_none _ _ (sym finds ∙ none)).0;
    }

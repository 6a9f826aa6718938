use Rattle.std.proofs.Common.{◌≡◌, ◌∙◌, ℕ, None, Some, List, Option, refl, sym, ap, subst, rules, length}
use Rattle.dict_proof.specs.View.{list_view, part_view}
use Rattle.dict_proof.proofs.Views.{list_view-hidden, list_view-node, list_view-some}
use Rattle.tree_extract.specs.NodeString.{found_strings}
use Rattle.tree_extract.proofs.AccessListDifferences.{compared-absent, compared-empty, compared-hidden, compared-node}
use Rattle.tree_extract.proofs.dicts.+compared.Goals as goal

pub compare_part-returns-in-None : goal.compare_part-returns-in-None
compare_part-returns-in-None g t c =
    rw c.in-None.is (compared-absent g.D.Digester.digest_of c.set_digest.result c.args.entries.now c.set_digest.ensures)

pub compare_list-returns-in-Hidden : goal.compare_list-returns-in-Hidden
compare_list-returns-in-Hidden g t c =
    let is = ap list_view c.in-Hidden.is ∙ list_view-hidden c.in-Hidden.x in
    rw is (compared-hidden g.D.Digester.digest_of c.in-Hidden.x c.set_digest.result c.args.entries.now c.set_digest.ensures)

pub compare_list-returns-then-is_empty : goal.compare_list-returns-then-is_empty
compare_list-returns-then-is_empty g t c =
    compared-empty g.D.Digester.digest_of (list_view c.args.p.now) c.digest.result c.args.entries.now
    (list_view-some c.args.p.now) c.digest.ensures (search rules)

pub compare_list-returns-else-is_empty : goal.compare_list-returns-else-is_empty
compare_list-returns-else-is_empty g t c =
    let is = ap list_view c.in-Node.is ∙ list_view-node c.in-Node.entry c.in-Node.left c.in-Node.right in
    rw is
    (compared-node g.D.Digester.digest_of c.in-Node.entry (part_view c.in-Node.left) (part_view c.in-Node.right)
    c.args.entries.now c.around.result.0 c.around.result.1.now c.around.result.2.now
    (c.compare_part-left.result.a, c.compare_part-left.result.b, found_strings c.compare_part-left.result.found)
    (c.compare_part-right.result.a, c.compare_part-right.result.b, found_strings c.compare_part-right.result.found)
    (c.over_parts.result.a, c.over_parts.result.b, found_strings c.over_parts.result.found)
    c.around.ensures.top c.around.ensures.smaller c.around.ensures.greater c.compare_part-left.ensures
    c.compare_part-right.ensures c.over_parts.ensures)

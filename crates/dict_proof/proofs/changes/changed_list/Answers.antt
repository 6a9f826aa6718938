use Rattle.std.proofs.Common.{◌≡◌, ◌∙◌, Some, ap, sym}
use Rattle.std.specs.Option.{option_map}
use Rattle.pruned_list.specs.PrunedList.{absent, changed}
use Rattle.dict_proof.specs.View.{change_view, list_view, part_view}
use Rattle.dict_proof.proofs.Staying.{changed_some}
use Rattle.dict_proof.proofs.Views.{list_view-some}
use Rattle.dict_proof.proofs.changes.changed_list.Goals as goal

pub unreachable-requires : goal.unreachable-requires
unreachable-requires c =
    let is : Some absent ≡ changed (part_view c.in_ok-part.part) c.args.author c.args.next (change_view c.args.change) =
    sym (ap (option_map part_view) (c.in-Some-None.is ∙ ap (λ p. Some p) c.in-Some-None.field-0-is)) ∙ c.in_ok-changed.ensures in
    changed_some (list_view c.args.p) c.args.author c.args.next (change_view c.args.change) (list_view-some c.args.p)
    c.requires.keeps
    (sym (is ∙ ap (λ p. changed p c.args.author c.args.next (change_view c.args.change)) c.in_ok-part.ensures))

use Rattle.std.proofs.Common.{◌≡◌, List, [], drop}
use Rattle.serde_json.specs.Data.{Data}
use Rattle.serde_json.specs.View.{view, items_view}
use Rattle.script_read.specs.Refusal.{Checked, Gives}
use Rattle.script_read.specs.Elements.{each}
use Rattle.script_read.proofs.elements.elements.Given as goal

-- the elements so far with those that are left are those of the list
abbrev pub invariant-loop-value : goal.invariant-loop-value
invariant-loop-value g l =
    (one : List g.row.T.Denot → Data → Checked g.row.T.Denot)
    → ((before : _) (value : _) (r : _) → goal.F-post g l.read before value r
    → Gives (λ x. x) r (one before.now (view value.now)))
    → each one l.done.items (items_view (drop l.value-index l.list)) ≡ each one [] (items_view l.list)

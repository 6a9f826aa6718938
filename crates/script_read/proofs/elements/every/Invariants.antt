use Rattle.std.proofs.Common.{◌≡◌, drop}
use Rattle.std.specs.Prelude.{⊤}
use Rattle.script_read.specs.Refusal.{Checked, Gives}
use Rattle.script_read.specs.Elements.{every}
use Rattle.script_read.proofs.elements.every.Given as goal

-- the elements that are left decide
abbrev pub invariant-loop-item : goal.invariant-loop-item
invariant-loop-item g l =
    (one : g.row.T.Denot → Checked ⊤)
    → ((x : _) (r : _) → goal.F-post g l.check x r → Gives (λ u. u) r (one x.now))
    → every one (drop l.item-index l.items) ≡ every one l.items

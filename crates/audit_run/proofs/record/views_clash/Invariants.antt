use Rattle.std.proofs.Common.{◌≡◌, drop, Some}
use Rattle.std.specs.Prelude.{slice_get}
use Rattle.std.specs.List.{flat_map}
use Rattle.audit_run.specs.Fronts.{view_on}
use Rattle.audit_run.specs.Line.{History}
use Rattle.audit_run.proofs.Comparing.{Remains}
use Rattle.audit_run.proofs.record.views_clash.Given as goal

abbrev pub invariant-loop-leaf : goal.invariant-loop-leaf
invariant-loop-leaf g l = (h : History) → slice_get l.histories.lines.items l.line ≡ Some h
    → Remains g.D.Digester.digest_of (flat_map (view_on l.index.world.now l.wall h.leaves) (drop l.leaf-index l.leaves))
    (flat_map (view_on l.index.world.now l.wall h.leaves) l.leaves)

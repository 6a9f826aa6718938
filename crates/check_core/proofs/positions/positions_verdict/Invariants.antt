use Rattle.std.proofs.Common.{map}
use Rattle.dict_proof.specs.View.{list_view}
use Rattle.check_core.specs.Finding.{told_view}
use Rattle.check_core.proofs.PositionRows.{Walks}
use Rattle.check_core.proofs.positions.positions_verdict.Given as goal

abbrev pub invariant-loop-i : goal.invariant-loop-i
invariant-loop-i g l = Walks g.D.Digester.digest_of l.known l.tree.tree l.tree.size
    (told_view l.fn.first) l.from l.leaves
    (map list_view l.lists) (told_view l.before) l.i

use Rattle.std.proofs.Common.{◌+◌, ◌*◌}
use Rattle.dict_proof.proofs.reading.+list.Given as goal

abbrev pub decreases-list_at : goal.decreases-list_at
decreases-list_at l = 3 * l.levels

abbrev pub decreases-node_at : goal.decreases-node_at
decreases-node_at l = 3 * l.levels + 2

abbrev pub decreases-part_at : goal.decreases-part_at
decreases-part_at l = 3 * l.levels + 1

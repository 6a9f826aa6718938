use Rattle.std.proofs.Common.{take}
use Rattle.hall_replies.specs.Kept.{leaves_of}
use Rattle.hall_replies.proofs.Changes.{AreChanges}
use Rattle.hall_replies.proofs.keys.changes.Given as goal

abbrev pub invariant-loop-k : goal.invariant-loop-k
invariant-loop-k g l = AreChanges (take l.k (leaves_of l.snap)) l.positions.items

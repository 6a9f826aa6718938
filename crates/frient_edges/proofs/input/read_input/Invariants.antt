use Rattle.std.proofs.Common.{◌-◌, length}
use Rattle.frient_edges.proofs.Edges.{HasRead}
use Rattle.frient_edges.proofs.input.read_input.Given as goal

abbrev pub invariant-loop-chunk : goal.invariant-loop-chunk
invariant-loop-chunk g l = HasRead (g.S.Source.view l.fn.source) (g.S.Source.view l.source) l.bytes.items

abbrev pub decreases-loop-chunk : goal.decreases-loop-chunk
decreases-loop-chunk g l = 4194305 - length l.bytes.items

use Rattle.std.proofs.Common.{◌-◌, map}
use Rattle.hist_tree.proofs.Keeping.{Doubling}
use Rattle.hist_tree.proofs.chunk.Chunk.tops_with.Given as goal

abbrev pub invariant-double : goal.invariant-double
invariant-double g l =
    Doubling g.D.Digester.digest_of (map g.T.HasText.text_of l.self) l.text l.count l.level l.width l.top l.tops.items

abbrev pub decreases-double : goal.decreases-double
decreases-double g l = l.count - l.width

use Rattle.std.proofs.Common.{◌≡◌, map, take}
use Rattle.run_end.specs.Ends.{wall_end}
use Rattle.run_end.proofs.walls.wall_ends.Given as goal

abbrev pub invariant-loop-hall : goal.invariant-loop-hall
invariant-loop-hall g l = l.ends.items ≡ map (wall_end g.D.Digester.digest_of) (take l.hall-index l.halls)

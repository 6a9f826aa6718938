use Rattle.std.proofs.Common.{◌≡◌, map, take}
use Rattle.run_start.specs.Parties.{wall_seed}
use Rattle.run_start.proofs.keys.wall_seeds.Given as goal

abbrev pub invariant-loop-number : goal.invariant-loop-number
invariant-loop-number l = l.seeds.items ≡ map (wall_seed l.script) (take l.number-index l.walls)

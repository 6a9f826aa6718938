use Rattle.std.proofs.Common.{◌≡◌, map, take}
use Rattle.run_start.specs.Parties.{user_seed}
use Rattle.run_start.proofs.keys.user_seeds.Given as goal

abbrev pub invariant-loop-number : goal.invariant-loop-number
invariant-loop-number l = l.seeds.items ≡ map (user_seed l.script) (take l.number-index l.users)

use Rattle.std.proofs.Common.{◌≡◌, map, take}
use Rattle.run_start.specs.Parties.{party_of}
use Rattle.run_start.proofs.keys.all_made.Given as goal

abbrev pub invariant-loop-seed : goal.invariant-loop-seed
invariant-loop-seed l = l.parties.items ≡ map party_of (take l.seed-index l.seeds)

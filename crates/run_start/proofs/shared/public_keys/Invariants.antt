use Rattle.std.proofs.Common.{◌≡◌, map, take}
use Rattle.run_start.specs.Parties.{listed_key}
use Rattle.run_start.proofs.shared.public_keys.Given as goal

abbrev pub invariant-loop-party : goal.invariant-loop-party
invariant-loop-party l = l.keys.items ≡ map listed_key (take l.party-index l.parties)

use Rattle.std.proofs.Common.{◌≡◌, map, take}
use Rattle.run_start.specs.Parties.{note_of}
use Rattle.run_start.proofs.shared.notes.Given as goal

abbrev pub invariant-loop-party : goal.invariant-loop-party
invariant-loop-party l = l.notes ≡ map (note_of l.script) (take l.party-index l.parties)

use Rattle.std.proofs.Common.{◌≡◌, map, take}
use Rattle.run_start.specs.Clients.{start_on}
use Rattle.run_start.proofs.clients.starts.Given as goal

abbrev pub invariant-loop-note : goal.invariant-loop-note
invariant-loop-note l = l.starts.items ≡ map (start_on l.script l.shared l.user) (take l.note-index l.notes)

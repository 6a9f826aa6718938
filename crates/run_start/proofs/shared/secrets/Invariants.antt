use Rattle.std.proofs.Common.{◌≡◌, take}
use Rattle.run_start.specs.Clients.{secrets_in}
use Rattle.run_start.proofs.shared.secrets.Given as goal

abbrev pub invariant-loop-number : goal.invariant-loop-number
invariant-loop-number l = l.secrets.items ≡ secrets_in l.script (take l.number-index l.users)

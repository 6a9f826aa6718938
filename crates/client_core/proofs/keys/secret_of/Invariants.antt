use Rattle.std.proofs.Common.{◌≡◌, drop}
use Rattle.client_core.specs.Keys.{secret_of}
use Rattle.client_core.proofs.keys.secret_of.Given as goal

abbrev pub invariant-loop-pair : goal.invariant-loop-pair
invariant-loop-pair l = secret_of (drop l.pair-index l.listed) l.user ≡ secret_of l.listed l.user

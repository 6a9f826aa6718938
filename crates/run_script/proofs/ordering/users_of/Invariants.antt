use Rattle.std.proofs.Common.{◌≡◌, map, take}
use Rattle.hall_server.specs.Sights.{user_of}
use Rattle.run_script.proofs.ordering.users_of.Given as goal

abbrev pub invariant-loop-one : goal.invariant-loop-one
invariant-loop-one g l = l.users.items ≡ map user_of (take l.one-index l.seats)

use Rattle.std.proofs.Common.{◌≡◌, ◌≤◌, ◌+◌, ◌++◌, map, reverse, vec_len, vec_capacity}
use Rattle.hall_server.proofs.Endings.{hall_in}
use Rattle.hall_server.proofs.closing.halls_of.Given as goal

abbrev pub invariant-loop-one : goal.invariant-loop-one
invariant-loop-one g l = record {
  room : vec_len l.turned + vec_len l.halls ≤ vec_capacity l.halls;
  same : map hall_in l.fn.turned.items ≡ map hall_in l.turned.items ++ reverse l.halls.items;
}

abbrev pub decreases-loop-one : goal.decreases-loop-one
decreases-loop-one g l = vec_len l.turned

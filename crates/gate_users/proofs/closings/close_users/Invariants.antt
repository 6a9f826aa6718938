use Rattle.std.proofs.Common.{◌≤◌, ◌+◌, reverse, vec_len, vec_capacity}
use Rattle.std.specs.List.{All, AllZip}
use Rattle.gate_users.specs.Users.{SitsAt, HasPlacesFor}
use Rattle.gate_users.proofs.Endings.{HasEnded, HaveEnded}
use Rattle.gate_users.proofs.closings.close_users.Given as goal

abbrev pub invariant-loop-gate : goal.invariant-loop-gate
invariant-loop-gate g l = let t = g.T.Turned in record {
  room : vec_len l.gates + vec_len l.values ≤ vec_capacity l.values;
  seats : All (SitsAt l.gates.items) l.users.items;
  all : All (HasPlacesFor l.users.items) l.gates.items;
  valid : All t.valid (reverse l.values.items);
  gates : HaveEnded t.fixed t.entries t.caller l.values.items l.fn.gates.items l.gates.items;
  users : AllZip (HasEnded t.fixed t.entries t.caller l.values.items) l.fn.users.items l.users.items;
}

abbrev pub decreases-loop-gate : goal.decreases-loop-gate
decreases-loop-gate g l = vec_len l.gates

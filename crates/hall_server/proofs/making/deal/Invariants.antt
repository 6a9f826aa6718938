use Rattle.std.proofs.Common.{◌≡◌, ◌≤◌, ◌+◌, vec_len, vec_capacity}
use Rattle.hall_server.proofs.Dealing.{HasDealt}
use Rattle.hall_server.proofs.making.deal.Given as goal

abbrev pub invariant-loop-seats : goal.invariant-loop-seats
invariant-loop-seats g l = record {
  room : vec_len l.all + vec_len l.dealt ≤ vec_capacity l.dealt;
  many : vec_len l.places ≡ vec_len l.all;
  dealt : HasDealt l.snapshot l.fn.places.items l.fn.all.items l.places.items l.all.items l.dealt.items;
}

abbrev pub decreases-loop-seats : goal.decreases-loop-seats
decreases-loop-seats g l = vec_len l.all

use Rattle.gate_users.proofs.Rounds.{HasMetAt}
use Rattle.gate_users.proofs.meetings.meet_at_all.Given as goal

abbrev pub invariant-loop-k : goal.invariant-loop-k
invariant-loop-k g l = let t = g.T.Turned in record {
  a : HasMetAt t.legal t.caller l.gates l.initial.a.seats.items l.initial.b.seats.items l.k l.a.seats.items;
  b : HasMetAt t.legal t.caller l.gates l.initial.b.seats.items l.initial.a.seats.items l.k l.b.seats.items;
}

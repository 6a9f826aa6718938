use Rattle.std.proofs.Common.{rules}
use Rattle.gate_users.proofs.Rounds.{has_seat, is_seat, met_none_at, met_more, met_all}
use Rattle.gate_users.proofs.meetings.meet_at_all.Goals as goal

pub loop-k-init : goal.loop-k-init
loop-k-init g c = let t = g.T.Turned in record {
  a = met_none_at t.legal t.caller c.args.gates.now _ _ c.requires.a;
  b = met_none_at t.legal t.caller c.args.gates.now _ _ c.requires.b;
}

pub index_mut-requires : goal.index_mut-requires
index_mut-requires g c = let t = g.T.Turned in
    let at = has_seat t.legal t.caller _ _ _ _ _ c.loop-k-test.true c.loop-k.invariant.a in search (rules, at)

pub index_mut-requires-in-loop-k : goal.index_mut-requires-in-loop-k
index_mut-requires-in-loop-k g c = let t = g.T.Turned in
    let at = has_seat t.legal t.caller _ _ _ _ _ c.loop-k-test.true c.loop-k.invariant.b in search (rules, at)

pub meet-requires-clause-a : goal.meet-requires-clause-a
meet-requires-clause-a g c = let t = g.T.Turned in
    is_seat t.legal t.caller _ _ _ _ _ _ _ c.loop-k-test.true c.loop-k.invariant.a c.index-gates-k.is
    c.index_mut.ensures.value

pub meet-requires-clause-b : goal.meet-requires-clause-b
meet-requires-clause-b g c = let t = g.T.Turned in
    is_seat t.legal t.caller _ _ _ _ _ _ _ c.loop-k-test.true c.loop-k.invariant.b c.index-gates-k.is
    c.index_mut-in-loop-k.ensures.value

pub loop-k-preserved : goal.loop-k-preserved
loop-k-preserved g c = let t = g.T.Turned in let met = c.loop-k.invariant in let mine = c.index_mut.ensures.value in
    let theirs = c.index_mut-in-loop-k.ensures.value in record {
      a = met_more t.legal t.caller _ _ _ _ _ _ _ _ _ _ c.loop-k-test.true met.a met.b c.index-gates-k.is mine theirs
          c.meet.ensures.seats.0 c.meet.ensures.a_sees c.meet.ensures.legal.0;
      b = met_more t.legal t.caller _ _ _ _ _ _ _ _ _ _ c.loop-k-test.true met.b met.a c.index-gates-k.is theirs mine
          c.meet.ensures.seats.1 c.meet.ensures.b_sees c.meet.ensures.legal.1;
    }

pub returns : goal.returns
returns g c = let t = g.T.Turned in let a = c.loop-k.invariant.a in let b = c.loop-k.invariant.b in
    let a_met = met_all t.legal t.caller c.args.gates.now c.args.a.now c.args.b.now c.loop-k.a c.loop-k.k
    c.loop-k-test.false c.requires.b a in
    let b_met = met_all t.legal t.caller c.args.gates.now c.args.b.now c.args.a.now c.loop-k.b c.loop-k.k
    c.loop-k-test.false c.requires.a b in record {
      seats = (a.sits, b.sits);
      a_sees = (a.saw, a_met.0);
      b_sees = (b.saw, b_met.0);
      legal = (a_met.1, b_met.1);
    }

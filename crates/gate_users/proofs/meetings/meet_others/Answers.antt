use Rattle.std.proofs.Common.{refl, rules, arith, ◌<◌, ◌≤◌, length}
use Rattle.std.proofs.lemmas.List.Elements.{All-set, AllWithin-none, AllWithin-more_set}
use Rattle.gate_users.specs.Users.{SitsAt, HaveLegal}
use Rattle.gate_users.proofs.Rounds.{met_none, met_next, met_them}
use Rattle.gate_users.proofs.meetings.meet_others.Goals as goal

pub loop-i-init : goal.loop-i-init
loop-i-init g c = let t = g.T.Turned in record {
  hub = c.requires.hub;
  others = c.requires.others;
  many = refl;
  room = refl;
  met = met_none t.caller c.args.hub.now c.args.others.now.items;
  hub_legal = λ more. absurd (omega arith);
  legal = AllWithin-none (HaveLegal t.legal) c.args.others.now.items 0;
}

pub loop-i-preserved : goal.loop-i-preserved
loop-i-preserved g c = let t = g.T.Turned in let done = c.loop-i.invariant in let meet = c.meet_at_all.ensures in
    let others = c.loop-i.others.items in let at : c.loop-i.i < length others = search rules in record {
      hub = meet.seats.0;
      others = All-set (SitsAt c.args.gates.now) others c.loop-i.i c.meet_at_all.new.b meet.seats.1 done.others;
      many = done.many;
      room = done.room;
      met = met_next t.caller c.args.hub.now c.loop-i.hub c.meet_at_all.new.a c.args.others.now.items others c.loop-i.i
          c.index_mut.result.now c.meet_at_all.new.b at done.met c.index_mut.ensures.value meet.a_sees meet.b_sees;
      hub_legal = λ more. meet.legal.0;
      legal = AllWithin-more_set others c.loop-i.i c.meet_at_all.new.b at (HaveLegal t.legal) done.legal meet.legal.1;
    }

pub returns : goal.returns
returns g c = let t = g.T.Turned in let done = c.loop-i.invariant in
    let all : length c.loop-i.others.items ≤ c.loop-i.i = search rules in
    let met = met_them t.caller c.args.hub.now c.loop-i.hub c.args.others.now.items c.loop-i.others.items c.loop-i.i
    all done.met in record {
      seats = (done.hub, done.others);
      hub_sees = (done.met.hub_saw, met.0);
      others_see = (done.met.others_saw, met.1);
      legal = (λ k d lt. done.legal k d (omega arith) (omega arith), λ some. done.hub_legal (search rules));
      room = (done.many, done.room);
    }

use Rattle.std.proofs.Common.{rules}
use Rattle.hall_server.proofs.Dealing.{dealt_more, dealt_none}
use Rattle.hall_server.proofs.making.deal.Goals as goal

pub loop-seats-init : goal.loop-seats-init
loop-seats-init g c = record {
  room = search rules;
  many = search rules;
  dealt = rw c.in_ok-dealt.ensures.items (dealt_none c.args.snapshot.now c.args.places.items c.args.all.items);
}

pub loop-seats-preserved : goal.loop-seats-preserved
loop-seats-preserved g c = record {
  room = search rules;
  many = search rules;
  dealt = rw c.push_reserved.ensures.items
      (dealt_more c.args.snapshot.now c.args.places.items c.args.all.items c.loop-seats.places.items
      c.pop-in-Some.new.self.items c.loop-seats.all.items c.pop.new.self.items c.loop-seats.dealt.items
      c.in-Some-pop.place c.in-Some.seats c.add.new.self c.loop-seats.invariant.dealt c.in-Some-pop.ensures.items
      c.in-Some.ensures.items (rw c.in_ok-share.ensures at c.in_ok-add.ensures));
}

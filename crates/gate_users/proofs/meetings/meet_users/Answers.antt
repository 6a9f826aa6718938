use Rattle.std.proofs.Common.{Some, ap, rules, arith, ◌<◌, ◌≤◌, length}
use Rattle.std.proofs.lemmas.List.{length_push}
use Rattle.std.proofs.lemmas.List.Elements.{All-pop, All-push}
use Rattle.std.proofs.lemmas.Slice.Zip.{AllZip-long}
use Rattle.gate_users.specs.Users.{SitsAt, HaveSeenMore, HaveLegal}
use Rattle.gate_users.proofs.Zips.{zip_itself}
use Rattle.gate_users.proofs.Rounds.{saw_itself, all_saw, all_know, alone_knows}
use Rattle.gate_users.proofs.meetings.meet_users.Goals as goal

pub returns-then-len-le1-clause-same : goal.returns-then-len-le1-clause-same
returns-then-len-le1-clause-same g c = let t = g.T.Turned in
    zip_itself (HaveSeenMore t.caller) (saw_itself t.caller) c.args.users.now.items

pub returns-then-len-le1-clause-met : goal.returns-then-len-le1-clause-met
returns-then-len-le1-clause-met g c = let few : length c.args.users.now.items ≤ 1 = search rules in
    alone_knows g.T.Turned.caller c.args.users.now.items few

pub meet_others-requires-clause-hub : goal.meet_others-requires-clause-hub
meet_others-requires-clause-hub g c =
    (All-pop (SitsAt c.args.gates.now) _ _ (Some c.in-Some.hub) c.in-Some.ensures.items c.requires.seats).1

pub meet_others-requires-clause-others : goal.meet_others-requires-clause-others
meet_others-requires-clause-others g c =
    (All-pop (SitsAt c.args.gates.now) _ _ (Some c.in-Some.hub) c.in-Some.ensures.items c.requires.seats).0

pub returns-clause-seats : goal.returns-clause-seats
returns-clause-seats g c = let two = c.meet_others-2.ensures in rw c.push_reserved.ensures.items
    (All-push (SitsAt c.args.gates.now) c.meet_others-2.new.others.items c.meet_others-2.new.hub
    two.seats.1 two.seats.0)

pub returns-clause-same : goal.returns-clause-same
returns-clause-same g c = let one = c.meet_others in let two = c.meet_others-2 in
    rw (c.push_reserved.ensures.items, c.in-Some.ensures.items)
    (all_saw g.T.Turned.caller c.in-Some.hub one.new.hub two.new.hub c.pop.new.self.items one.new.others.items
    two.new.others.items one.ensures.hub_sees.0 two.ensures.hub_sees.0
    one.ensures.others_see.0 two.ensures.others_see.0)

pub returns-clause-met : goal.returns-clause-met
returns-clause-met g c = let one = c.meet_others in let two = c.meet_others-2 in
    rw (c.push_reserved.ensures.items, c.in-Some.ensures.items)
    (all_know g.T.Turned.caller c.in-Some.hub one.new.hub two.new.hub c.pop.new.self.items two.new.others.items
    one.ensures.hub_sees.0 one.ensures.hub_sees.1 two.ensures.hub_sees.0 two.ensures.others_see.1)

pub returns-clause-legal : goal.returns-clause-legal
returns-clause-legal g c = λ many. let t = g.T.Turned in let one = c.meet_others in let two = c.meet_others-2 in
    let before = c.pop.new.self.items in
    let some : 0 < length one.new.others.items = omega (
      arith,
      length_push before c.in-Some.hub,
      ap length c.in-Some.ensures.items,
      AllZip-long (HaveSeenMore t.caller) before one.new.others.items one.ensures.others_see.0,
    ) in
    rw c.push_reserved.ensures.items
    (All-push (HaveLegal t.legal) two.new.others.items two.new.hub two.ensures.legal.0 (two.ensures.legal.1 some))

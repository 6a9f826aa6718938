use Rattle.std.proofs.Common.{◌≡◌, ◌∙◌, ◌++◌, List, length, map, ap, arith}
use Rattle.std.specs.Vec.Iter.{into_iter_len}
use Rattle.session_run.specs.declared.lane.Lane.{Lane}
use Rattle.run_phases.specs.Phases.{outcomes_in}
use Rattle.run_phases.proofs.Departing.{all-given, grown, made, told-more}
use Rattle.run_phases.proofs.leaving.leave.Goals as goal

pub loop-lane-preserved : goal.loop-lane-preserved
loop-lane-preserved g c =
    let before = c.loop-lane.invariant in
    let e = c.in_ok-give_back.ensures in
    let ys = c.loop-lane.yielded in
    let x = c.in-Some.lane in (
      grown (λ (l : Lane g.row.D.Denot g.row.W.Denot). l.session.client) c.give_back.new.run.clients.items
          c.loop-lane.run.clients.items c.args.run.now.clients.items ys x e.clients before.0,
      grown (λ (l : Lane g.row.D.Denot g.row.W.Denot). l.session.seats) c.give_back.new.run.seats.items
          c.loop-lane.run.seats.items c.args.run.now.seats.items ys x e.seats before.1,
      told-more c.give_back.new.run.outcomes.items c.loop-lane.run.outcomes.items c.args.run.now.outcomes.items ys x
          e.outcomes before.2,
      e.wires ∙ before.3,
      made (λ (l : Lane g.row.D.Denot g.row.W.Denot). l.wire) c.push.new.self.items c.loop-lane.wires.items ys x
          c.in_ok-push.ensures.items before.4,
    )

pub returns : goal.returns
returns g c =
    let before = c.loop-lane.invariant in
    let long : into_iter_len c.into_iter-lane-iterator.result ≡ length c.args.lanes.items =
    (let gives = c.into_iter-lane-iterator.ensures.into_iter_gives.1 in let ok = c.args.lanes.ok in omega (gives, ok, arith))
    in
    let all = all-given c.args.lanes.items c.into_iter-lane-iterator.result c.loop-lane.yielded
    c.loop-lane.lane-iterator c.into_iter-lane-iterator.ensures.into_iter_gives.0 long
    c.loop-lane.yielded_by c.in-None.ensures.steps.0 in
    record {
      clients =
          before.0 ∙ ap (λ (l : List (Lane g.row.D.Denot g.row.W.Denot)). c.args.run.now.clients.items
          ++ map (λ (x : Lane g.row.D.Denot g.row.W.Denot). x.session.client) l) all;
      seats =
          before.1 ∙ ap (λ (l : List (Lane g.row.D.Denot g.row.W.Denot)). c.args.run.now.seats.items
          ++ map (λ (x : Lane g.row.D.Denot g.row.W.Denot). x.session.seats) l) all;
      wires =
          c.in_ok-append.ensures.items ∙ (λ i. before.4 i ++ (before.3 i).items)
          ∙ ap (λ (l : List (Lane g.row.D.Denot g.row.W.Denot)). map (λ (x : Lane g.row.D.Denot g.row.W.Denot). x.wire) l
          ++ c.args.run.now.wires.items) all;
      outcomes =
          before.2 ∙ ap (λ (l : List (Lane g.row.D.Denot g.row.W.Denot)). c.args.run.now.outcomes.items
          ++ outcomes_in l) all;
    }

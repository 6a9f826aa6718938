use Rattle.std.proofs.lemmas.List.Elements.{All-push}
use Rattle.session_run.specs.Phases.{IsReady}
use Rattle.sha2.specs.Sha256.{sha256}
use Rattle.session_run_tests.proofs.lanes.lanes_of.Goals as goal

pub loop-preserved : goal.loop-preserved
loop-preserved c = record {
  left = c.in_ok-seats.ensures.left;
  ready = rw c.in_ok-push.ensures.items
      (All-push (IsReady sha256 c.args.server.now) c.loop.lanes.items _ c.loop.invariant.ready c.in_ok-lane_at.ensures);
}

use Rattle.std.specs.Prelude.{Ok, [], ◌∷◌}
use Rattle.client_core.specs.Asking.{post}
use Rattle.client_core.specs.Clients.{client_view}
use Rattle.audit_worlds.proofs.Staying.{asked-same}
use Rattle.audit_bench.proofs.Standing.{goes-to-side, side-stays, where-ok}
use Rattle.audit_bench.proofs.people.post.Goals as goal

pub returns-in-Ok : goal.returns-in-Ok
returns-in-Ok g c =
    let before = client_view c.args.client.now in
    let after = client_view c.post_request.new.self in
    let same = asked-same before after 1 (post (116 ∷ [])) (Ok c.in-Ok.sent) c.in-Ok.ensures.asks tt in
    record {
      same = where-ok c.to_wall.result same;
      side = goes-to-side c.to_wall.result c.in-Ok.sent after.sides c.to_wall.ensures.same c.to_wall.ensures.wall
          (side-stays 1 before.sides after.sides same.notes
          (c.is_ready.ensures.side c.if-not-is_ready.false));
    }

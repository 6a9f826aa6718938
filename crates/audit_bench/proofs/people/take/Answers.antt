use Rattle.client_core.specs.Clients.{client_view}
use Rattle.audit_worlds.proofs.Staying.{heard-same}
use Rattle.audit_bench.proofs.people.take.Goals as goal

pub returns-in-Ok : goal.returns-in-Ok
returns-in-Ok g c =
    heard-same g.D.Digester.digest_of (client_view c.args.client.now) (client_view c.take_reply.new.self)
    c.args.sent.now c.args.reply.now c.in-Ok.news c.in-Ok.ensures.hears

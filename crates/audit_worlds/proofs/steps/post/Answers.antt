use Rattle.client_core.specs.Asking.{post}
use Rattle.client_core.specs.Clients.{client_view}
use Rattle.audit_worlds.proofs.Staying.{asked-same}
use Rattle.audit_worlds.proofs.steps.post.Goals as goal

pub returns : goal.returns
returns g c = asked-same (client_view c.args.client.now) (client_view c.post_request.new.self) 1 (post c.args.text.now)
    c.post_request.result c.post_request.ensures.asks c.post_request.ensures.unchanged

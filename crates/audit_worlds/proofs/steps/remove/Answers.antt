use Rattle.client_core.specs.Asking.{remove}
use Rattle.client_core.specs.Clients.{client_view}
use Rattle.audit_worlds.proofs.Staying.{asked-same}
use Rattle.audit_worlds.proofs.steps.remove.Goals as goal

pub returns : goal.returns
returns g c = asked-same (client_view c.args.client.now) (client_view c.remove_request.new.self) 1 (remove c.args.user)
    c.remove_request.result c.remove_request.ensures.asks c.remove_request.ensures.unchanged

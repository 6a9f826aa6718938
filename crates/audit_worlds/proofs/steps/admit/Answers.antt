use Rattle.client_core.specs.Asking.{admit}
use Rattle.client_core.specs.Clients.{client_view}
use Rattle.audit_worlds.proofs.Staying.{asked-same}
use Rattle.audit_worlds.proofs.steps.admit.Goals as goal

pub returns : goal.returns
returns g c = asked-same (client_view c.args.client.now) (client_view c.admit_request.new.self) 1 (admit c.args.user 2)
    c.admit_request.result c.admit_request.ensures.asks c.admit_request.ensures.unchanged

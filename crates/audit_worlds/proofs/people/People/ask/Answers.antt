use Rattle.std.proofs.Common.{rules, ◌<◌, length, subst}
use Rattle.client_core.specs.Clients.{Standing, client_view}
use Rattle.audit_worlds.specs.Clients.{IsSame}
use Rattle.audit_worlds.proofs.Staying.{on-ok, together-set}
use Rattle.audit_worlds.proofs.people.People.ask.Goals as goal

pub returns : goal.returns
returns g c notes together =
    let clients = c.args.self.now.clients.items in
    let place = c.args.by.place in
    let client = c.index_mut-2.result.now in
    let after = c.ask-2.new.client in
    let within : place < length clients = search rules in
    on-ok c.ask-2.result c.ask-2.ensures (λ same. together-set notes clients place after client within
    (subst (λ (s : Standing). IsSame (client_view s) (client_view after)) c.index_mut-2.ensures.value same) together)

use Rattle.std.proofs.Common.{◌∙◌, ap, rules}
use Rattle.hall_core.specs.Calls.{play}
use Rattle.hall_server.specs.declared.server.Server.{Server}
use Rattle.hall_server.proofs.Dealing.{made_more}
use Rattle.hall_server.proofs.server.Server.open.Goals as goal

pub returns : goal.returns
returns g c = λ halls made.
    let d = g.D.Digester.digest_of in
    let hall = c.args.hall in
    let none = c.kept.ensures.played ∙ ap (λ calls. play d hall.facts calls) c.requires.fresh in
    let stands = rw none at c.in_ok-snapshot.ensures.stands in
    let gate = c.in-Ok.ensures in
    let next : Server _ = record { gates = c.push.new.self; walls = c.push-2.new.self } in
    made_more d c.args.self.now next c.in-Ok.gate hall c.in_ok-snapshot.snapshot c.in_ok-push.ensures.items
    (search rules) stands halls c.args.users.now c.in-Ok.places.items c.args.all.items c.in_ok-seated.seated.items
    c.in_ok-seated.ensures gate.callers.0 gate.callers.1 gate.seats gate.fronts gate.fixed made

use Rattle.std.proofs.Common.{◌≡◌, ◌∙◌, List, ap, map, refl, sym}
use Rattle.hall_server.specs.Sights.{user_of}
use Rattle.run_phases.specs.declared.running.Running.{Running}
use Rattle.run_phases.specs.Tasks.{tasks_from}
use Rattle.run_script.specs.Order.{Closes}
use Rattle.run_script.specs.Runs.{RunOf}
use Rattle.run_script.proofs.Ending.{all-seats, are-together, if-so, ran-of}
use Rattle.run_script.proofs.Opening.{can-play, unseen-of}
use Rattle.run_script.proofs.Whole.{run-is}
use Rattle.run_script.proofs.running.run_script.Goals as goal

pub play-requires-clause-can : goal.play-requires-clause-can
play-requires-clause-can g c κs within =
    let start = c.in_ok-server.field-0 in
    let b = c.in_ok-server.ensures in
    let run : Running g.row.D.Denot g.row.W.Denot =
    record { clients = start.clients; seats = start.seats; wires = c.args.wires; outcomes = c.new.result } in
    can-play c.args.script.now c.requires.script b.users b.walls b.all_users b.all_walls g.D.Digester.digest_of
    g.W.Wire.view start.server run b.clients b.seated b.sights b.seats b.walls_are c.requires.sixteen

pub play-requires-clause-unseen : goal.play-requires-clause-unseen
play-requires-clause-unseen g c κs within =
    let start = c.in_ok-server.field-0 in
    let b = c.in_ok-server.ensures in
    let run : Running g.row.D.Denot g.row.W.Denot =
    record { clients = start.clients; seats = start.seats; wires = c.args.wires; outcomes = c.new.result } in
    unseen-of c.args.script.now c.requires.script b.users b.walls b.all_users b.all_walls g.D.Digester.digest_of
    g.W.Wire.view start.server run b.clients b.seated b.sights b.seats b.walls_are c.requires.sixteen

pub close-requires-clause-all : goal.close-requires-clause-all
close-requires-clause-all g c =
    let start = c.in_ok-server.field-0 in
    λ seats same. all-seats start.server seats start.seats.items
    (same ∙ c.deref-2.ensures.value ∙ c.in_ok-users.ensures ∙ ap (map user_of) c.deref.ensures.value)
    c.in_ok-server.ensures.all

pub close-requires-clause-together : goal.close-requires-clause-together
close-requires-clause-together g c =
    let d = g.D.Digester.digest_of in
    let view = g.W.Wire.view in
    let s = c.args.script.now in
    let start = c.in_ok-server.field-0 in
    let b = c.in_ok-server.ensures in
    let run : Running g.row.D.Denot g.row.W.Denot =
    record { clients = start.clients; seats = start.seats; wires = c.args.wires; outcomes = c.new.result } in
    let now = c.play.new.run in
    let e = c.in_ok-play.ensures in
    λ end clients seats order. are-together s c.requires.script d view start b run now refl refl c.requires.sixteen
    (tasks_from 1 s.phases)
    (ran-of s c.requires.script d view start b run now refl refl c.requires.sixteen e.played) c.deref-2.result.now end
    clients seats
    (c.deref-2.ensures.value ∙ c.in_ok-users.ensures ∙ ap (map user_of) c.deref.ensures.value ∙ b.seated)
    e.users.members order

pub returns : goal.returns
returns g c =
    let d = g.D.Digester.digest_of in
    let view = g.W.Wire.view in
    let s = c.args.script.now in
    let start = c.in_ok-server.field-0 in
    let b = c.in_ok-server.ensures in
    let run : Running g.row.D.Denot g.row.W.Denot =
    record { clients = start.clients; seats = start.seats; wires = c.args.wires; outcomes = c.new.result } in
    let now = c.play.new.run in
    let users = c.deref-2.result.now in
    let e = c.in_ok-play.ensures in
    if-so (Closes d start.server users start.notes now) (RunOf d view s c.args.wires.items) c.close.result
    c.close.ensures
    (λ ran closes. run-is s c.requires.script d view start b run now refl refl c.requires.sixteen c.new.ensures.items
    e.played e.users users
    (c.deref-2.ensures.value ∙ c.in_ok-users.ensures ∙ ap (map user_of) c.deref.ensures.value ∙ b.seated) ran closes)

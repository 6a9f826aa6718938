use Rattle.std.proofs.Common.{◌≡◌, ◌∙◌, ◌++◌, ◌∷◌, [], List, ap, refl, sym, subst}
use Rattle.std.specs.List.{Contains}
use Rattle.msg_form.specs.declared.decline.Decline.{Decline}
use Rattle.hall_server.specs.Seating.{walls_of}
use Rattle.hall_server.specs.Sights.{sight_at, user_of}
use Rattle.script_form.specs.declared.outcome.CommandEnd.TheVariants as ends
use Rattle.script_form.specs.declared.outcome.KeysEnd.TheVariants as keys_ends
use Rattle.script_form.specs.declared.outcome.Outcome.{Outcome}
use Rattle.client_core.specs.Clients.{client_view}
use Rattle.session_laws.specs.Doing.{PlainClient, Task, asked_by, outcome_at, plain, wall_of}
use Rattle.session_laws.specs.Lanes.{Halfway, TaskRun}
use Rattle.session_laws.proofs.Tasks.{task-declined}
use Rattle.session_run.specs.Parts.{HasSent}
use Rattle.session_run.specs.Views.{client_of, told}
use Rattle.session_run.proofs.Growing.{asks-book, book-then, halfway-by}
use Rattle.session_run.proofs.Lists.{err-so, ok-more}
use Rattle.session_run.proofs.Sending.{asks-sent, asks-side, asks-wall}
use Rattle.session_run.proofs.command.run_command.Goals as goal

pub send-requires-clause-side : goal.send-requires-clause-side
send-requires-clause-side g c =
    let task : Task = record { place = c.args.place; user = user_of c.args.seats.now; command = c.args.command.now } in
    asks-side (client_view c.args.client.now) (client_view c.ask.new.client) task c.in-Ok.sent c.in-Ok.ensures.asks
    c.in-Ok.ensures.spelled

pub send-requires-clause-listed : goal.send-requires-clause-listed
send-requires-clause-listed g c =
    let task : Task = record { place = c.args.place; user = user_of c.args.seats.now; command = c.args.command.now } in
    subst (Contains (walls_of c.args.server.now))
    (sym (asks-wall (client_view c.args.client.now) (client_view c.ask.new.client) task c.in-Ok.sent c.in-Ok.ensures.asks
    c.in-Ok.ensures.spelled)) c.requires.asked.listed

pub returns-in-Ok-clause-ran : goal.returns-in-Ok-clause-ran
returns-in-Ok-clause-ran g c =
    let d = g.D.Digester.digest_of in
    let user = user_of c.args.seats.now in
    let before = sight_at c.args.seats.now in
    let wire = g.W.Wire.view c.args.wire.now in
    let wire' = g.W.Wire.view c.send.new.wire in
    let task : Task = record { place = c.args.place; user = user; command = c.args.command.now } in
    let sent = asks-sent (client_view c.args.client.now) (client_view c.ask.new.client) task c.in-Ok.sent
    c.in-Ok.ensures.asks c.in-Ok.ensures.spelled in
    ok-more (λ (o : Outcome). (k : PlainClient) (s : _) (t : Task) (os : List Outcome) → t.place ≡ c.args.place
    → HasSent k (client_of c.ask.new.client) s t c.in-Ok.sent
    → TaskRun d user (record { client = k; outcomes = os; seat = before; wire = wire })
    (told c.send.new.client c.send.new.seats wire' (os ++ o ∷ [])) t)
    (λ (o : Outcome). (os : List Outcome) → TaskRun d user (told c.args.client.now c.args.seats.now wire os)
    (told c.send.new.client c.send.new.seats wire' (os ++ o ∷ [])) task)
    c.send.result c.send.ensures.ran
    (λ o ran os. ran (client_of c.args.client.now) c.in-Ok.ensures.asks.side task os refl sent)

pub returns-in-Ok-clause-halfway : goal.returns-in-Ok-clause-halfway
returns-in-Ok-clause-halfway g c =
    let before = sight_at c.args.seats.now in
    let now = sight_at c.send.new.seats in
    let wire = g.W.Wire.view c.args.wire.now in
    let wire' = g.W.Wire.view c.send.new.wire in
    let grown = book-then (client_of c.args.client.now) (client_of c.ask.new.client) (client_of c.send.new.client)
    (asks-book (client_view c.args.client.now) (client_view c.ask.new.client) (wall_of c.args.command.now)
    (asked_by c.args.command.now) c.in-Ok.sent c.in-Ok.ensures.asks) c.send.ensures.book in
    err-so ((os : List Outcome) → Halfway (told c.args.client.now c.args.seats.now wire os)
    (told c.send.new.client c.send.new.seats wire' os)) c.send.result
    (λ os. halfway-by (client_of c.args.client.now) (client_of c.send.new.client) before now wire wire' os grown
    c.send.ensures.grown c.send.ensures.grows)

pub returns-in_ok-decline-in-Err-clause-ran : goal.returns-in_ok-decline-in-Err-clause-ran
returns-in_ok-decline-in-Err-clause-ran g c os =
    let d = g.D.Digester.digest_of in
    let user = user_of c.args.seats.now in
    let before = sight_at c.args.seats.now in
    let wire = g.W.Wire.view c.args.wire.now in
    let task : Task = record { place = c.args.place; user = user; command = c.args.command.now } in
    let lane = told c.args.client.now c.args.seats.now wire os in
    let rule = c.in_ok-decline-in-Err.ensures in
    let why = c.in-Err.ensures.declines rule.1 in
    let is : c.plain_outcome.result ≡ outcome_at c.args.place (ends.Declined c.in-Err.decline) [] keys_ends.Fine =
    c.plain_outcome.ensures
    ∙ ap (λ (x : Decline). outcome_at c.args.place (ends.Declined x) [] keys_ends.Fine) rule.0 in
    subst (λ (k : PlainClient). TaskRun d user lane
    (record { client = k; outcomes = os ++ c.plain_outcome.result ∷ []; seat = before; wire = wire }) task)
    (sym (ap plain c.in-Err.ensures.unchanged))
    (subst (λ (o : Outcome). TaskRun d user lane
    (record { client = client_of c.args.client.now; outcomes = os ++ o ∷ []; seat = before; wire = wire }) task) (sym is)
    (task-declined d user lane task why.side c.in-Err.decline why.found why.declined))

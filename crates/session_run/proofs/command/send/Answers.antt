use Rattle.std.proofs.Common.{◌≡◌, ◌∙◌, ◌++◌, ◌∷◌, [], List, Option, Some, ap, sym, subst}
use Rattle.std.specs.Prelude.{IfSome}
use Rattle.fr_bytes.specs.Bytes.{IsBytes, Text}
use Rattle.msg_form.specs.declared.verdict.Verdict.{Verdict}
use Rattle.msg_form.specs.Messages.{SpellsRequest}
use Rattle.hall_server.specs.Seating.{walls_of}
use Rattle.hall_server.specs.Sights.{sight_at, user_of}
use Rattle.script_form.specs.declared.outcome.CommandEnd.TheVariants as ends
use Rattle.script_form.specs.declared.outcome.KeysEnd.TheVariants as keys_ends
use Rattle.script_form.specs.declared.outcome.Outcome.{Outcome}
use Rattle.client_core.specs.Clients.{client_view}
use Rattle.client_core.specs.Sides.{SideView, side_of}
use Rattle.session_laws.specs.Doing.{PlainClient, Task, ask_of, outcome_at, request_of}
use Rattle.session_laws.specs.Lanes.{Passed, TaskRun}
use Rattle.session_run.specs.Parts.{HasSent, Told}
use Rattle.session_run.specs.Views.{client_of, told}
use Rattle.session_run.proofs.Growing.{book-then, hears-book, wire-grows-then}
use Rattle.session_run.proofs.Lists.{ok-more}
use Rattle.session_run.proofs.Sending.{hears-side, send-lost, send-rejected, send-told, sent-listed}
use Rattle.session_run.proofs.Sights.{news-are}
use Rattle.session_run.proofs.command.send.Goals as goal

pub returns-in_default-clause-ran : goal.returns-in_default-clause-ran
returns-in_default-clause-ran g c k s task os at h =
    let d = g.D.Digester.digest_of in
    let user = user_of c.args.seats.now in
    let before = sight_at c.args.seats.now in
    let now = sight_at c.exchange.new.seats in
    let wire = g.W.Wire.view c.args.wire.now in
    let wire' = g.W.Wire.view c.exchange.new.wire in
    let r = request_of s task.command c.args.sent.now.signed in
    let a = ask_of c.args.sent.now.signed in
    send-lost d user c.args.place k (client_of c.args.client.now) s task c.args.sent.now os before now wire wire'
    c.plain_outcome.result at h
    (subst (λ (o : Option Text). Passed d user before now wire wire' r a o) c.in_default.is
    (c.in_ok-delivered.ensures.passed r a (subst (SpellsRequest r) (sym c.as_slice.ensures) h.sends.spells) h.sends.asks
    (sent-listed (walls_of c.args.server.now) k (client_of c.args.client.now) s task c.args.sent.now h c.requires.listed)))
    c.plain_outcome.ensures

pub tell-requires-clause-side : goal.tell-requires-clause-side
tell-requires-clause-side g c =
    hears-side g.D.Digester.digest_of (client_view c.args.client.now) (client_view c.take_reply.new.self) c.args.sent.now
    c.as_slice-2.result.now c.in-Ok.news c.in-Ok.ensures.hears

pub tell-requires-clause-news : goal.tell-requires-clause-news
tell-requires-clause-news g c =
    let are : IsBytes c.in-Some.bytes =
    subst (λ (o : Option Text). IfSome o IsBytes) c.in-Some.is c.in_ok-delivered.ensures.bytes in
    news-are g.D.Digester.digest_of (client_view c.args.client.now) (client_view c.take_reply.new.self) c.args.sent.now
    c.as_slice-2.result.now c.in-Ok.news (subst IsBytes (sym c.as_slice-2.ensures) are) c.in-Ok.ensures.hears

pub returns-in-Ok-clause-ran : goal.returns-in-Ok-clause-ran
returns-in-Ok-clause-ran g c =
    let d = g.D.Digester.digest_of in
    let user = user_of c.args.seats.now in
    let before = sight_at c.args.seats.now in
    let mid = sight_at c.exchange.new.seats in
    let now = sight_at c.tell.new.seats in
    let wire = g.W.Wire.view c.args.wire.now in
    let wire1 = g.W.Wire.view c.exchange.new.wire in
    let wire' = g.W.Wire.view c.tell.new.wire in
    let sent = c.args.sent.now in
    let v = client_view c.args.client.now in
    let w = client_view c.take_reply.new.self in
    let x = client_of c.tell.new.client in
    let bytes = c.as_slice-2.result.now in
    ok-more (λ (o : Outcome). (t : SideView) → side_of sent.wall w.sides ≡ Some t
    → Told d (user_of c.exchange.new.seats) c.args.place (client_of c.take_reply.new.self) x mid now wire1 wire' t c.in-Ok.news o)
    (λ (o : Outcome). (k : PlainClient) (s : SideView) (task : Task) (os : List Outcome) → task.place ≡ c.args.place
    → HasSent k (client_of c.args.client.now) s task sent
    → TaskRun d user (record { client = k; outcomes = os; seat = before; wire = wire })
    (told c.tell.new.client c.tell.new.seats wire' (os ++ o ∷ [])) task)
    c.tell.result c.tell.ensures.told
    (λ o tells k s task os at h.
    let r = request_of s task.command sent.signed in
    let a = ask_of sent.signed in
    send-told d user c.args.place k x v w s task sent os before mid now wire wire1 wire' bytes c.in-Ok.news o at h
    (subst (λ (b : Option Text). Passed d user before mid wire wire1 r a b)
    (c.in-Some.is ∙ ap (λ (b : Text). Some b) (sym c.as_slice-2.ensures))
    (c.in_ok-delivered.ensures.passed r a (subst (SpellsRequest r) (sym c.as_slice.ensures) h.sends.spells) h.sends.asks
    (sent-listed (walls_of c.args.server.now) k (client_of c.args.client.now) s task sent h c.requires.listed)))
    c.in-Ok.ensures.hears
    (λ t found. subst (λ u. Told d u c.args.place (client_of c.take_reply.new.self) x mid now wire1 wire' t c.in-Ok.news o)
    c.in_ok-delivered.ensures.user (tells t found)))

pub returns-in-Ok-clause-grows : goal.returns-in-Ok-clause-grows
returns-in-Ok-clause-grows g c =
    wire-grows-then (g.W.Wire.view c.args.wire.now) (g.W.Wire.view c.exchange.new.wire) (g.W.Wire.view c.tell.new.wire)
    c.in_ok-delivered.ensures.grows c.tell.ensures.grows

pub returns-in-Ok-clause-book : goal.returns-in-Ok-clause-book
returns-in-Ok-clause-book g c =
    book-then (client_of c.args.client.now) (client_of c.take_reply.new.self) (client_of c.tell.new.client)
    (hears-book g.D.Digester.digest_of (client_view c.args.client.now) (client_view c.take_reply.new.self) c.args.sent.now
    c.as_slice-2.result.now c.in-Ok.news c.in-Ok.ensures.hears) c.tell.ensures.book

pub returns-clause-ran : goal.returns-clause-ran
returns-clause-ran g c k s task os at h =
    let d = g.D.Digester.digest_of in
    let user = user_of c.args.seats.now in
    let before = sight_at c.args.seats.now in
    let now = sight_at c.exchange.new.seats in
    let wire = g.W.Wire.view c.args.wire.now in
    let wire' = g.W.Wire.view c.exchange.new.wire in
    let sent = c.args.sent.now in
    let r = request_of s task.command sent.signed in
    let a = ask_of sent.signed in
    let verdict = c.in_ok-verdict-in-Err.ensures in
    send-rejected d user c.args.place k (client_view c.args.client.now) (client_view c.take_reply.new.self) s task sent os
    before now wire wire' c.as_slice-2.result.now c.in-Err.verdict c.plain_outcome-in-Err.result at h
    (subst (λ (b : Option Text). Passed d user before now wire wire' r a b)
    (c.in-Some.is ∙ ap (λ (b : Text). Some b) (sym c.as_slice-2.ensures))
    (c.in_ok-delivered.ensures.passed r a (subst (SpellsRequest r) (sym c.as_slice.ensures) h.sends.spells) h.sends.asks
    (sent-listed (walls_of c.args.server.now) k (client_of c.args.client.now) s task sent h c.requires.listed)))
    (c.in-Err.ensures.rejects verdict.1) c.in-Err.ensures.unchanged
    (c.plain_outcome-in-Err.ensures
    ∙ ap (λ (x : Verdict). outcome_at c.args.place (ends.Rejected x) [] keys_ends.Fine) verdict.0)

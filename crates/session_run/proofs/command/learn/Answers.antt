use Rattle.std.proofs.Common.{◌∙◌, Option, Some, refl, ap, sym, subst}
use Rattle.std.specs.List.{Contains}
use Rattle.fr_bytes.specs.Bytes.{Text}
use Rattle.msg_form.specs.Messages.{SpellsRequest}
use Rattle.msg_form.specs.declared.message.Request.TheVariants as requests
use Rattle.hall_core.specs.declared.ask.Ask.TheVariants as asks
use Rattle.hall_server.specs.Seating.{walls_of}
use Rattle.hall_server.specs.Sights.{sight_at, user_of}
use Rattle.client_core.specs.Clients.{client_view}
use Rattle.client_core.specs.Sides.{sides_view}
use Rattle.client_core.proofs.Places.{found-wall}
use Rattle.msg_form.specs.declared.verdict.Verdict.{Verdict}
use Rattle.script_form.specs.declared.outcome.KeysEnd.TheVariants as keys_ends
use Rattle.session_laws.specs.Lanes.{Passed}
use Rattle.session_run.specs.Parts.{Learnt}
use Rattle.session_run.specs.Views.{client_of}
use Rattle.session_run.proofs.Learning.{learnt-lost, learnt-taken, learnt-rejected}
use Rattle.session_run.proofs.command.learn.Goals as goal

pub returns-in_default-clause-learnt : goal.returns-in_default-clause-learnt
returns-in_default-clause-learnt g c s found =
    let at = found-wall c.args.wall (sides_view c.args.client.now.sides) s found in
    learnt-lost g.D.Digester.digest_of (user_of c.args.seats.now) (client_view c.args.client.now) (sight_at c.args.seats.now)
    (sight_at c.exchange.new.seats) (g.W.Wire.view c.args.wire.now) (g.W.Wire.view c.exchange.new.wire) c.args.wall s found
    (subst (λ (o : Option Text). Passed g.D.Digester.digest_of (user_of c.args.seats.now) (sight_at c.args.seats.now)
    (sight_at c.exchange.new.seats) (g.W.Wire.view c.args.wire.now) (g.W.Wire.view c.exchange.new.wire)
    (requests.Keys s.known.wall s.known.size) asks.Look o) c.in_default.is
    (c.in_ok-bytes.ensures.passed (requests.Keys s.known.wall s.known.size) asks.Look
    (subst (λ (t : Text). SpellsRequest (requests.Keys s.known.wall s.known.size) t)
    (sym c.as_slice.ensures) (c.in_ok-request.ensures s found)) refl
    (subst (Contains (walls_of c.args.server.now)) (sym at) c.requires.listed)))

pub returns-in-Ok-clause-learnt : goal.returns-in-Ok-clause-learnt
returns-in-Ok-clause-learnt g c s found =
    let d = g.D.Digester.digest_of in
    let user = user_of c.args.seats.now in
    let before = sight_at c.args.seats.now in
    let now = sight_at c.exchange.new.seats in
    let wire = g.W.Wire.view c.args.wire.now in
    let wire' = g.W.Wire.view c.exchange.new.wire in
    let at = found-wall c.args.wall (sides_view c.args.client.now.sides) s found in
    learnt-taken d user (client_view c.args.client.now) (client_view c.take_keys.new.self) before now wire wire'
    c.args.wall s c.as_slice-2.result.now found
    (subst (λ (o : Option Text). Passed d user before now wire wire' (requests.Keys s.known.wall s.known.size) asks.Look o)
    (c.in-Some.is ∙ ap (λ (t : Text). Some t) (sym c.as_slice-2.ensures))
    (c.in_ok-bytes.ensures.passed (requests.Keys s.known.wall s.known.size) asks.Look
    (subst (SpellsRequest (requests.Keys s.known.wall s.known.size)) (sym c.as_slice.ensures)
    (c.in_ok-request.ensures s found)) refl (subst (Contains (walls_of c.args.server.now)) (sym at) c.requires.listed)))
    c.in-Ok.ensures.learns

pub returns-clause-learnt : goal.returns-clause-learnt
returns-clause-learnt g c s found =
    let d = g.D.Digester.digest_of in
    let user = user_of c.args.seats.now in
    let before = sight_at c.args.seats.now in
    let now = sight_at c.exchange.new.seats in
    let wire = g.W.Wire.view c.args.wire.now in
    let wire' = g.W.Wire.view c.exchange.new.wire in
    let at = found-wall c.args.wall (sides_view c.args.client.now.sides) s found in
    let told = c.in_ok-of_bytes-in-Err.ensures in
    subst (λ (v : Verdict). Learnt d user (client_of c.args.client.now) (client_of c.take_keys.new.self) before now wire wire' s
    (keys_ends.Rejected v)) (sym told.0)
    (learnt-rejected d user (client_view c.args.client.now) (client_view c.take_keys.new.self) before now wire wire'
    c.args.wall s c.as_slice-2.result.now c.in-Err.verdict found
    (subst (λ (o : Option Text). Passed d user before now wire wire' (requests.Keys s.known.wall s.known.size) asks.Look o)
    (c.in-Some.is ∙ ap (λ (t : Text). Some t) (sym c.as_slice-2.ensures))
    (c.in_ok-bytes.ensures.passed (requests.Keys s.known.wall s.known.size) asks.Look
    (subst (SpellsRequest (requests.Keys s.known.wall s.known.size)) (sym c.as_slice.ensures)
    (c.in_ok-request.ensures s found)) refl (subst (Contains (walls_of c.args.server.now)) (sym at) c.requires.listed)))
    (c.in-Err.ensures.rejects told.1) c.in-Err.ensures.unchanged)

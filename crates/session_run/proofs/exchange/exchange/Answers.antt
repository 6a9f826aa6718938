use Rattle.std.proofs.Common.{subst}
use Rattle.std.specs.Prelude.{IfSome, Option}
use Rattle.std.specs.List.{Contains}
use Rattle.fr_bytes.specs.Bytes.{IsBytes, Text}
use Rattle.hall_core.specs.declared.ask.Ask.{Ask}
use Rattle.hall_server.specs.HonestReplies.{IsAskOf, wall_in}
use Rattle.hall_server.specs.Seating.{walls_of}
use Rattle.hall_server.specs.Sights.{sight_at, user_of}
use Rattle.msg_form.specs.declared.message.Request.{Request}
use Rattle.msg_form.specs.Messages.{SpellsRequest}
use Rattle.session_laws.specs.Lanes.{Passed}
use Rattle.session_run.specs.Parts.{CarriesIt}
use Rattle.session_run.proofs.Carrying.{passed-by}
use Rattle.session_run.proofs.Lists.{ok-more}
use Rattle.session_run.proofs.exchange.exchange.Goals as goal

pub returns-clause-passed : goal.returns-clause-passed
returns-clause-passed g c =
    let d = g.D.Digester.digest_of in
    let user = user_of c.args.seats.now in
    let before = sight_at c.args.seats.now in
    let now = sight_at c.answer.new.seats in
    let wire = g.W.Wire.view c.args.wire.now in
    let wire' = g.W.Wire.view c.carried.new.wire in
    ok-more (λ (delivered : Option Text). CarriesIt wire wire' c.args.request.now c.as_slice.result.now delivered)
    (λ (delivered : Option Text). (r : Request) (a : Ask) → SpellsRequest r c.args.request.now → IsAskOf r a
    → Contains (walls_of c.args.server.now) (wall_in r) → Passed d user before now wire wire' r a delivered)
    c.carried.result c.carried.ensures.carries
    (λ delivered carries r a spells asks listed.
    passed-by d user before now wire wire' r a c.args.request.now c.in_ok-reply.reply delivered spells
    ((c.in_ok-reply.ensures.answers.read r spells).turned listed a asks)
    (subst (λ (t : Text). CarriesIt wire wire' c.args.request.now t delivered) c.as_slice.ensures carries))

pub returns-clause-bytes : goal.returns-clause-bytes
returns-clause-bytes g c =
    ok-more (λ (delivered : Option Text). CarriesIt (g.W.Wire.view c.args.wire.now) (g.W.Wire.view c.carried.new.wire)
    c.args.request.now c.as_slice.result.now delivered) (λ (delivered : Option Text). IfSome delivered IsBytes)
    c.carried.result c.carried.ensures.carries (λ delivered carries. carries.bytes)

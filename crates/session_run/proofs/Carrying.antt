-- An exchange, from what the server and the wire did.
use Rattle.std.proofs.Common.{◌≡◌, ◌∙◌, ℕ, [], ◌∷◌, Option, refl, ap, arith}
use Rattle.fr_bytes.specs.Bytes.{Text}
use Rattle.fr_digest.specs.Digest.{Digest}
use Rattle.fr_edges.specs.Sink.{with_more}
use Rattle.fr_edges.specs.Wire.{WireView}
use Rattle.msg_form.specs.declared.message.Request.{Request}
use Rattle.msg_form.specs.Messages.{SpellsRequest, request_text}
use Rattle.hall_core.specs.declared.ask.Ask.{Ask}
use Rattle.hall_server.specs.Answers.{AnswersTurn, Sights}
use Rattle.session_laws.specs.Doing.{Task, exchange}
use Rattle.session_laws.specs.Halves.{WireHalf}
use Rattle.session_laws.specs.Lanes.{Passed}
use Rattle.session_run.specs.Parts.{CarriesIt}

wire-half : (wire wire' : WireView) (r : Request) (a : Ask) (request reply : Text) (delivered : Option Text) (task : Task)
    → request ≡ request_text r → CarriesIt wire wire' request reply delivered
    → WireHalf wire wire' (exchange task r a (record { reply = reply; delivered = delivered; faults = wire'.faults }) ∷ [])
wire-half wire wire' r a request reply delivered task text c = record {
  straight = c.straight;
  carried = c.carried
      ∙ ap (λ (t : Text). with_more wire.carried ((record { request = t; reply = reply; delivered = delivered }) ∷ [])) text;
  through = (c.through, tt);
  counted = (c.never_falls, c.lost, omega arith);
}

pub passed-by : (d : Digest) (user : ℕ) (before now : Sights) (wire wire' : WireView) (r : Request) (a : Ask)
    (request reply : Text) (delivered : Option Text) → SpellsRequest r request
    → AnswersTurn d user before now r a reply → CarriesIt wire wire' request reply delivered
    → Passed d user before now wire wire' r a delivered
passed-by d user before now wire wire' r a request reply delivered spells answers c = record {
  carry = record { reply = reply; delivered = delivered; faults = wire'.faults };
  delivered_is = refl;
  bytes = c.bytes;
  answers = answers;
  wires = λ task. wire-half wire wire' r a request reply delivered task spells.text c;
}

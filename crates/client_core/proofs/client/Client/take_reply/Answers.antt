use Rattle.std.proofs.Common.{◌≡◌, ◌∙◌, sym, subst}
use Rattle.client_core.specs.Keeping.{IsSound}
use Rattle.client_core.specs.Sides.{SideView, side_view}
use Rattle.client_core.proofs.Heard.{sound}
use Rattle.client_core.proofs.client.Client.take_reply.Goals as goal

pub hear-requires-clause-sound : goal.hear-requires-clause-sound
hear-requires-clause-sound g c s e =
    let same : side_view c.side.result.now ≡ s = let f = sym c.side.ensures.value ∙ e in cc in
    subst (λ (x : SideView). IsSound g.D.Digester.digest_of x.known c.in_ok-checked.checked) same
    (sound g.D.Digester.digest_of c.side.result.now.known c.args.sent.now.asked c.args.bytes.now
    c.in_ok-checked.checked
    c.slices_of_bytes.ensures c.in_ok-checked.ensures)

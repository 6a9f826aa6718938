use Rattle.std.proofs.Common.{◌≤◌, subst}
use Rattle.op_types.specs.declared.limits.TheConstants.{SEQ_MAX}
use Rattle.client_core.specs.Asking.{drops}
use Rattle.client_core.specs.Clients.{client_view}
use Rattle.client_core.specs.Keeping.{IsMadeOn}
use Rattle.client_core.specs.Sides.{SideView, side_view}
use Rattle.client_core.proofs.Asked.{one-side}
use Rattle.client_core.proofs.KeysHeld.{changed-made}
use Rattle.client_core.proofs.client.Client.remove_request.Goals as goal

pub append-requires-clause-made : goal.append-requires-clause-made
append-requires-clause-made g c s found =
    let now = c.args.self.now in
    let t = side_view c.side.result.now in
    let ready = c.requires in
    let number = subst (λ (x : SideView). x.next ≤ SEQ_MAX) (one-side c.args.wall
    (client_view now) ready.side t ready.found c.side.ensures.value) ready.number in
    subst (λ (x : SideView). IsMadeOn now.book.user x c.in_ok-kind.kind) (one-side c.args.wall
    (client_view now) t s c.side.ensures.value found)
    (changed-made now.book.user t (drops c.args.user) c.in_ok-kind.kind number c.side.ensures.keys
    c.in_ok-kind.ensures.changed)

use Rattle.std.proofs.Common.{◌≡◌, true, false, Some, refl, sym, subst}
use Rattle.std.specs.Prelude.{IfOk}
use Rattle.msg_form.specs.declared.message.Request.TheVariants as requests
use Rattle.msg_form.specs.Messages.{IsRequest}
use Rattle.script_read.specs.declared.script.Command.{Command}
use Rattle.script_read.specs.declared.script.Command.TheVariants as commands
use Rattle.client_core.specs.declared.sent.Sent.{Sent}
use Rattle.client_core.specs.Asking.{adds, changed, drops, posted}
use Rattle.client_core.specs.Asking as asking
use Rattle.client_core.specs.Clients.{Asks, IsSendable, client_view}
use Rattle.client_core.specs.Sides.{SideView, side_of}
use Rattle.session_laws.specs.Doing.{wall_of}
use Rattle.session_run.specs.Parts.{Sends}
use Rattle.session_run.proofs.Asked.{look-sends, write-sends}
use Rattle.session_run.proofs.Lists.{ok-both}
use Rattle.session_run.proofs.asking.ask.Goals as goal

pub returns-in-Post-clause-spelled : goal.returns-in-Post-clause-spelled
returns-in-Post-clause-spelled g c =
    let before = client_view c.args.client.now in
    let wall = c.in-Post.wall in
    let text = c.in-Post.text in
    subst (λ (command : Command). IfOk c.post_request.result (λ (sent : Sent). (s : SideView)
    → side_of (wall_of command) before.sides ≡ Some s → Sends s command sent)) (sym c.in-Post.is)
    (ok-both (λ (sent : Sent). Asks before wall (asking.post c.as_slice.result.now) sent (client_view c.post_request.new.self))
    (λ (sent : Sent). (s : SideView) → side_of wall before.sides ≡ Some s → IsSendable s.known.size sent.signed)
    (λ (sent : Sent). (s : SideView) → side_of wall before.sides ≡ Some s → Sends s (commands.Post wall text) sent)
    c.post_request.result c.post_request.ensures.asks c.post_request.ensures.spelled
    (λ sent a spelled s found.
    write-sends before (client_view c.post_request.new.self) wall (commands.Post wall text)
    (asking.post c.as_slice.result.now) (λ t. posted before.book.user t c.as_slice.result.now) sent s (λ t. refl) a found
    (spelled s found)))

pub returns-in-Admit-clause-spelled : goal.returns-in-Admit-clause-spelled
returns-in-Admit-clause-spelled g c =
    let before = client_view c.args.client.now in
    let wall = c.in-Admit.wall in
    let user = c.in-Admit.user in
    let role = c.in-Admit.role in
    subst (λ (command : Command). IfOk c.admit_request.result (λ (sent : Sent). (s : SideView)
    → side_of (wall_of command) before.sides ≡ Some s → Sends s command sent)) (sym c.in-Admit.is)
    (ok-both (λ (sent : Sent). Asks before wall (asking.admit user role) sent (client_view c.admit_request.new.self))
    (λ (sent : Sent). (s : SideView) → side_of wall before.sides ≡ Some s → IsSendable s.known.size sent.signed)
    (λ (sent : Sent). (s : SideView) → side_of wall before.sides ≡ Some s → Sends s (commands.Admit wall user role) sent)
    c.admit_request.result c.admit_request.ensures.asks c.admit_request.ensures.spelled
    (λ sent a spelled s found.
    write-sends before (client_view c.admit_request.new.self) wall (commands.Admit wall user role)
    (asking.admit user role) (λ t. changed t (adds user role)) sent s (λ t. refl) a found (spelled s found)))

pub returns-in-Remove-clause-spelled : goal.returns-in-Remove-clause-spelled
returns-in-Remove-clause-spelled g c =
    let before = client_view c.args.client.now in
    let wall = c.in-Remove.wall in
    let user = c.in-Remove.user in
    subst (λ (command : Command). IfOk c.remove_request.result (λ (sent : Sent). (s : SideView)
    → side_of (wall_of command) before.sides ≡ Some s → Sends s command sent)) (sym c.in-Remove.is)
    (ok-both (λ (sent : Sent). Asks before wall (asking.remove user) sent (client_view c.remove_request.new.self))
    (λ (sent : Sent). (s : SideView) → side_of wall before.sides ≡ Some s → IsSendable s.known.size sent.signed)
    (λ (sent : Sent). (s : SideView) → side_of wall before.sides ≡ Some s → Sends s (commands.Remove wall user) sent)
    c.remove_request.result c.remove_request.ensures.asks c.remove_request.ensures.spelled
    (λ sent a spelled s found.
    write-sends before (client_view c.remove_request.new.self) wall (commands.Remove wall user)
    (asking.remove user) (λ t. changed t (drops user)) sent s (λ t. refl) a found (spelled s found)))

pub returns-in-Read-clause-spelled : goal.returns-in-Read-clause-spelled
returns-in-Read-clause-spelled g c =
    let before = client_view c.args.client.now in
    let wall = c.in-Read.wall in
    subst (λ (command : Command). IfOk c.look.result (λ (sent : Sent). (s : SideView)
    → side_of (wall_of command) before.sides ≡ Some s → Sends s command sent)) (sym c.in-Read.is)
    (ok-both (λ (sent : Sent). Asks before wall (asking.look false) sent before)
    (λ (sent : Sent). (s : SideView) → side_of wall before.sides ≡ Some s → IsRequest (requests.Look s.known.wall s.known.size false))
    (λ (sent : Sent). (s : SideView) → side_of wall before.sides ≡ Some s → Sends s (commands.Read wall) sent)
    c.look.result c.look.ensures.asks c.look.ensures.spelled
    (λ sent a spelled s found.
    look-sends before before wall (commands.Read wall) false sent s refl a found (spelled s found)))

pub returns-in-ReadAll-clause-spelled : goal.returns-in-ReadAll-clause-spelled
returns-in-ReadAll-clause-spelled g c =
    let before = client_view c.args.client.now in
    let wall = c.in-ReadAll.wall in
    subst (λ (command : Command). IfOk c.look-in-ReadAll.result (λ (sent : Sent). (s : SideView)
    → side_of (wall_of command) before.sides ≡ Some s → Sends s command sent)) (sym c.in-ReadAll.is)
    (ok-both (λ (sent : Sent). Asks before wall (asking.look true) sent before)
    (λ (sent : Sent). (s : SideView) → side_of wall before.sides ≡ Some s → IsRequest (requests.Look s.known.wall s.known.size true))
    (λ (sent : Sent). (s : SideView) → side_of wall before.sides ≡ Some s → Sends s (commands.ReadAll wall) sent)
    c.look-in-ReadAll.result c.look-in-ReadAll.ensures.asks c.look-in-ReadAll.ensures.spelled
    (λ sent a spelled s found.
    look-sends before before wall (commands.ReadAll wall) true sent s refl a found (spelled s found)))

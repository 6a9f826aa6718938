-- What a client asks for, by the operation that it adds.
use Rattle.std.proofs.Common.{◌≡◌, ◌∙◌, ℕ, Some, ap, sym, subst}
use Rattle.std.specs.Prelude.{IfSome, Result, Ok}
use Rattle.op_types.specs.declared.kind.Kind.{Kind}
use Rattle.msg_form.specs.declared.decline.Decline.{Decline}
use Rattle.signed_ops.specs.Signed.{IsAuthorSigned, signed_by}
use Rattle.client_core.specs.declared.sent.Sent.{Sent}
use Rattle.client_core.specs.Asking.{Command, ask, sent_of, sent_with, unsigned}
use Rattle.client_core.specs.Clients.{Appends, Asks, ClientView, having_sent}
use Rattle.client_core.specs.Sides.{SideView, side_of}

pub one-side : (wall : ℕ) (c : ClientView) (s t : SideView) → side_of wall c.sides ≡ Some s
    → side_of wall c.sides ≡ Some t → s ≡ t
one-side wall c s t e f = let g = sym e ∙ f in cc

pub asks : (before after : ClientView) (wall : ℕ) (command : Command) (made : Result Kind Decline) (kind : Kind)
    (sent : Sent) (s : SideView)
    → side_of wall before.sides ≡ Some s
    → ask before.signer before.book.user s command ≡ sent_with before.signer before.book.user s made → made ≡ Ok kind
    → Appends before wall kind sent after → Asks before wall command sent after
asks before after wall command made kind sent s found is ok it =
    let same : it.side ≡ s = one-side wall before it.side s it.found found in
    record {
      side = s;
      found = found;
      asked = is ∙ (ap (sent_with before.signer before.book.user s) ok
          ∙ ap Ok (sym (it.sent_is ∙ ap (λ (x : SideView). sent_of x.known.size (signed_by before.signer
          (unsigned before.book.user x kind))) same)));
      signed = subst (λ (x : SideView). IfSome sent.signed (IsAuthorSigned x.known.users)) same it.signed;
      after_is = it.after_is ∙ ap (λ (x : SideView). having_sent before x sent.signed) same;
    }

-- What is sent for a command has a spelling.
use Rattle.std.proofs.Common.{◌≡◌, ◌∙◌, ℕ, Bool, Option, Some, Result, Ok, Err, refl, ap, sym, subst}
use Rattle.op_types.specs.declared.kind.Kind.{Kind}
use Rattle.op_types.specs.declared.op.Op.{Op}
use Rattle.op_types.specs.Spelling.{op_text}
use Rattle.lms_tree.specs.Signer.{Signing}
use Rattle.signed_ops.specs.Signed.{signed_by}
use Rattle.msg_form.specs.declared.decline.Decline.{Decline}
use Rattle.msg_form.specs.declared.message.Request.TheVariants as requests
use Rattle.msg_form.specs.Messages.{IsRequest, request_text}
use Rattle.script_read.specs.declared.script.Command.{Command}
use Rattle.client_core.specs.declared.sent.Sent.{Sent}
use Rattle.client_core.specs.Asking.{ask, look, look_sent, sent_of, sent_with, unsigned}
use Rattle.client_core.specs.Asking as asking
use Rattle.client_core.specs.Clients.{Asks, ClientView, IsSendable}
use Rattle.client_core.specs.Sides.{SideView, side_of}
use Rattle.session_laws.specs.Doing.{is_whole}
use Rattle.session_run.specs.Parts.{Sends}

pub found-same : {A : Type 0} (o : Option A) (x y : A) → o ≡ Some x → o ≡ Some y → x ≡ y
found-same o x y e f = let both = sym e ∙ f in cc

-- ---- looks

look-is : (s : SideView) (command : Command) (whole : Bool) → is_whole command ≡ whole
    → IsRequest (requests.Look s.known.wall s.known.size whole) → Sends s command (look_sent s whole)
look-is s command whole e spelled = record {
  spells = record {
    is_request = subst (λ (b : Bool). IsRequest (requests.Look s.known.wall s.known.size b)) (sym e) spelled;
    text = ap (λ (b : Bool). request_text (requests.Look s.known.wall s.known.size b)) (sym e);
  };
  asks = refl;
  wall = refl;
}

pub look-sends : (c c' : ClientView) (wall : ℕ) (command : Command) (whole : Bool) (sent : Sent) (s : SideView)
    → is_whole command ≡ whole → Asks c wall (look whole) sent c' → side_of wall c.sides ≡ Some s
    → IsRequest (requests.Look s.known.wall s.known.size whole) → Sends s command sent
look-sends c c' wall command whole sent s e a found spelled =
    let same : a.side ≡ s = found-same (side_of wall c.sides) a.side s a.found found in
    let is : look_sent a.side whole ≡ sent = let asked = a.asked in cc in
    subst (λ (x : Sent). Sends s command x) (ap (λ (t : SideView). look_sent t whole) (sym same) ∙ is)
    (look-is s command whole e spelled)

-- ---- writes

op-sends : (s : SideView) (command : Command) (op : Op) → op.wall ≡ s.known.wall → IsSendable s.known.size (Some op)
    → Sends s command (sent_of s.known.size op)
unfolding sent_of
op-sends s command op at spelled = record {
  spells = record {
    is_request = subst (λ (w : ℕ). IsRequest (requests.Append w s.known.size (op_text op))) at spelled.1;
    text = ap (λ (w : ℕ). request_text (requests.Append w s.known.size (op_text op))) at;
  };
  asks = (op, record { is_op = spelled.0; text = refl }, refl);
  wall = at;
}

signed-wall : (signer : Signing) (op : Op) → (signed_by signer op).wall ≡ op.wall
unfolding signed_by
signed-wall signer op = refl

signed-is : (have : ℕ) (op : Op) → (sent_of have op).signed ≡ Some op
unfolding sent_of
signed-is have op = refl

written : (signer : Signing) (user : ℕ) (s : SideView) (r : Result Kind Decline) (sent : Sent) (command : Command)
    → sent_with signer user s r ≡ Ok sent → IsSendable s.known.size sent.signed → Sends s command sent
written signer user s (Err decline) sent command e spelled = absurd cc
written signer user s (Ok kind) sent command e spelled =
    let op = signed_by signer (unsigned user s kind) in
    let is : sent_of s.known.size op ≡ sent = cc in
    let signed : sent.signed ≡ Some op = ap (λ (x : Sent). x.signed) (sym is) ∙ signed-is s.known.size op in
    subst (λ (x : Sent). Sends s command x) is
    (op-sends s command op (signed-wall signer (unsigned user s kind))
    (subst (λ (o : Option Op). IsSendable s.known.size o) signed spelled))

pub write-sends : (c c' : ClientView) (wall : ℕ) (command : Command) (wish : asking.Command)
    (r : SideView → Result Kind Decline) (sent : Sent) (s : SideView)
    → ((t : SideView) → ask c.signer c.book.user t wish ≡ sent_with c.signer c.book.user t (r t))
    → Asks c wall wish sent c' → side_of wall c.sides ≡ Some s → IsSendable s.known.size sent.signed
    → Sends s command sent
write-sends c c' wall command wish r sent s is a found spelled =
    let same : a.side ≡ s = found-same (side_of wall c.sides) a.side s a.found found in
    written c.signer c.book.user s (r s) sent command
    (sym (is s) ∙ subst (λ (t : SideView). ask c.signer c.book.user t wish ≡ Ok sent) same a.asked) spelled

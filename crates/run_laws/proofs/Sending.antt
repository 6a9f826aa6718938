-- What a client sends for a command: a look, or an operation that it signed.
use Rattle.std.proofs.Common.{◌≡◌, ◌⊎◌, inl, inr, ℕ, true, false, Some, None, Result, Ok, Err, refl, subst}
use Rattle.op_types.specs.declared.kind.Kind.{Kind}
use Rattle.op_types.specs.declared.op.Op.{Op}
use Rattle.op_types.specs.Spelling.{op_text}
use Rattle.lms_tree.specs.Signer.{Signing}
use Rattle.signed_ops.specs.Signed.{signed_by}
use Rattle.msg_form.specs.declared.decline.Decline.{Decline}
use Rattle.check_rules.specs.declared.asked.Asked.TheVariants as asked
use Rattle.script_read.specs.declared.script.Command.{Command}
use Rattle.script_read.specs.declared.script.Command.TheVariants as commands
use Rattle.client_core.specs.declared.sent.Sent.{Sent}
use Rattle.client_core.specs.Asking.{adds, ask, changed, drops, look_sent, posted, sent_of, sent_with, unsigned}
use Rattle.client_core.specs.Sides.{SideView}
use Rattle.session_laws.specs.Doing.{asked_by, is_whole}

pub record SendsLook (sent : Sent) : Type 0 where
  pub signed : sent.signed ≡ None
  pub asked_is : sent.asked ≡ asked.Look

pub record SendsOp (command : Command) (sent : Sent) : Type 0 where
  pub op : Op
  pub signed : sent.signed ≡ Some op
  pub asked_is : sent.asked ≡ asked.Append (op_text op)
  pub not_whole : is_whole command ≡ false

op-sent : (command : Command) (have : ℕ) (op : Op) → is_whole command ≡ false → SendsOp command (sent_of have op)
unfolding sent_of
op-sent command have op part = record { op = op; signed = refl; asked_is = refl; not_whole = part }

with-sent : (command : Command) (signer : Signing) (user : ℕ) (s : SideView) (r : Result Kind Decline) (sent : Sent)
    → is_whole command ≡ false → sent_with signer user s r ≡ Ok sent → SendsOp command sent
with-sent command signer user s (Err decline) sent part e = absurd cc
with-sent command signer user s (Ok kind) sent part e =
    let is : sent_of s.known.size (signed_by signer (unsigned user s kind)) ≡ sent = cc in
    subst (SendsOp command) is (op-sent command s.known.size (signed_by signer (unsigned user s kind)) part)

pub sends : (command : Command) (signer : Signing) (user : ℕ) (s : SideView) (sent : Sent)
    → ask signer user s (asked_by command) ≡ Ok sent → SendsLook sent ⊎ SendsOp command sent
sends (commands.Read wall) signer user s sent e =
    let is : look_sent s false ≡ sent = cc in subst (λ (x : Sent). SendsLook x ⊎ SendsOp (commands.Read wall) x) is
    (inl (record { signed = refl; asked_is = refl }))
sends (commands.ReadAll wall) signer user s sent e =
    let is : look_sent s true ≡ sent = cc in subst (λ (x : Sent). SendsLook x ⊎ SendsOp (commands.ReadAll wall) x) is
    (inl (record { signed = refl; asked_is = refl }))
sends (commands.Post wall text) signer user s sent e =
    inr (with-sent (commands.Post wall text) signer user s (posted user s text) sent refl e)
sends (commands.Admit wall other role) signer user s sent e =
    inr (with-sent (commands.Admit wall other role) signer user s (changed s (adds other role)) sent refl e)
sends (commands.Remove wall other) signer user s sent e =
    inr (with-sent (commands.Remove wall other) signer user s (changed s (drops other)) sent refl e)

-- What a client's operation is, by its command and its side.
use Rattle.std.proofs.Common.{◌≡◌, ℕ, true, false, Option, Some, None, Ok, refl, subst}
use Rattle.op_types.specs.declared.kind.Kind.{Kind}
use Rattle.op_types.specs.declared.op.Op.{Op}
use Rattle.lms_tree.specs.Signer.{Signing}
use Rattle.signed_ops.specs.Signed.{signed_by}
use Rattle.script_read.specs.declared.script.Command.{Command}
use Rattle.script_read.specs.declared.script.Command.TheVariants as commands
use Rattle.client_core.specs.declared.sent.Sent.{Sent}
use Rattle.client_core.specs.Asking.{adds, ask, changed, drops, look_sent, posted, unsigned}
use Rattle.client_core.specs.Sides.{SideView}
use Rattle.session_laws.specs.Doing.{ask_of, asked_by}
use Rattle.run_laws.specs.Listed.{AsksFor}
use Rattle.run_laws.proofs.Asks.{look-ask, with-ask}

-- the kind that a command makes at a side
abbrev pub Makes : ℕ → SideView → Command → Kind → Type 0
Makes user s (commands.Post wall text) kind = posted user s text ≡ Ok kind
Makes user s (commands.Read wall) kind = ⊥
Makes user s (commands.ReadAll wall) kind = ⊥
Makes user s (commands.Admit wall other role) kind = changed s (adds other role) ≡ Ok kind
Makes user s (commands.Remove wall other) kind = changed s (drops other) ≡ Ok kind

-- the operation is the side's next, of such a kind
pub record IsNext (user : ℕ) (s : SideView) (command : Command) (op : Op) : Type 0 where
  pub makes : Makes user s command op.kind
  pub author : op.author ≡ user
  pub seq : op.seq ≡ s.next
  pub epoch : op.epoch ≡ s.known.epoch
  pub wall : op.wall ≡ s.known.wall

next-of : (signer : Signing) (user : ℕ) (s : SideView) (command : Command) (kind : Kind) → Makes user s command kind
    → IsNext user s command (signed_by signer (unsigned user s kind))
unfolding signed_by
next-of signer user s command kind makes = record {
  makes = makes;
  author = refl;
  seq = refl;
  epoch = refl;
  wall = refl;
}

asks-next : (signer : Signing) (user : ℕ) (s : SideView) (command : Command) (sent : Sent)
    → ask signer user s (asked_by command) ≡ Ok sent → AsksFor (IsNext user s command) (ask_of sent.signed)
asks-next signer user s (commands.Read wall) sent e =
    look-ask (IsNext user s (commands.Read wall)) signer user s false sent (let is : look_sent s false ≡ sent = cc in is)
asks-next signer user s (commands.ReadAll wall) sent e =
    look-ask (IsNext user s (commands.ReadAll wall)) signer user s true sent (let is : look_sent s true ≡ sent = cc in is)
asks-next signer user s (commands.Post wall text) sent e =
    with-ask (IsNext user s (commands.Post wall text)) signer user s (posted user s text) sent
    (λ kind is. next-of signer user s (commands.Post wall text) kind is) e
asks-next signer user s (commands.Admit wall other role) sent e =
    with-ask (IsNext user s (commands.Admit wall other role)) signer user s (changed s (adds other role)) sent
    (λ kind is. next-of signer user s (commands.Admit wall other role) kind is) e
asks-next signer user s (commands.Remove wall other) sent e =
    with-ask (IsNext user s (commands.Remove wall other)) signer user s (changed s (drops other)) sent
    (λ kind is. next-of signer user s (commands.Remove wall other) kind is) e

asks-some : (P : Op → Type 0) (signed : Option Op) (op : Op) → AsksFor P (ask_of signed) → signed ≡ Some op → P op
asks-some P None op it e = absurd cc
asks-some P (Some o) op it e = let is : o ≡ op = cc in subst P is it

pub sent-next : (signer : Signing) (user : ℕ) (s : SideView) (command : Command) (sent : Sent) (op : Op)
    → ask signer user s (asked_by command) ≡ Ok sent → sent.signed ≡ Some op → IsNext user s command op
sent-next signer user s command sent op asked is =
    asks-some (IsNext user s command) sent.signed op (asks-next signer user s command sent asked) is

-- Room for an operation's signature: in the texts that will hold it, and in the user's book.
use Rattle.std.specs.Prelude.{◌≡◌, ◌<◌, ◌^◌, true, false, [], ◌∷◌, ◌++◌, Option, Some, None}
use Rattle.fr_bytes.specs.Bytes.{Text}
use Rattle.op_types.specs.declared.op.Op.{Op}
use Rattle.op_types.specs.Spelling.{IsOp, op_text}
use Rattle.lms_tree.specs.Signer.{Signing, public_of, signature_at}
use Rattle.lms_tree.specs.Valid.{Valid}
use Rattle.msg_form.specs.declared.message.Request.TheVariants as requests
use Rattle.msg_form.specs.Messages.{request_text}
use Rattle.world_book.specs.declared.book.UserBook.{UserBook}
use Rattle.world_book.specs.declared.took.Signed.{Signed}
use Rattle.client_core.specs.declared.signing.Draft.{Draft}

-- the texts of an operation, as they are with the signature that it has
pub record IsDraft (draft : Draft) : Type 0 where
  pub text : draft.text ≡ op_text draft.op
  pub request : draft.request ≡ request_text (requests.Append draft.op.wall draft.have (op_text draft.op))
  pub is_op : IsOp draft.op
  pub have : draft.have < 2 ^ 64

-- The signature that the signer makes next is valid for this message, under the signer's key.
abbrev pub IsValidNext : Signing → Text → Type 0
IsValidNext s message =
    Valid (public_of s.private s.id s.pair) message (signature_at s.private s.id s.pair s.used message)

-- An honest user's book has a place more, and a copy is kept for it; a rogue's has none.
abbrev pub IsRoom : UserBook → UserBook → Op → Option Op → Type 0
IsRoom before after op None = (before.rogue ≡ true) × (after ≡ before)
IsRoom before after op (Some kept) = (before.rogue ≡ false) × (kept ≡ op)
    × (place : Signed) × (after ≡ record before { signed = before.signed ++ place ∷ [] })

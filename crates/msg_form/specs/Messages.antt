-- The one spelling of each request and each reply.
use Rattle.std.specs.Prelude.{◌≡◌, ℕ, ◌-◌, ◌≤◌, List, [], ◌∷◌, ◌++◌, length, Option, None, nat_lt, if◌then◌else◌}
use Rattle.std.specs.Int.{w32, w64, to_be_bytes}
use Rattle.fr_bytes.specs.Bytes.{Text, counted}
use Rattle.fr_bytes.specs.Reading.{Reader, all_of, as_at}
use Rattle.fr_bytes.specs.Format.{Format, format}
use Rattle.fr_bytes.specs.Parts.{tagged_at, one_of}
use Rattle.op_types.specs.Spelling.{view_text}
use Rattle.msg_form.specs.declared.tags.TheConstants.{LOOK_TAG, APPEND_TAG, KEYS_TAG, SHOW_TAG, REFUSED_TAG, KEY_OPS_TAG}
use Rattle.msg_form.specs.declared.message.TheConstants.{REPLY_BYTES_MAX}
use Rattle.msg_form.specs.declared.message.Request.{Request}
use Rattle.msg_form.specs.declared.message.Request.TheVariants.{Look, Append, Keys}
use Rattle.msg_form.specs.declared.message.Reply.{Reply}
use Rattle.msg_form.specs.declared.message.Reply.TheVariants.{Show, Refused, KeyOps}
use Rattle.msg_form.specs.Formats.{flag, shown, look, append, keys, show, refused, key_ops}

-- ---- requests

abbrev pub IsRequest : Request → Type 0
IsRequest (Look wall have whole) = look.fits (wall, (have, whole))
IsRequest (Append wall have op) = append.fits (wall, (have, op))
IsRequest (Keys wall size) = keys.fits (wall, size)

abbrev pub request_tag : Request → ℕ
request_tag (Look wall have whole) = LOOK_TAG
request_tag (Append wall have op) = APPEND_TAG
request_tag (Keys wall size) = KEYS_TAG

abbrev pub request_rest : Request → Text
request_rest (Look wall have whole) = to_be_bytes w32 wall ++ (to_be_bytes w64 have ++ flag.text whole)
request_rest (Append wall have op) = to_be_bytes w32 wall ++ (to_be_bytes w64 have ++ counted op)
request_rest (Keys wall size) = to_be_bytes w32 wall ++ to_be_bytes w64 size

abbrev pub request_text : Request → Text
request_text request = request_tag request ∷ request_rest request

-- the bytes spell the request
pub record SpellsRequest (request : Request) (bytes : Text) : Type 0 where
  pub is_request : IsRequest request
  pub text : bytes ≡ request_text request

-- ---- replies

-- its parts are in range
abbrev pub HasParts : Reply → Type 0
HasParts (Show view from tree lists) = show.fits (view.wall, (view, (from, (tree, lists))))
HasParts (Refused wall cause number) = refused.fits (wall, (cause, number))
HasParts (KeyOps wall size tree) = key_ops.fits (wall, (size, tree))

abbrev pub reply_tag : Reply → ℕ
reply_tag (Show view from tree lists) = SHOW_TAG
reply_tag (Refused wall cause number) = REFUSED_TAG
reply_tag (KeyOps wall size tree) = KEY_OPS_TAG

abbrev pub reply_rest : Reply → Text
reply_rest (Show view from tree lists) =
    to_be_bytes w32 view.wall ++ (view_text view ++ (to_be_bytes w64 from ++ (shown (view.size - from)).text (tree, lists)))
reply_rest (Refused wall cause number) = to_be_bytes w32 wall ++ (cause ∷ to_be_bytes w64 number)
reply_rest (KeyOps wall size tree) = to_be_bytes w32 wall ++ (to_be_bytes w64 size ++ counted tree)

abbrev pub reply_text : Reply → Text
reply_text reply = reply_tag reply ∷ reply_rest reply

-- its parts are in range, and it isn't too long
pub record IsReply (reply : Reply) : Type 0 where
  pub parts : HasParts reply
  pub short : length (reply_text reply) ≤ REPLY_BYTES_MAX

-- the bytes spell the reply
pub record SpellsReply (reply : Reply) (bytes : Text) : Type 0 where
  pub is_reply : IsReply reply
  pub text : bytes ≡ reply_text reply

-- ---- reading, by the tag

unfoldable pub look_at : Reader Request
look_at = as_at (λ x. Look x.0 x.1.0 x.1.1) look.read

unfoldable pub append_at : Reader Request
append_at = as_at (λ x. Append x.0 x.1.0 x.1.1) append.read

unfoldable pub keys_at : Reader Request
keys_at = as_at (λ x. Keys x.0 x.1) keys.read

abbrev pub request_cases : List (ℕ × Reader Request)
request_cases = (LOOK_TAG, look_at) ∷ (APPEND_TAG, append_at) ∷ (KEYS_TAG, keys_at) ∷ []

unfoldable pub request_behind_at : ℕ → Reader Request
request_behind_at = one_of request_cases

unfoldable pub request_at : Reader Request
request_at = tagged_at request_behind_at

abbrev pub request_format : Format Request
request_format = format IsRequest request_text request_at

unfoldable pub show_at : Reader Reply
show_at = as_at (λ x. Show x.1.0 x.1.1.0 x.1.1.1.0 x.1.1.1.1) show.read

unfoldable pub refused_at : Reader Reply
refused_at = as_at (λ x. Refused x.0 x.1.0 x.1.1) refused.read

unfoldable pub key_ops_at : Reader Reply
key_ops_at = as_at (λ x. KeyOps x.0 x.1.0 x.1.1) key_ops.read

abbrev pub reply_cases : List (ℕ × Reader Reply)
reply_cases = (SHOW_TAG, show_at) ∷ (REFUSED_TAG, refused_at) ∷ (KEY_OPS_TAG, key_ops_at) ∷ []

unfoldable pub reply_behind_at : ℕ → Reader Reply
reply_behind_at = one_of reply_cases

unfoldable pub reply_at : Reader Reply
reply_at = tagged_at reply_behind_at

abbrev pub reply_format : Format Reply
reply_format = format HasParts reply_text reply_at

-- the reply that bytes spell, which are no more than a reply may have
unfoldable pub reply_of : Text → Option Reply
reply_of bytes = if nat_lt REPLY_BYTES_MAX (length bytes) then None else all_of reply_at bytes

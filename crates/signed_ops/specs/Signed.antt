-- Signed operations: an operation is signed by its author where its signature is valid, over the
-- operation's message, under the key that is listed for the author (RFC 8554, section 5.4.2).
use Rattle.std.specs.Prelude.{◌≡◌, ◌+◌, ℕ, Bool, false, List, Option, Some, None, find, nat_eq}
use Rattle.std.specs.Option.{option_map}
use Rattle.op_types.specs.declared.op.Op.{Op}
use Rattle.op_types.specs.declared.view.View.{View}
use Rattle.op_types.specs.Spelling.{op_signed, view_signed}
use Rattle.lms_tree.specs.Valid.{Key, Valid, is_valid}
use Rattle.lms_tree.specs.Signer.{Signing, signature_at}

-- ---- keys

-- the key of a user among listed keys
abbrev pub key_of : List (ℕ × Key) → ℕ → Option Key
key_of keys user = option_map (λ (p : ℕ × Key). p.1) (find (λ (p : ℕ × Key). nat_eq p.0 user) keys)

-- ---- signatures of authors

abbrev pub is_signed_under : Option Key → Op → Bool
is_signed_under None op = false
is_signed_under (Some key) op = is_valid key (op_signed op) op.sig

-- as a test
unfoldable pub is_author_signed : List (ℕ × Key) → Op → Bool
is_author_signed keys op = is_signed_under (key_of keys op.author) op

-- as a relation
pub record IsAuthorSigned (keys : List (ℕ × Key)) (op : Op) : Type 0 where
  pub key : Key
  pub listed : key_of keys op.author ≡ Some key
  pub valid : Valid key (op_signed op) op.sig

-- ---- signatures of servers

-- The signature of a view is valid under the server's key, over the view's message.
unfoldable pub is_view_signed : Key → View → Bool
is_view_signed key view = is_valid key (view_signed view.wall view.size view.root) view.sig

-- ---- signing

-- the operation with a signature in place of its own
abbrev pub with_sig : Op → List ℕ → Op
with_sig op sig = record op { sig = sig }

-- the operation as a signer signs it next
unfoldable pub signed_by : Signing → Op → Op
signed_by s op = with_sig op (signature_at s.private s.id s.pair s.used (op_signed op))

-- the signer afterwards
abbrev pub once_more : Signing → Signing
once_more s = record s { used = s.used + 1 }

-- The test of an author's signature, and the length of what a signer makes.
use Rattle.std.proofs.Common.{◌≡◌, ◌∙◌, ℕ, ◌+◌, ◌*◌, ◌≤◌, Bool, true, List, length, Option, Some, None, refl, sym, ap, arith}
use Rattle.std.specs.Prelude.{◌↔◌, IsTrue}
use Rattle.op_types.specs.declared.op.Op.{Op}
use Rattle.op_types.specs.declared.limits.TheConstants.{SIGNATURE_BYTES_MAX}
use Rattle.op_types.specs.Spelling.{op_signed, unsigned_text}
use Rattle.lms_params.specs.declared.pair.Pair.{Pair}
use Rattle.lms_params.specs.Parameters.{IsListed}
use Rattle.lms_tree.specs.Valid.{Key, Valid, is_valid}
use Rattle.lms_tree.specs.Signer.{public_of}
use Rattle.lms_tree.proofs.Decided.{valid_decides}
use Rattle.signed_ops.specs.Signed.{key_of, is_signed_under, is_author_signed, IsAuthorSigned, with_sig}

under : (keys : List (ℕ × Key)) (op : Op) (found : Option Key) → key_of keys op.author ≡ found → is_signed_under found op ≡ true → IsAuthorSigned keys op
under keys op None e h = absurd cc
under keys op (Some key) e h = record { key = key; listed = e; valid = (valid_decides key (op_signed op) op.sig).0 h }

pub is_signed : (keys : List (ℕ × Key)) (op : Op) → is_author_signed keys op ≡ true → IsAuthorSigned keys op
unfolding is_author_signed
is_signed keys op h = under keys op (key_of keys op.author) refl h

pub signed_is : (keys : List (ℕ × Key)) (op : Op) → IsAuthorSigned keys op → is_author_signed keys op ≡ true
unfolding is_author_signed
signed_is keys op s = ap (λ (found : Option Key). is_signed_under found op) s.listed ∙ (valid_decides s.key (op_signed op) op.sig).1 s.valid

pub signed_iff : (keys : List (ℕ × Key)) (op : Op) → (is_author_signed keys op ≡ true) ↔ IsAuthorSigned keys op
signed_iff keys op = (λ h. is_signed keys op h, λ s. signed_is keys op s)

pub signed_test : (keys : List (ℕ × Key)) (op : Op) (b : Bool) → b ≡ is_author_signed keys op → IsTrue b ↔ IsAuthorSigned keys op
signed_test keys op b e = (λ h. is_signed keys op (sym e ∙ h), λ s. e ∙ signed_is keys op s)

pub unsigned_by : (op : Op) (sig : List ℕ) → op_signed (with_sig op sig) ≡ op_signed op
unfolding op_signed unsigned_text
unsigned_by op sig = refl

-- no signature is longer than the longest of the tables
pub short_enough : (private id : List ℕ) (pair : Pair) (message sig : List ℕ) → IsListed pair → Valid (public_of private id pair) message sig → length sig ≤ SIGNATURE_BYTES_MAX
unfolding public_of
short_enough private id pair message sig h valid =
    let e : length sig ≡ 8 + pair.ots.sig_len + 32 * pair.lms.h = valid.long in
    let ots : pair.ots.sig_len ≤ 8516 = grind arith in
    let low : pair.lms.h ≤ 25 = grind arith in
    omega arith

pub found_test : (keys : List (ℕ × Key)) (op : Op) (key : Key) → key_of keys op.author ≡ Some key → is_valid key (op_signed op) op.sig ≡ is_author_signed keys op
unfolding is_author_signed
found_test keys op key e = ap (λ (found : Option Key). is_signed_under found op) (sym e)

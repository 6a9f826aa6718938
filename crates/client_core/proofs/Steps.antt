-- A client after what its calls do with the side of a wall.
use Rattle.std.proofs.Common.{◌≡◌, ◌∙◌, ℕ, ◌+◌, List, Some, refl, ap, sym, subst}
use Rattle.std.specs.Prelude.{IfSome, slice_set}
use Rattle.fr_bytes.specs.Bytes.{Text}
use Rattle.fr_digest.specs.Digest.{Digest}
use Rattle.op_types.specs.declared.kind.Kind.{Kind}
use Rattle.op_types.specs.declared.op.Op.{Op}
use Rattle.op_types.specs.Spelling.{op_signed}
use Rattle.lms_tree.specs.Signer.{Signing, public_of}
use Rattle.lms_tree.specs.Valid.{Valid}
use Rattle.signed_ops.specs.Signed.{IsAuthorSigned, once_more, signed_by}
use Rattle.signed_ops.proofs.Signatures.{unsigned_by}
use Rattle.client_core.specs.Signing.{IsValidNext}
use Rattle.check_core.specs.declared.checked.Checked.{Checked}
use Rattle.check_core.specs.View.{checked_view}
use Rattle.world_book.specs.declared.book.UserBook.{UserBook}
use Rattle.client_core.specs.declared.news.News.{News}
use Rattle.client_core.specs.declared.sent.Sent.{Sent}
use Rattle.client_core.specs.declared.side.Side.{Side}
use Rattle.client_core.specs.Asking.{sent_of, unsigned}
use Rattle.client_core.specs.Clients.{Appends, ClientView, Learns, Makes, book_after, client_view, having_sent, having_taken, with_signed}
use Rattle.client_core.specs.Keeping.{IsMadeOn, IsSound, Keeps}
use Rattle.client_core.proofs.KeysHeld.{relearnt-keys}
use Rattle.client_core.specs.Sides.{SideView, side_view, sides_view, with_side}
use Rattle.client_core.specs.Taking.{news_of, relearnt, side_after}
use Rattle.client_core.proofs.Keeping.{keys-keep, sent-keeps, taken-keeps}
use Rattle.client_core.proofs.Places.{At}

-- the client of these parts
abbrev pub now : Signing → List Side → UserBook → ClientView
now signer sides book = client_view (record { signer = signer; sides = sides; book = book })

module _ (d : Digest) (signer : Signing) (sides : List Side) (book : UserBook) (wall i : ℕ) (s : Side)
    (at : At wall sides i s)
    (kept : Keeps d (now signer sides book)) (new : Side) where
  -- the side is the same, and so is the rest
  pub unmoved : (sg : Signing) (b : UserBook) → sg ≡ signer → side_view new ≡ side_view s → b ≡ book
      → now sg (slice_set sides i new) b ≡ now signer sides book
  unmoved sg b e f g = rw (e, at.same new f, g) refl

  put-so : (sg sg' : Signing) (b b' : UserBook) (t : SideView) → sg ≡ sg' → side_view new ≡ t → b ≡ b'
      → now sg (slice_set sides i new) b ≡ record {
        signer = sg';
        sides = with_side s.known.wall t
            (sides_view sides);
        book = b';
      }
  put-so sg sg' b b' t e f g = rw (e, at.put new, f, g) refl

  pub still : (sg : Signing) (b : UserBook) → sg ≡ signer → side_view new ≡ side_view s → b ≡ book
      → Keeps d (now sg (slice_set sides i new) b)
  still sg b e f g = subst (Keeps d) (sym (unmoved sg b e f g)) kept

  -- ---- a reply

  pub heard-so : (checked : Checked) (b : UserBook) → side_view new ≡ side_after (side_view s) (checked_view checked)
      → b ≡ book_after book (side_view s) checked
      → now signer (slice_set sides i new) b ≡ having_taken (now signer sides book) (side_view s) checked
  heard-so checked b e f = put-so signer signer b (book_after book (side_view s) checked) (side_after
      (side_view s) (checked_view checked)) refl e f

  pub heard-keeps : (checked : Checked) (b : UserBook) → IsSound d s.known checked → side_view new
      ≡ side_after (side_view s) (checked_view checked)
      → b ≡ book_after book (side_view s) checked → Keeps d (now signer (slice_set sides i new) b)
  heard-keeps checked b is e f = subst (Keeps d) (sym (heard-so checked b e f)) (taken-keeps d
      (now signer sides book) (side_view s) checked kept at.own is)

  pub makes : (checked : Checked) (b : UserBook) (news : News) → news ≡ news_of (checked_view checked)
      → side_view new ≡ side_after (side_view s) (checked_view checked) → b ≡ book_after book (side_view s) checked
      → Makes (now signer sides book) wall checked news (now signer (slice_set sides i new) b)
  makes checked b news n e f = record {
    side = side_view s;
    found = at.found;
    news_is = n;
    after_is = heard-so
        checked b e f;
  }

  -- ---- changes

  pub learns-so : (changes : List Op) → side_view new ≡ relearnt (side_view s) changes
      → now signer (slice_set sides i new) book ≡ record (now signer sides book) {
        sides = with_side s.known.wall
            (relearnt (side_view s) changes) (sides_view sides);
      }
  learns-so changes e = put-so signer signer book book (relearnt (side_view s) changes) refl e refl

  pub learns-keeps : (changes : List Op) → side_view new ≡ relearnt (side_view s) changes
      → Keeps d (now signer (slice_set sides i new) book)
  learns-keeps changes e = subst (Keeps d) (sym (learns-so changes e))
      (keys-keep d (now signer sides book) (side_view s) (relearnt (side_view s) changes).keys kept at.own
      (relearnt-keys (side_view s).keys changes))

  pub learns : (changes : List Op) → side_view new ≡ relearnt (side_view s) changes
      → Learns (now signer sides book) wall changes (now signer (slice_set sides i new) book)
  learns changes e = record { side = side_view s; found = at.found; after_is = learns-so changes e }

  -- ---- an operation

  abbrev op-of : Kind → Op
  op-of kind = signed_by signer (unsigned book.user (side_view s) kind)

  sent-so : (kind : Kind) (sg : Signing) (b : UserBook) → sg ≡ once_more signer → side_view new
      ≡ record (side_view s) { next = s.next + 1 }
      → b ≡ with_signed book (op-of kind)
      → now sg (slice_set sides i new) b ≡ having_sent (now signer sides book) (side_view s) (Some (op-of kind))
  sent-so kind sg b e f g = put-so sg (once_more signer) b (with_signed book (op-of kind)) (record
      (side_view s) { next = s.next + 1 }) e f g

  pub appends-keeps : (kind : Kind) (sg : Signing) (b : UserBook) → IsMadeOn book.user (side_view s) kind → sg
      ≡ once_more signer → side_view new ≡ record (side_view s) { next = s.next + 1 }
      → b ≡ with_signed book (op-of kind) → Keeps d (now sg (slice_set sides i new) b)
  unfolding signed_by
  appends-keeps kind sg b made e f g = subst (Keeps d) (sym (sent-so kind sg b e f g))
      (sent-keeps d (now signer sides book) (side_view s) kept at.own (op-of kind)
      (record { author = refl; wall = refl; seq = refl; view = refl; made = made }))

  own-signed : (kind : Kind) → IsValidNext signer (op_signed (unsigned book.user (side_view s) kind))
      → IsAuthorSigned s.known.users (op-of kind)
  unfolding signed_by
  own-signed kind valid = record {
    key = public_of signer.private signer.id signer.pair;
    listed = kept.own wall (side_view s) at.found ∙ ap Some kept.key;
    valid = subst (λ (m : Text). Valid (public_of signer.private signer.id signer.pair) m (op-of kind).sig)
        (sym (unsigned_by (unsigned book.user (side_view s) kind) (op-of kind).sig)) valid;
  }

  pub appends : (kind : Kind) (sg : Signing) (b : UserBook) (sent : Sent) → sent ≡ sent_of s.known.size (op-of kind)
      → IsValidNext signer (op_signed (unsigned book.user (side_view s) kind)) → sg ≡ once_more signer
      → side_view new ≡ record (side_view s) { next = s.next + 1 } → b ≡ with_signed book (op-of kind)
      → Appends (now signer sides book) wall kind sent (now sg (slice_set sides i new) b)
  unfolding sent_of
  appends kind sg b sent m valid e f g = record {
    side = side_view s;
    found = at.found;
    sent_is = m;
    signed = subst (λ (x : Sent). IfSome x.signed (IsAuthorSigned s.known.users)) (sym m) (own-signed kind valid);
    after_is = sent-so kind sg b e f g ∙ ap (having_sent (now signer sides book) (side_view s)) (sym (ap (λ
        (x : Sent). x.signed) m));
  }

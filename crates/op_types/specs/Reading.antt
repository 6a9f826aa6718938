-- Reading operations and leaves from the front of a byte list.
use Rattle.std.specs.Prelude.{ℕ, List, [], ◌∷◌, Some}
use Rattle.std.specs.Int.{w32, w64}
use Rattle.fr_bytes.specs.Bytes.{Text}
use Rattle.fr_bytes.specs.Reading.{◌>>=◌, Reader, piece_at, number_at, both_at, as_at}
use Rattle.fr_bytes.specs.Parts.{byte_within_at, byte_that_at, number_within_at, limited_at, tagged_at, one_of, optional_at, listed_at}
use Rattle.op_types.specs.declared.kind.Wrap.{Wrap}
use Rattle.op_types.specs.declared.kind.Kind.{Kind}
use Rattle.op_types.specs.declared.kind.Kind.TheVariants.{Post, Admit, Remove}
use Rattle.op_types.specs.declared.view.View.{View}
use Rattle.op_types.specs.declared.op.Op.{Op}
use Rattle.op_types.specs.declared.op.Leaf.{Leaf}
use Rattle.op_types.specs.declared.tags.TheConstants.{POST_TAG, ADMIT_TAG, REMOVE_TAG}
use Rattle.op_types.specs.declared.limits.TheConstants.{SEQ_MAX, VIEW_SIZE_MAX, BODY_BYTES_MAX, SIGNATURE_BYTES_MAX, SLOT_MAX, WRAPS_MAX, CHILD_MIN, CHILD_MAX}
use Rattle.op_types.specs.Roles.{may_be_given}
use Rattle.op_types.specs.Spelling.{Admission, Removal, no_root, is_signed}

unfoldable pub wrap_at : Reader Wrap
wrap_at bytes = do
  child ← number_within_at w32 CHILD_MIN CHILD_MAX bytes
  child_gen ← number_at w32 child.1
  body ← piece_at 32 child_gen.1
  Some (record { child = child.0; child_gen = child_gen.0; body = body.0 }, body.1)

unfoldable pub wraps_at : Reader (List Wrap)
wraps_at = listed_at (byte_within_at 0 WRAPS_MAX) wrap_at

-- ---- kinds

unfoldable pub post_at : Reader Kind
post_at = as_at Post (limited_at BODY_BYTES_MAX)

abbrev pub admission_at : Reader Admission
admission_at bytes = do
  user ← number_at w32 bytes
  role ← byte_that_at may_be_given user.1
  slot ← byte_within_at 0 SLOT_MAX role.1
  wraps ← wraps_at slot.1
  Some (record { user = user.0; role = role.0; slot = slot.0; wraps = wraps.0 }, wraps.1)

abbrev pub admitted : Admission → Kind
admitted a = Admit a.user a.role a.slot a.wraps

unfoldable pub admit_at : Reader Kind
admit_at = as_at admitted admission_at

abbrev pub removal_at : Reader Removal
removal_at bytes = do
  user ← number_at w32 bytes
  slot ← byte_within_at 0 SLOT_MAX user.1
  wraps ← wraps_at slot.1
  Some (record { user = user.0; slot = slot.0; wraps = wraps.0 }, wraps.1)

abbrev pub removed : Removal → Kind
removed r = Remove r.user r.slot r.wraps

unfoldable pub remove_at : Reader Kind
remove_at = as_at removed removal_at

-- the kinds, by their tags
abbrev pub kind_cases : List (ℕ × Reader Kind)
kind_cases = (POST_TAG, post_at) ∷ (ADMIT_TAG, admit_at) ∷ (REMOVE_TAG, remove_at) ∷ []

-- what follows a kind's tag
unfoldable pub kind_behind_at : ℕ → Reader Kind
kind_behind_at = one_of kind_cases

unfoldable pub kind_at : Reader Kind
kind_at = tagged_at kind_behind_at

-- ---- views

unfoldable pub signature_at : Reader Text
signature_at = limited_at SIGNATURE_BYTES_MAX

unfoldable pub signed_at : ℕ → Reader (Text × Text)
signed_at size = optional_at (is_signed size) (no_root, []) (both_at (piece_at 32) (λ root. signature_at))

unfoldable pub view_at : ℕ → Reader View
view_at wall bytes = do
  size ← number_within_at w64 0 VIEW_SIZE_MAX bytes
  signed ← signed_at size.0 size.1
  Some (record { wall = wall; size = size.0; root = signed.0.0; sig = signed.0.1 }, signed.1)

-- ---- operations and leaves

unfoldable pub op_at : Reader Op
op_at bytes = do
  wall ← number_at w32 bytes
  author ← number_at w32 wall.1
  seq ← number_within_at w32 0 SEQ_MAX author.1
  epoch ← number_at w64 seq.1
  view ← view_at wall.0 epoch.1
  kind ← kind_at view.1
  sig ← signature_at kind.1
  Some (record { wall = wall.0; author = author.0; seq = seq.0; epoch = epoch.0; view = view.0; kind = kind.0; sig = sig.0 }, sig.1)

unfoldable pub leaf_at : Reader Leaf
leaf_at bytes = do
  after ← piece_at 32 bytes
  epoch ← number_at w64 after.1
  op ← op_at epoch.1
  Some (record { after = after.0; epoch = epoch.0; op = op.0 }, op.1)

-- The one spelling of each operation and leaf, and the ranges of their parts. Numbers are big-endian.
use Rattle.std.specs.Prelude.{◌≡◌, ℕ, ◌<◌, ◌^◌, Bool, true, List, [], ◌∷◌, ◌++◌, length, replicate, nat_lt}
use Rattle.std.specs.List.{flat_map, AllByRecursion}
use Rattle.std.specs.Int.{w32, w64, to_be_bytes}
use Rattle.fr_bytes.specs.Bytes.{IsBytes, Text, counted}
use Rattle.fr_bytes.specs.Parts.{IsWithin, IsLimited, fit_optional, spelled_optional}
use Rattle.op_types.specs.declared.kind.Wrap.{Wrap}
use Rattle.op_types.specs.declared.kind.Kind.{Kind}
use Rattle.op_types.specs.declared.kind.Kind.TheVariants.{Post, Admit, Remove}
use Rattle.op_types.specs.declared.view.View.{View}
use Rattle.op_types.specs.declared.op.Op.{Op}
use Rattle.op_types.specs.declared.op.Leaf.{Leaf}
use Rattle.op_types.specs.declared.tags.TheConstants.{POST_TAG, ADMIT_TAG, REMOVE_TAG, VIEW_MESSAGE_TAG, OP_MESSAGE_TAG}
use Rattle.op_types.specs.declared.limits.TheConstants.{SEQ_MAX, VIEW_SIZE_MAX, BODY_BYTES_MAX, SIGNATURE_BYTES_MAX, SLOT_MAX, WRAPS_MAX, CHILD_MIN, CHILD_MAX}
use Rattle.op_types.specs.Roles.{may_be_given}

-- ---- bytes

-- 32 bytes
abbrev pub IsDig : Text → Type 0
IsDig x = (length x ≡ 32) × IsBytes x

-- ---- wraps

pub record IsWrap (w : Wrap) : Type 0 where
  pub child : IsWithin CHILD_MIN CHILD_MAX w.child
  pub child_gen : w.child_gen < 2 ^ 32
  pub body : IsDig w.body

abbrev pub wrap_text : Wrap → Text
wrap_text w = to_be_bytes w32 w.child ++ (to_be_bytes w32 w.child_gen ++ w.body)

abbrev pub AreWraps : List Wrap → Type 0
AreWraps ws = IsWithin 0 WRAPS_MAX (length ws) × AllByRecursion IsWrap ws

-- a byte that counts them, and the wraps
abbrev pub wraps_text : List Wrap → Text
wraps_text ws = length ws ∷ flat_map wrap_text ws

-- ---- kinds

-- what an admission has behind its tag
pub record Admission : Type 0 where
  pub user : ℕ
  pub role : ℕ
  pub slot : ℕ
  pub wraps : List Wrap

pub record IsAdmission (a : Admission) : Type 0 where
  pub user : a.user < 2 ^ 32
  pub role : (a.role < 256) × (may_be_given a.role ≡ true)
  pub slot : IsWithin 0 SLOT_MAX a.slot
  pub wraps : AreWraps a.wraps

abbrev pub admission_text : Admission → Text
admission_text a = to_be_bytes w32 a.user ++ (a.role ∷ (a.slot ∷ wraps_text a.wraps))

-- what a removal has behind its tag
pub record Removal : Type 0 where
  pub user : ℕ
  pub slot : ℕ
  pub wraps : List Wrap

pub record IsRemoval (r : Removal) : Type 0 where
  pub user : r.user < 2 ^ 32
  pub slot : IsWithin 0 SLOT_MAX r.slot
  pub wraps : AreWraps r.wraps

abbrev pub removal_text : Removal → Text
removal_text r = to_be_bytes w32 r.user ++ (r.slot ∷ wraps_text r.wraps)

abbrev pub IsKind : Kind → Type 0
IsKind (Post body) = IsLimited BODY_BYTES_MAX body
IsKind (Admit user role slot wraps) = IsAdmission (record { user = user; role = role; slot = slot; wraps = wraps })
IsKind (Remove user slot wraps) = IsRemoval (record { user = user; slot = slot; wraps = wraps })

-- a kind's tag is its first byte
abbrev pub kind_tag : Kind → ℕ
kind_tag (Post body) = POST_TAG
kind_tag (Admit user role slot wraps) = ADMIT_TAG
kind_tag (Remove user slot wraps) = REMOVE_TAG

abbrev pub kind_rest : Kind → Text
kind_rest (Post body) = counted body
kind_rest (Admit user role slot wraps) = admission_text (record { user = user; role = role; slot = slot; wraps = wraps })
kind_rest (Remove user slot wraps) = removal_text (record { user = user; slot = slot; wraps = wraps })

abbrev pub kind_text : Kind → Text
kind_text kind = kind_tag kind ∷ kind_rest kind

-- ---- views

-- the root of a view of nothing
unfoldable pub no_root : Text
no_root = replicate 32 0

abbrev pub is_signed : ℕ → Bool
is_signed size = nat_lt 0 size

-- root and signature
abbrev pub IsSigned : Text × Text → Type 0
IsSigned p = IsDig p.0 × IsLimited SIGNATURE_BYTES_MAX p.1

abbrev pub signed_text : Text × Text → Text
signed_text p = p.0 ++ counted p.1

-- a view in an operation on this wall, which stands for the view's
pub record IsView (on : ℕ) (v : View) : Type 0 where
  pub wall : v.wall ≡ on
  pub size : IsWithin 0 VIEW_SIZE_MAX v.size
  pub signed : fit_optional (is_signed v.size) (no_root, []) IsSigned (v.root, v.sig)

abbrev pub view_text : View → Text
view_text v = to_be_bytes w64 v.size ++ spelled_optional (is_signed v.size) signed_text (v.root, v.sig)

-- ---- operations and leaves

pub record IsOp (op : Op) : Type 0 where
  pub wall : op.wall < 2 ^ 32
  pub author : op.author < 2 ^ 32
  pub seq : IsWithin 0 SEQ_MAX op.seq
  pub epoch : op.epoch < 2 ^ 64
  pub view : IsView op.wall op.view
  pub kind : IsKind op.kind
  pub sig : IsLimited SIGNATURE_BYTES_MAX op.sig

-- an operation up to its signature
unfoldable pub unsigned_text : Op → Text
unsigned_text op =
    to_be_bytes w32 op.wall ++ (to_be_bytes w32 op.author ++ (to_be_bytes w32 op.seq ++ (to_be_bytes w64 op.epoch
    ++ (view_text op.view ++ kind_text op.kind))))

unfoldable pub op_text : Op → Text
op_text op = unsigned_text op ++ counted op.sig

pub record IsLeaf (leaf : Leaf) : Type 0 where
  pub after : IsDig leaf.after
  pub epoch : leaf.epoch < 2 ^ 64
  pub op : IsOp leaf.op

unfoldable pub leaf_text : Leaf → Text
leaf_text leaf = leaf.after ++ (to_be_bytes w64 leaf.epoch ++ op_text leaf.op)

-- ---- what is spelled

-- the bytes spell the operation
pub record SpellsOp (op : Op) (bytes : Text) : Type 0 where
  pub is_op : IsOp op
  pub text : bytes ≡ op_text op

-- the bytes spell the leaf
pub record SpellsLeaf (leaf : Leaf) (bytes : Text) : Type 0 where
  pub is_leaf : IsLeaf leaf
  pub text : bytes ≡ leaf_text leaf

-- ---- what is signed

-- what an author signs
unfoldable pub op_signed : Op → Text
op_signed op = OP_MESSAGE_TAG ∷ unsigned_text op

-- what a server signs
unfoldable pub view_signed : ℕ → ℕ → Text → Text
view_signed wall size root = VIEW_MESSAGE_TAG ∷ (to_be_bytes w32 wall ++ (to_be_bytes w64 size ++ root))

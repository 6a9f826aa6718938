-- The formats of operations and of what they are composed of, each as one value.
use Rattle.std.specs.Prelude.{ℕ, List, []}
use Rattle.fr_bytes.specs.Bytes.{Text, counted}
use Rattle.fr_bytes.specs.Format.{Format, format}
use Rattle.fr_bytes.specs.Parts.{IsLimited, fit_optional, spelled_optional}
use Rattle.op_types.specs.declared.kind.Wrap.{Wrap}
use Rattle.op_types.specs.declared.kind.Kind.{Kind}
use Rattle.op_types.specs.declared.view.View.{View}
use Rattle.op_types.specs.declared.op.Op.{Op}
use Rattle.op_types.specs.declared.op.Leaf.{Leaf}
use Rattle.op_types.specs.declared.limits.TheConstants.{SIGNATURE_BYTES_MAX}
use Rattle.op_types.specs.Spelling.{IsWrap, wrap_text, AreWraps, wraps_text, Admission, IsAdmission, admission_text, Removal, IsRemoval, removal_text, IsKind, kind_text, no_root, is_signed, IsSigned, signed_text, IsView, view_text, IsOp, op_text, IsLeaf, leaf_text}
use Rattle.op_types.specs.Reading.{wrap_at, wraps_at, admission_at, removal_at, kind_at, signature_at, signed_at, view_at, op_at, leaf_at}

abbrev pub wrap_format : Format Wrap
wrap_format = format IsWrap wrap_text wrap_at

abbrev pub wraps_format : Format (List Wrap)
wraps_format = format AreWraps wraps_text wraps_at

abbrev pub admission_format : Format Admission
admission_format = format IsAdmission admission_text admission_at

abbrev pub removal_format : Format Removal
removal_format = format IsRemoval removal_text removal_at

abbrev pub kind_format : Format Kind
kind_format = format IsKind kind_text kind_at

abbrev pub signature_format : Format Text
signature_format = format (IsLimited SIGNATURE_BYTES_MAX) counted signature_at

-- the root and the signature of a view of this size
abbrev pub signed_format : ℕ → Format (Text × Text)
signed_format size =
    format (fit_optional (is_signed size) (no_root, []) IsSigned) (spelled_optional (is_signed size) signed_text) (signed_at size)

-- a view in an operation on this wall
abbrev pub view_format : ℕ → Format View
view_format wall = format (IsView wall) view_text (view_at wall)

abbrev pub op_format : Format Op
op_format = format IsOp op_text op_at

abbrev pub leaf_format : Format Leaf
leaf_format = format IsLeaf leaf_text leaf_at

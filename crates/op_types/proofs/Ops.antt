-- Reading and spelling of operations and leaves agree, part by part.
use Rattle.std.proofs.Common.{◌≡◌, ℕ, ◌^◌, ◌<◌, List, [], ◌∷◌, ◌++◌, Some, refl, sym, ap, subst, map, inl, inr, ◌∙◌, append_assoc, arith}
use Rattle.std.specs.List.{AllByRecursion}
use Rattle.std.specs.Int.{w32, w64, to_be_bytes}
use Rattle.fr_bytes.specs.Bytes.{IsBytes, Text, counted}
use Rattle.fr_bytes.specs.Reading.{◌>>=◌, as_at, all_of}
use Rattle.fr_bytes.specs.Format.{format, IsExact}
use Rattle.fr_bytes.specs.Parts.{IsWithin, IsLimited, number, piece, byte_within, byte_that, number_within, limited, HasTag, spelled_optional}
use Rattle.fr_bytes.proofs.Formats.{exact_u32, exact_u64, exact_piece, exact_both, exact_as, some_is, all_found, all_again}
use Rattle.fr_bytes.proofs.Parts.{exact_field, exact_told, exact_byte_within, exact_byte_that, exact_number_within, exact_limited, exact_tagged, exact_optional, exact_listed}
use Rattle.op_types.specs.declared.kind.Wrap.{Wrap}
use Rattle.op_types.specs.declared.kind.Kind.{Kind}
use Rattle.op_types.specs.declared.kind.Kind.TheVariants.{Post, Admit, Remove}
use Rattle.op_types.specs.declared.view.View.{View}
use Rattle.op_types.specs.declared.op.Op.{Op}
use Rattle.op_types.specs.declared.op.Leaf.{Leaf}
use Rattle.op_types.specs.declared.tags.TheConstants.{POST_TAG, ADMIT_TAG, REMOVE_TAG}
use Rattle.op_types.specs.declared.limits.TheConstants.{SEQ_MAX, VIEW_SIZE_MAX, BODY_BYTES_MAX, SIGNATURE_BYTES_MAX, SLOT_MAX, WRAPS_MAX, CHILD_MIN, CHILD_MAX}
use Rattle.op_types.specs.Roles.{may_be_given}
use Rattle.op_types.specs.Spelling.{IsWrap, AreWraps, wraps_text, Admission, IsAdmission, Removal, IsRemoval, IsKind, kind_tag, kind_rest, kind_text, no_root, is_signed, IsSigned, signed_text, IsView, view_text, IsOp, unsigned_text, op_text, IsLeaf, leaf_text, SpellsOp, SpellsLeaf}
use Rattle.op_types.specs.Reading.{wrap_at, wraps_at, post_at, admitted, admit_at, removed, remove_at, kind_cases, kind_behind_at, kind_at, signature_at, signed_at, view_at, op_at, leaf_at}
use Rattle.op_types.specs.Formats.{wrap_format, wraps_format, admission_format, removal_format, kind_format, signature_format, signed_format, view_format, op_format, leaf_format}

exact_signature : IsExact signature_format
unfolding signature_at
exact_signature = exact_limited SIGNATURE_BYTES_MAX (omega arith)

-- ---- wraps

exact_wrap : IsExact wrap_format
unfolding wrap_at
exact_wrap =
    exact_field (number_within w32 CHILD_MIN CHILD_MAX) IsWrap (λ w. w.child) (λ w. to_be_bytes w32 w.child_gen ++ w.body) _
    (exact_number_within w32 exact_u32 CHILD_MIN CHILD_MAX (omega arith)) (λ w h. h.child) (λ child h1.
    exact_field (number w32) (λ w. IsWrap w × (w.child ≡ child)) (λ w. w.child_gen) (λ w. w.body) _ exact_u32 (λ w h. h.0.child_gen) (λ child_gen h2.
    exact_as (piece 32) (λ w. (IsWrap w × (w.child ≡ child)) × (w.child_gen ≡ child_gen)) (λ w. w.body)
    (λ body. record { child = child; child_gen = child_gen; body = body }) (exact_piece 32)
    (λ body h. (((record { child = h1; child_gen = h2; body = h }, refl), refl), refl))
    (λ w h. (w.body, h.0.0.body, rw (sym h.0.1, sym h.1) refl))))

exact_wraps : IsExact wraps_format
unfolding wraps_at
exact_wraps = exact_listed (byte_within 0 WRAPS_MAX) wrap_format (exact_byte_within 0 WRAPS_MAX (omega arith)) exact_wrap

-- ---- kinds

-- values of a kind with one tag
abbrev IsTagged : ℕ → Kind → Type 0
IsTagged tag k = IsKind k × (kind_tag k ≡ tag)

-- Each kind is told apart from the others once, here: what has its tag is of its form.
post_from : (k : Kind) → IsTagged POST_TAG k → (body : Text) × IsLimited BODY_BYTES_MAX body × (Post body ≡ k)
post_from (Post body) h = (body, h.0, refl)
post_from _ h = absurd (omega arith)

admit_from : (k : Kind) → IsTagged ADMIT_TAG k → (a : Admission) × IsAdmission a × (admitted a ≡ k)
admit_from (Admit user role slot wraps) h = (record { user = user; role = role; slot = slot; wraps = wraps }, h.0, refl)
admit_from _ h = absurd (omega arith)

remove_from : (k : Kind) → IsTagged REMOVE_TAG k → (r : Removal) × IsRemoval r × (removed r ≡ k)
remove_from (Remove user slot wraps) h = (record { user = user; slot = slot; wraps = wraps }, h.0, refl)
remove_from _ h = absurd (omega arith)

has_case : (k : Kind) → HasTag kind_cases (kind_tag k)
has_case (Post body) = inl refl
has_case (Admit user role slot wraps) = inr (inl refl)
has_case (Remove user slot wraps) = inr (inr (inl refl))

tag_below : (k : Kind) → kind_tag k < 256
tag_below (Post body) = omega arith
tag_below (Admit user role slot wraps) = omega arith
tag_below (Remove user slot wraps) = omega arith

exact_post : IsExact (format (IsTagged POST_TAG) kind_rest post_at)
unfolding post_at
exact_post = exact_as (limited BODY_BYTES_MAX) (IsTagged POST_TAG) kind_rest Post (exact_limited BODY_BYTES_MAX (omega arith)) (λ body h. ((h, refl), refl)) post_from

exact_admission : IsExact admission_format
exact_admission =
    exact_field (number w32) IsAdmission (λ a. a.user) (λ a. a.role ∷ (a.slot ∷ wraps_text a.wraps)) _ exact_u32 (λ a h. h.user) (λ user h1.
    exact_field (byte_that may_be_given) (λ a. IsAdmission a × (a.user ≡ user)) (λ a. a.role) (λ a. a.slot ∷ wraps_text a.wraps) _
    (exact_byte_that may_be_given) (λ a h. h.0.role) (λ role h2.
    exact_field (byte_within 0 SLOT_MAX) (λ a. (IsAdmission a × (a.user ≡ user)) × (a.role ≡ role)) (λ a. a.slot) (λ a. wraps_text a.wraps) _
    (exact_byte_within 0 SLOT_MAX (omega arith)) (λ a h. h.0.0.slot) (λ slot h3.
    exact_as wraps_format (λ a. ((IsAdmission a × (a.user ≡ user)) × (a.role ≡ role)) × (a.slot ≡ slot)) (λ a. wraps_text a.wraps)
    (λ wraps. record { user = user; role = role; slot = slot; wraps = wraps }) exact_wraps
    (λ wraps h. ((((record { user = h1; role = h2; slot = h3; wraps = h }, refl), refl), refl), refl))
    (λ a h. (a.wraps, h.0.0.0.wraps, rw (sym h.0.0.1, sym h.0.1, sym h.1) refl)))))

exact_admit : IsExact (format (IsTagged ADMIT_TAG) kind_rest admit_at)
unfolding admit_at
exact_admit = exact_as admission_format (IsTagged ADMIT_TAG) kind_rest admitted exact_admission (λ a h. ((h, refl), refl)) admit_from

exact_removal : IsExact removal_format
exact_removal =
    exact_field (number w32) IsRemoval (λ r. r.user) (λ r. r.slot ∷ wraps_text r.wraps) _ exact_u32 (λ r h. h.user) (λ user h1.
    exact_field (byte_within 0 SLOT_MAX) (λ r. IsRemoval r × (r.user ≡ user)) (λ r. r.slot) (λ r. wraps_text r.wraps) _
    (exact_byte_within 0 SLOT_MAX (omega arith)) (λ r h. h.0.slot) (λ slot h2.
    exact_as wraps_format (λ r. (IsRemoval r × (r.user ≡ user)) × (r.slot ≡ slot)) (λ r. wraps_text r.wraps)
    (λ wraps. record { user = user; slot = slot; wraps = wraps }) exact_wraps
    (λ wraps h. (((record { user = h1; slot = h2; wraps = h }, refl), refl), refl))
    (λ r h. (r.wraps, h.0.0.wraps, rw (sym h.0.1, sym h.1) refl))))

exact_remove : IsExact (format (IsTagged REMOVE_TAG) kind_rest remove_at)
unfolding remove_at
exact_remove = exact_as removal_format (IsTagged REMOVE_TAG) kind_rest removed exact_removal (λ r h. ((h, refl), refl)) remove_from

exact_kind : IsExact kind_format
unfolding kind_at kind_behind_at
exact_kind = exact_tagged IsKind kind_tag kind_rest kind_cases tag_below (exact_post, (exact_admit, (exact_remove, tt))) has_case

-- ---- views

exact_signed : (size : ℕ) → IsExact (signed_format size)
unfolding signed_at
exact_signed size =
    exact_optional (is_signed size) (no_root, []) (format IsSigned signed_text _) (exact_both (piece 32) (λ root. signature_format) (exact_piece 32) (λ root h. exact_signature))

abbrev view_rest : View → Text
view_rest v = spelled_optional (is_signed v.size) signed_text (v.root, v.sig)

pub exact_view : (wall : ℕ) → IsExact (view_format wall)
unfolding view_at
exact_view wall =
    exact_field (number_within w64 0 VIEW_SIZE_MAX) (IsView wall) (λ v. v.size) view_rest _
    (exact_number_within w64 exact_u64 0 VIEW_SIZE_MAX (omega arith)) (λ v h. h.size) (λ size within.
    exact_told (format (λ v. IsView wall v × (v.size ≡ size)) (λ v. (signed_format size).text (v.root, v.sig)) _) (λ v. IsView wall v × (v.size ≡ size)) view_rest
    (exact_as (signed_format size) (λ v. IsView wall v × (v.size ≡ size)) (λ v. (signed_format size).text (v.root, v.sig))
    (λ p. record { wall = wall; size = size; root = p.0; sig = p.1 }) (exact_signed size)
    (λ p h. ((record { wall = refl; size = within; signed = h }, refl), refl))
    (λ v h. ((v.root, v.sig), rw (sym h.1) h.0.signed, rw (sym h.1, sym h.0.wall) refl)))
    (λ v h. (h, rw h.1 refl)) (λ v h. h))

-- ---- operations

-- an operation with each part in the order of its bytes
abbrev parts_text : Op → Text
parts_text op =
    to_be_bytes w32 op.wall ++ (to_be_bytes w32 op.author ++ (to_be_bytes w32 op.seq ++ (to_be_bytes w64 op.epoch
    ++ (view_text op.view ++ (kind_text op.kind ++ counted op.sig)))))

text_of_parts : (op : Op) → parts_text op ≡ op_text op
unfolding op_text unsigned_text
text_of_parts op = simp append_assoc

-- the operations whose first parts are these
abbrev With1 : ℕ → Op → Type 0
With1 wall op = IsOp op × (op.wall ≡ wall)

abbrev With2 : ℕ → ℕ → Op → Type 0
With2 wall author op = With1 wall op × (op.author ≡ author)

abbrev With3 : ℕ → ℕ → ℕ → Op → Type 0
With3 wall author seq op = With2 wall author op × (op.seq ≡ seq)

abbrev With4 : ℕ → ℕ → ℕ → ℕ → Op → Type 0
With4 wall author seq epoch op = With3 wall author seq op × (op.epoch ≡ epoch)

abbrev With5 : ℕ → ℕ → ℕ → ℕ → View → Op → Type 0
With5 wall author seq epoch view op = With4 wall author seq epoch op × (op.view ≡ view)

abbrev With6 : ℕ → ℕ → ℕ → ℕ → View → Kind → Op → Type 0
With6 wall author seq epoch view kind op = With5 wall author seq epoch view op × (op.kind ≡ kind)

exact_signature_of : (wall author seq epoch : ℕ) (view : View) (kind : Kind) → wall < 2 ^ 32 → author < 2 ^ 32 → IsWithin 0 SEQ_MAX seq → epoch < 2 ^ 64 → IsView wall view → IsKind kind
    → IsExact (format (With6 wall author seq epoch view kind) (λ op. counted op.sig)
    (as_at (λ sig. record { wall = wall; author = author; seq = seq; epoch = epoch; view = view; kind = kind; sig = sig }) signature_at))
exact_signature_of wall author seq epoch view kind h1 h2 h3 h4 h5 h6 =
    exact_as signature_format (With6 wall author seq epoch view kind) (λ op. counted op.sig)
    (λ sig. record { wall = wall; author = author; seq = seq; epoch = epoch; view = view; kind = kind; sig = sig }) exact_signature
    (λ sig h. ((((((((record { wall = h1; author = h2; seq = h3; epoch = h4; view = h5; kind = h6; sig = h }, refl), refl), refl), refl), refl), refl)), refl))
    (λ op h. (op.sig, h.0.0.0.0.0.0.sig, rw (sym h.0.0.0.0.0.1, sym h.0.0.0.0.1, sym h.0.0.0.1, sym h.0.0.1, sym h.0.1, sym h.1) refl))

pub exact_op : IsExact op_format
unfolding op_at
exact_op =
    let author_on : Op → Text = λ op. to_be_bytes w32 op.author ++ (to_be_bytes w32 op.seq ++ (to_be_bytes w64 op.epoch ++ (view_text op.view ++ (kind_text op.kind ++ counted op.sig)))) in
    exact_told (format IsOp parts_text op_at) IsOp op_text
    (exact_field (number w32) IsOp (λ op. op.wall) author_on _ exact_u32 (λ op h. h.wall) (λ wall h1.
    exact_field (number w32) (With1 wall) (λ op. op.author) (λ op. to_be_bytes w32 op.seq ++ (to_be_bytes w64 op.epoch ++ (view_text op.view ++ (kind_text op.kind ++ counted op.sig)))) _ exact_u32 (λ op h. h.0.author) (λ author h2.
    exact_field (number_within w32 0 SEQ_MAX) (With2 wall author) (λ op. op.seq) (λ op. to_be_bytes w64 op.epoch ++ (view_text op.view ++ (kind_text op.kind ++ counted op.sig))) _
    (exact_number_within w32 exact_u32 0 SEQ_MAX (omega arith)) (λ op h. h.0.0.seq) (λ seq h3.
    exact_field (number w64) (With3 wall author seq) (λ op. op.epoch) (λ op. view_text op.view ++ (kind_text op.kind ++ counted op.sig)) _ exact_u64 (λ op h. h.0.0.0.epoch) (λ epoch h4.
    exact_field (view_format wall) (With4 wall author seq epoch) (λ op. op.view) (λ op. kind_text op.kind ++ counted op.sig) _ (exact_view wall) (λ op h. subst (λ w. IsView w op.view) h.0.0.0.1 h.0.0.0.0.view) (λ view h5.
    exact_field kind_format (With5 wall author seq epoch view) (λ op. op.kind) (λ op. counted op.sig) _ exact_kind (λ op h. h.0.0.0.0.0.kind) (λ kind h6.
    exact_signature_of wall author seq epoch view kind h1 h2 h3 h4 h5 h6)))))))
    (λ op h. (h, text_of_parts op)) (λ op h. h)

-- ---- leaves

pub exact_leaf : IsExact leaf_format
unfolding leaf_at leaf_text
exact_leaf =
    exact_field (piece 32) IsLeaf (λ leaf. leaf.after) (λ leaf. to_be_bytes w64 leaf.epoch ++ op_text leaf.op) _ (exact_piece 32) (λ leaf h. h.after) (λ after h1.
    exact_field (number w64) (λ leaf. IsLeaf leaf × (leaf.after ≡ after)) (λ leaf. leaf.epoch) (λ leaf. op_text leaf.op) _ exact_u64 (λ leaf h. h.0.epoch) (λ epoch h2.
    exact_as op_format (λ leaf. (IsLeaf leaf × (leaf.after ≡ after)) × (leaf.epoch ≡ epoch)) (λ leaf. op_text leaf.op)
    (λ op. record { after = after; epoch = epoch; op = op }) exact_op
    (λ op h. (((record { after = h1; epoch = h2; op = h }, refl), refl), refl))
    (λ leaf h. (leaf.op, h.0.0.op, rw (sym h.0.1, sym h.1) refl))))

-- ---- what readers of all of the bytes owe

pub op_found : (bytes : Text) (op : Op) → IsBytes bytes → all_of op_at bytes ≡ Some op → SpellsOp op bytes
op_found bytes op h e = let it = all_found op_format exact_op bytes op h e in record { is_op = it.0; text = it.1 }

pub op_again : (bytes : Text) (op : Op) → SpellsOp op bytes → all_of op_at bytes ≡ Some op
op_again bytes op h = ap (all_of op_at) h.text ∙ all_again op_format exact_op op h.is_op

pub leaf_found : (bytes : Text) (leaf : Leaf) → IsBytes bytes → all_of leaf_at bytes ≡ Some leaf → SpellsLeaf leaf bytes
leaf_found bytes leaf h e = let it = all_found leaf_format exact_leaf bytes leaf h e in record { is_leaf = it.0; text = it.1 }

pub leaf_again : (bytes : Text) (leaf : Leaf) → SpellsLeaf leaf bytes → all_of leaf_at bytes ≡ Some leaf
leaf_again bytes leaf h = ap (all_of leaf_at) h.text ∙ all_again leaf_format exact_leaf leaf h.is_leaf

-- ---- one value for each spelling, one spelling for each value

pub op_text-one : (x y : Op) (bytes : Text) → SpellsOp x bytes → SpellsOp y bytes → x ≡ y
op_text-one x y bytes hx hy = some_is x y (sym (op_again bytes x hx) ∙ op_again bytes y hy)

pub leaf_text-one : (x y : Leaf) (bytes : Text) → SpellsLeaf x bytes → SpellsLeaf y bytes → x ≡ y
leaf_text-one x y bytes hx hy = some_is x y (sym (leaf_again bytes x hx) ∙ leaf_again bytes y hy)

-- lists of leaves with one list of texts are one
pub leaf_texts-one : (xs ys : List Leaf) → AllByRecursion IsLeaf xs → AllByRecursion IsLeaf ys → map leaf_text xs ≡ map leaf_text ys → xs ≡ ys
leaf_texts-one [] [] hx hy e = refl
leaf_texts-one [] (y ∷ ys) hx hy e = absurd cc
leaf_texts-one (x ∷ xs) [] hx hy e = absurd cc
leaf_texts-one (x ∷ xs) (y ∷ ys) hx hy e =
    let first : leaf_text x ≡ leaf_text y = cc in
    let others : map leaf_text xs ≡ map leaf_text ys = cc in
    let same_first = leaf_text-one x y (leaf_text x) (record { is_leaf = hx.0; text = refl }) (record { is_leaf = hy.0; text = first }) in
    let same_others = leaf_texts-one xs ys hx.1 hy.1 others in
    cc

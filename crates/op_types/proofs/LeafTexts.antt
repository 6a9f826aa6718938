-- The texts of operations and leaves are bytes, and how many there are at most.
use Rattle.std.proofs.Common.{◌≡◌, ◌∙◌, ℕ, ◌+◌, ◌*◌, ◌^◌, ◌<◌, List, [], ◌∷◌, ◌++◌, length, drop, map, sym, ap, arith}
use Rattle.std.proofs.lemmas.List.{drop_at, drop-drop, length-drop, nil_from_length}
use Rattle.std.specs.List.{flat_map, AllByRecursion}
use Rattle.std.specs.Int.{w32, w64, to_be_bytes}
use Rattle.fr_bytes.specs.Bytes.{counted}
use Rattle.fr_bytes.specs.Parts.{IsLimited, spelled_optional}
use Rattle.fr_bytes.proofs.Limits.{limited_none, limited_one, limited_joined, limited_wider, limited_number32, limited_number64, limited_counted, limited_optional}
use Rattle.op_types.specs.declared.kind.Wrap.{Wrap}
use Rattle.op_types.specs.declared.kind.Kind.{Kind}
use Rattle.op_types.specs.declared.kind.Kind.TheVariants.{Post, Admit, Remove}
use Rattle.op_types.specs.declared.view.View.{View}
use Rattle.op_types.specs.declared.op.Op.{Op}
use Rattle.op_types.specs.declared.op.Leaf.{Leaf}
use Rattle.op_types.specs.declared.tags.TheConstants.{POST_TAG, ADMIT_TAG, REMOVE_TAG}
use Rattle.op_types.specs.Spelling.{IsDig, IsWrap, wrap_text, AreWraps, wraps_text, Admission, IsAdmission, admission_text, Removal, IsRemoval, removal_text, IsKind, kind_text, no_root, is_signed, IsSigned, signed_text, IsView, view_text, IsOp, unsigned_text, op_text, IsLeaf, leaf_text, SpellsLeaf}

digest_limited : (x : List ℕ) → IsDig x → IsLimited 32 x
digest_limited x h = (omega (arith, h.0), h.1)

wrap_limited : (w : Wrap) → IsWrap w → IsLimited 40 (wrap_text w)
wrap_limited w h = limited_joined 4 36 (to_be_bytes w32 w.child) (to_be_bytes w32 w.child_gen ++ w.body) (limited_number32 w.child)
    (limited_joined 4 32 (to_be_bytes w32 w.child_gen) w.body (limited_number32 w.child_gen) (digest_limited w.body h.body))

wrap_texts_limited : (ws : List Wrap) → AllByRecursion IsWrap ws → IsLimited (40 * length ws) (flat_map wrap_text ws)
wrap_texts_limited [] h = limited_none 0
wrap_texts_limited (w ∷ ws) h =
    limited_wider (40 + 40 * length ws) (40 * length (w ∷ ws)) (flat_map wrap_text (w ∷ ws)) (omega arith)
    (limited_joined 40 (40 * length ws) (wrap_text w) (flat_map wrap_text ws) (wrap_limited w h.0) (wrap_texts_limited ws h.1))

wraps_limited : (ws : List Wrap) → AreWraps ws → IsLimited 481 (wraps_text ws)
wraps_limited ws h = limited_one 480 (length ws) (flat_map wrap_text ws) (omega (arith, h.0.1))
    (limited_wider (40 * length ws) 480 (flat_map wrap_text ws) (omega (arith, h.0.1)) (wrap_texts_limited ws h.1))

admission_limited : (a : Admission) → IsAdmission a → IsLimited 487 (admission_text a)
admission_limited a h =
    limited_joined 4 483 (to_be_bytes w32 a.user) (a.role ∷ (a.slot ∷ wraps_text a.wraps)) (limited_number32 a.user)
    (limited_one 482 a.role (a.slot ∷ wraps_text a.wraps) h.role.0
    (limited_one 481 a.slot (wraps_text a.wraps) (omega (arith, h.slot.1)) (wraps_limited a.wraps h.wraps)))

removal_limited : (r : Removal) → IsRemoval r → IsLimited 486 (removal_text r)
removal_limited r h =
    limited_joined 4 482 (to_be_bytes w32 r.user) (r.slot ∷ wraps_text r.wraps) (limited_number32 r.user)
    (limited_one 481 r.slot (wraps_text r.wraps) (omega (arith, h.slot.1)) (wraps_limited r.wraps h.wraps))

-- a post is the longest
kind_limited : (kind : Kind) → IsKind kind → IsLimited 1029 (kind_text kind)
kind_limited (Post body) h = limited_one 1028 POST_TAG (counted body) (omega arith) (limited_counted 1024 body h)
kind_limited (Admit user role slot wraps) h =
    let a : Admission = record { user = user; role = role; slot = slot; wraps = wraps } in
    limited_wider 488 1029 (ADMIT_TAG ∷ admission_text a) (omega arith) (limited_one 487 ADMIT_TAG (admission_text a) (omega arith) (admission_limited a h))
kind_limited (Remove user slot wraps) h =
    let r : Removal = record { user = user; slot = slot; wraps = wraps } in
    limited_wider 487 1029 (REMOVE_TAG ∷ removal_text r) (omega arith) (limited_one 486 REMOVE_TAG (removal_text r) (omega arith) (removal_limited r h))

signed_limited : (p : List ℕ × List ℕ) → IsSigned p → IsLimited 9360 (signed_text p)
signed_limited p h = limited_joined 32 9328 p.0 (counted p.1) (digest_limited p.0 h.0) (limited_counted 9324 p.1 h.1)

view_limited : (on : ℕ) (v : View) → IsView on v → IsLimited 9368 (view_text v)
view_limited on v h = limited_joined 8 9360 (to_be_bytes w64 v.size) (spelled_optional (is_signed v.size) signed_text (v.root, v.sig)) (limited_number64 v.size)
    (limited_optional 9360 (is_signed v.size) (no_root, []) IsSigned signed_text signed_limited (v.root, v.sig) h.signed)

unsigned_limited : (op : Op) → IsOp op → IsLimited 10417 (unsigned_text op)
unfolding unsigned_text
unsigned_limited op h =
    let last = view_text op.view ++ kind_text op.kind in
    limited_joined 4 10413 (to_be_bytes w32 op.wall) (to_be_bytes w32 op.author ++ (to_be_bytes w32 op.seq ++ (to_be_bytes w64 op.epoch ++ last))) (limited_number32 op.wall)
    (limited_joined 4 10409 (to_be_bytes w32 op.author) (to_be_bytes w32 op.seq ++ (to_be_bytes w64 op.epoch ++ last)) (limited_number32 op.author)
    (limited_joined 4 10405 (to_be_bytes w32 op.seq) (to_be_bytes w64 op.epoch ++ last) (limited_number32 op.seq)
    (limited_joined 8 10397 (to_be_bytes w64 op.epoch) last (limited_number64 op.epoch)
    (limited_joined 9368 1029 (view_text op.view) (kind_text op.kind) (view_limited op.wall op.view h.view) (kind_limited op.kind h.kind)))))

op_limited : (op : Op) → IsOp op → IsLimited 19745 (op_text op)
unfolding op_text
op_limited op h = limited_joined 10417 9328 (unsigned_text op) (counted op.sig) (unsigned_limited op h) (limited_counted 9324 op.sig h.sig)

-- a leaf's text has at most 19,785 bytes
pub leaf_limited : (leaf : Leaf) → IsLeaf leaf → IsLimited 19785 (leaf_text leaf)
unfolding leaf_text
leaf_limited leaf h = limited_joined 32 19753 leaf.after (to_be_bytes w64 leaf.epoch ++ op_text leaf.op) (digest_limited leaf.after h.after) (limited_joined 8 19745 (to_be_bytes w64 leaf.epoch) (op_text leaf.op) (limited_number64 leaf.epoch) (op_limited leaf.op h.op))

-- so its length is spelled in four bytes
pub leaf_text-short : (leaf : Leaf) → IsLeaf leaf → length (leaf_text leaf) < 2 ^ 32
leaf_text-short leaf h = omega (arith, (leaf_limited leaf h).0)

pub leaf_texts-short : (leaves : List Leaf) → AllByRecursion IsLeaf leaves → AllByRecursion (λ (text : List ℕ). length text < 2 ^ 32) (map leaf_text leaves)
leaf_texts-short [] h = tt
leaf_texts-short (leaf ∷ leaves) h = (leaf_text-short leaf h.0, leaf_texts-short leaves h.1)

-- ---- the operation in a leaf's text

pub op_behind : (leaf : Leaf) → IsLeaf leaf → drop 40 (leaf_text leaf) ≡ op_text leaf.op
unfolding leaf_text
op_behind leaf h = sym (drop-drop 8 32 (leaf.after ++ (to_be_bytes w64 leaf.epoch ++ op_text leaf.op))) ∙ ap (drop 8) (drop_at leaf.after (to_be_bytes w64 leaf.epoch ++ op_text leaf.op) 32 h.after.0)

pub op_of_text : (text : List ℕ) (leaf : Leaf) → SpellsLeaf leaf text → drop 40 text ≡ op_text leaf.op
op_of_text text leaf h = ap (drop 40) h.text ∙ op_behind leaf h.is_leaf

pub none_behind : (text : List ℕ) → length text < 40 → [] ≡ drop 40 text
none_behind text short = sym (nil_from_length (drop 40 text) (omega (arith, length-drop 40 text)))

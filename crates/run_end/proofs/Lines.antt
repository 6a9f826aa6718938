-- What stands behind the lines of the end: the operation of a forgery, and the root of a wall.
use Rattle.std.proofs.Common.{◌≡◌, ◌∙◌, ℕ, suc, ◌+◌, ◌<◌, List, [], ◌∷◌, ◌++◌, length, map, Some, refl, ap, sym, subst, arith}
use Rattle.std.specs.Prelude.{slice_get}
use Rattle.fr_digest.specs.Digest.{Digest}
use Rattle.op_types.specs.declared.op.Leaf.{Leaf}
use Rattle.op_types.specs.declared.op.Op.{Op}
use Rattle.op_types.specs.declared.view.View.{View}
use Rattle.op_types.specs.Spelling.{IsLeaf, IsOp}
use Rattle.world_book.specs.declared.took.Took.{Took}
use Rattle.world_book.specs.declared.world.World.{World}
use Rattle.world_book.specs.Kept.{Kept}
use Rattle.world_book.specs.Records.{IsIn, records_of}
use Rattle.world_book.proofs.Leaves.{leaf-shown}
use Rattle.world_book.proofs.Places.{flat-place, place-right}
use Rattle.audit_run.specs.Ends.{FindsForged}
use Rattle.audit_run.specs.Unsigned.{shown_leaves}
use Rattle.tree_model.specs.History.{root}
use Rattle.script_form.specs.declared.outcome.WallEnd.{WallEnd}
use Rattle.hall_core.specs.declared.facts.WallFacts.{WallFacts}
use Rattle.hall_core.specs.PlainWall.{texts_of}
use Rattle.hall_core.specs.Standing.{Hall, IsViewOf, no_view}
use Rattle.run_end.specs.Ends.{end_root, wall_end}

-- ---- forgeries

-- what stands behind others is in the list
behind-others : {A : Type 0} (before behind all : List A) (x : A) → all ≡ before ++ x ∷ behind → IsIn all x
behind-others before behind all x e = record {
  place = length before + 0;
  there = ap (λ xs. slice_get xs (length before + 0)) e ∙ place-right before (x ∷ behind) 0;
}

-- the operation of a forgery has a spelling
pub forged-op : (d : Digest) (w : World) → Kept d w → (user wall : ℕ) (op : Op) → FindsForged w user wall op → IsOp op
forged-op d w kept user wall op found =
    let there = behind-others found.first.before found.first.behind (shown_leaves w) found.leaf found.first.shown in
    let of = flat-place (λ (r : Took). r.leaves) (records_of w) there.place found.leaf there.there in
    subst IsOp (sym found.op_is) (leaf-shown d w kept of.0 of.1 of.2.place found.leaf of.2.there).is_leaf.op

-- ---- walls

view-root : (d : Digest) (facts : WallFacts) (leaves : List Leaf) (view : View) → IsViewOf d facts leaves view
    → view.root ≡ end_root d leaves
view-root d facts [] view it = ap (λ (v : View). v.root) (it.none refl)
view-root d facts (l ∷ leaves) view it =
    let size = it.size in
    let seen = it.seen (omega arith) in
    seen.same ∙ ap (root d (texts_of (l ∷ leaves))) size

-- a view of all leaves tells how the wall ends
pub view-end : (d : Digest) (hall : Hall) (view : View) → IsViewOf d hall.facts hall.leaves view
    → (let end : WallEnd = record { wall = view.wall; size = view.size; root = view.root } in end) ≡ wall_end d hall
view-end d hall view it =
    ap (λ (n : ℕ). ended n view.size view.root) it.wall
    ∙ ap (λ (n : ℕ). ended hall.facts.wall n view.root) it.size
    ∙ ap (ended hall.facts.wall (length hall.leaves)) (view-root d hall.facts hall.leaves view it)
  where
    ended : ℕ → ℕ → List ℕ → WallEnd
    ended wall size root = record { wall = wall; size = size; root = root }

-- The comparison of the front of a history with that of a record, where it has one.
use Rattle.std.specs.Prelude.{◌≡◌, ℕ, ◌+◌, ◌≤◌, length, slice_get, Some, List, ◌++◌, map, Option}
use Rattle.std.specs.List.{flat_map}
use Rattle.op_types.specs.declared.op.Leaf.{Leaf}
use Rattle.world_book.specs.declared.took.Took.{Took}
use Rattle.world_book.specs.declared.world.World.{World}
use Rattle.world_audit.specs.Comparisons.{Comparison, base_compared, dicts_compared, front_with, seen_by, some_in}
use Rattle.world_audit.specs.Story.{prev, story}
use Rattle.world_book.specs.Kept.{lists_of}
use Rattle.audit_run.specs.Line.{History}

abbrev pub fronts_compared : World → ℕ → List Leaf → Option Took → List Comparison
fronts_compared w v L o = flat_map (λ (s : Took). map (front_with L v) (some_in (story w s))) (some_in o)

abbrev pub view_on : World → ℕ → List Leaf → Leaf → List Comparison
view_on w wall L leaf = fronts_compared w leaf.op.view.size L (seen_by w wall leaf)

-- The comparisons of a record over a history that begins with the record's: the last two kinds of them, the last three,
-- and all.
abbrev pub shown_compared : World → Took → History → List Comparison
shown_compared w r h =
    dicts_compared h.owner h.leaves r.from (lists_of r) ++ flat_map (view_on w r.wall h.leaves) r.leaves

abbrev pub own_compared : World → Took → History → List Comparison
own_compared w r h = fronts_compared w r.have h.leaves (prev w r) ++ shown_compared w r h

abbrev pub compared_on : World → Took → History → List Comparison
compared_on w r h = base_compared w r ++ own_compared w r h

-- The history is long enough for all that the record is compared with.
pub record IsLong (r : Took) (h : History) : Type 0 where
  pub old : r.have ≤ length h.leaves
  pub shown : r.from + length r.dicts ≤ length h.leaves
  pub seen : (i : ℕ) (l : Leaf) → slice_get r.leaves i ≡ Some l → l.op.view.size ≤ length h.leaves

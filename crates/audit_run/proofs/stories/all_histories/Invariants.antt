use Rattle.std.proofs.Common.{◌≡◌, ℕ, Option, Some, length}
use Rattle.std.specs.Prelude.{slice_get}
use Rattle.world_book.specs.declared.took.Took.{Took}
use Rattle.world_book.specs.Records.{records_of}
use Rattle.world_audit.specs.Story.{story}
use Rattle.audit_run.specs.Table.{Holds, IsTable}
use Rattle.audit_run.proofs.stories.all_histories.Given as goal

abbrev pub invariant-loop-i : goal.invariant-loop-i
invariant-loop-i g l = (length l.places.items ≡ l.i) × IsTable l.index.world.now l.stories.lines.items l.stories.rows.items
    × ((k : ℕ) (r : Took) (place : Option ℕ) → slice_get (records_of l.index.world.now) k ≡ Some r → slice_get l.places.items k ≡ Some place
    → Holds l.stories.lines.items r.wall (story l.index.world.now r) place)

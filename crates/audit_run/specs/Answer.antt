-- The answers of an audit.
use Rattle.std.specs.Prelude.{ℕ, Bool, length, filter, is_some}
use Rattle.world_book.specs.declared.took.Took.{Took}
use Rattle.world_book.specs.declared.world.World.{World}
use Rattle.world_book.specs.Records.{records_of}
use Rattle.world_audit.specs.Story.{story}

abbrev pub has_story : World → Took → Bool
has_story w r = is_some (story w r)

-- How many records there are, and how many of them have a history.
abbrev pub count_records : World → ℕ
count_records w = length (records_of w)

abbrev pub count_grounded : World → ℕ
count_grounded w = length (filter (has_story w) (records_of w))

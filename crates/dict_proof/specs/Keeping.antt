-- When a change leaves an entry.
use Rattle.std.specs.Prelude.{◌≢◌, ℕ, None}
use Rattle.tree_model.specs.AccessList.{ListChange, stays, adds, drops}
use Rattle.pruned_list.specs.PrunedList.{PrunedList, found, seek}

-- Whoever is removed isn't the author, and a search for the author doesn't end without an entry.
abbrev pub KeepsAuthor : PrunedList → ℕ → ListChange → Type 0
KeepsAuthor p author stays = Unit {0}
KeepsAuthor p author (adds e) = Unit {0}
KeepsAuthor p author (drops user) = (user ≢ author) × (seek p author ≢ found None)

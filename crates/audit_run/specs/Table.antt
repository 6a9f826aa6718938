-- The histories that an audit holds, and which of them are those of records.
use Rattle.std.specs.Prelude.{◌≡◌, ℕ, List, ◌++◌, length, Option, None, Some, Bool, ◌&&◌, map, nat_eq, option_and_then, reverse}
use Rattle.std.specs.List.{slice_get}
use Rattle.fr_digest.specs.Digest.{Digest}
use Rattle.op_types.specs.declared.op.Leaf.{Leaf}
use Rattle.world_book.specs.declared.took.Took.{Took}
use Rattle.world_book.specs.declared.world.World.{World}
use Rattle.world_book.specs.Kept.{Kept}
use Rattle.world_book.specs.Records.{records_of}
use Rattle.world_audit.specs.Comparisons.{owner_of}
use Rattle.world_audit.specs.Story.{base_of, front_of, story}
use Rattle.audit_run.specs.Line.{History}
use Rattle.audit_run.specs.declared.stories.Row.{Row}
use Rattle.audit_run.specs.declared.stories.Row.TheVariants.{Unknown, Known}

-- These are all records of a kept world.
pub record IsIndex (w : World) (records : List Took) : Type 0 where
  pub d : Digest
  pub kept : Kept d w
  pub all : records ≡ records_of w

-- these are its numbers
abbrev pub is_at : ℕ → ℕ → ℕ → Took → Bool
is_at user wall size r = nat_eq r.user user && (nat_eq r.wall wall && nat_eq r.size size)

-- The i-th history is of the wall, and begins with these leaves.
pub record Begins (lines : List History) (wall i : ℕ) (front : List Leaf) : Type 0 where
  pub line : History
  pub there : slice_get lines i ≡ Some line
  pub same_wall : line.wall ≡ wall
  pub rest : List Leaf
  pub leaves : line.leaves ≡ front ++ rest

-- What a history begins with, it still begins with.
unfoldable pub Grows : List History → List History → Type 0
Grows old new = (wall i : ℕ) (front : List Leaf) → Begins old wall i front → Begins new wall i front

-- Each has its wall's owner.
unfoldable pub AreOf : World → List History → Type 0
AreOf w lines = (i : ℕ) (line : History) → slice_get lines i ≡ Some line → line.owner ≡ owner_of w line.wall

-- Where there is a history, this one begins with it; and where there is none, there is none.
unfoldable pub Holds : List History → ℕ → Option (List Leaf) → Option ℕ → Type 0
Holds lines wall None None = Unit {0}
Holds lines wall None (Some i) = ⊥
Holds lines wall (Some front) None = ⊥
Holds lines wall (Some front) (Some i) = Begins lines wall i front

-- Of the record, if there is one, this is the history.
abbrev pub HoldsAt : World → List History → Option Took → Option ℕ → Type 0
HoldsAt w lines o place = (wall : ℕ) → ((r : Took) → o ≡ Some r → r.wall ≡ wall)
    → Holds lines wall (option_and_then (story w) o) place

-- Below and beside the record stand these histories, and what is in front of its leaves is as long as it has to be.
pub record HasFront (lines : List History) (r : Took) (below beside : Option ℕ) (b s : Option (List Leaf)) : Type 0 where
  pub below_is : Holds lines r.wall b below
  pub beside_is : Holds lines r.wall s beside
  pub long : (M : List Leaf) → front_of r (base_of r b) s ≡ Some M → length M ≡ r.from

-- Where the row is known, it has the record's history.
unfoldable pub IsRow : World → List History → Took → Row → Type 0
IsRow w lines r Unknown = Unit {0}
IsRow w lines r (Known place) = Holds lines r.wall (story w r) place

-- A row for each record.
pub record IsTable (w : World) (lines : List History) (rows : List Row) : Type 0 where
  pub count : length rows ≡ length (records_of w)
  pub each : (k : ℕ) (r : Took) (row : Row) → slice_get (records_of w) k ≡ Some r → slice_get rows k ≡ Some row
      → IsRow w lines r row
  pub owners : AreOf w lines

abbrev pub AreUnknown : List Row → Type 0
AreUnknown rows = (k : ℕ) (row : Row) → slice_get rows k ≡ Some row → row ≡ Unknown

-- A place for each record: that of its history, where it has one.
pub record ArePlaces (w : World) (lines : List History) (places : List (Option ℕ)) : Type 0 where
  pub count : length places ≡ length (records_of w)
  pub each : (k : ℕ) (r : Took) (place : Option ℕ) → slice_get (records_of w) k ≡ Some r
      → slice_get places k ≡ Some place → Holds lines r.wall (story w r) place
  pub owners : AreOf w lines

-- The places are those of these records, in this order.
abbrev pub ArePicked : List Took → List ℕ → List Took → Type 0
ArePicked records places picked = map (slice_get records) places ≡ map (λ (r : Took). Some r) picked

-- The same, the first place being that of the last record.
abbrev pub AreDone : List Took → List ℕ → List Took → Type 0
AreDone records places done = ArePicked records places (reverse done)

-- The records of a world, and how they are looked up.
use Rattle.std.specs.Prelude.{◌≡◌, ℕ, ◌<◌, Bool, false, not, ◌&&◌, List, map, find, fold, Option, Some, None, nat_eq, if◌then◌else◌, option_and_then}
use Rattle.std.specs.List.{flat_map, slice_get}
use Rattle.lms_tree.specs.Valid.{Key}
use Rattle.world_book.specs.declared.book.UserBook.{UserBook}
use Rattle.op_types.specs.declared.op.Op.{Op}
use Rattle.world_book.specs.declared.took.Signed.{Signed}
use Rattle.world_book.specs.declared.took.Took.{Took}
use Rattle.world_book.specs.declared.world.WallNote.{WallNote}
use Rattle.world_book.specs.declared.world.World.{World}

-- ---- lists

-- it is one of these
pub record IsIn {A : Type 0} (xs : List A) (x : A) : Type 0 where
  pub place : ℕ
  pub there : slice_get xs place ≡ Some x

-- each is smaller than each behind it
abbrev pub Rise : List ℕ → Type 0
Rise xs = (i j m n : ℕ) → i < j → slice_get xs i ≡ Some m → slice_get xs j ≡ Some n → m < n

-- ---- users and walls

abbrev pub book_of : World → ℕ → Option UserBook
book_of w user = find (λ (b : UserBook). nat_eq b.user user) w.users

abbrev pub is_no_rogue : Option UserBook → Bool
is_no_rogue None = false
is_no_rogue (Some book) = not book.rogue

-- The user is listed and no rogue.
abbrev pub is_honest : World → ℕ → Bool
is_honest w user = is_no_rogue (book_of w user)

-- the listed users with their keys
abbrev pub keys_of : List UserBook → List (ℕ × Key)
keys_of books = map (λ (b : UserBook). (b.user, b.key)) books

abbrev pub note_of : List WallNote → ℕ → Option WallNote
note_of notes wall = find (λ (n : WallNote). nat_eq n.wall wall) notes

-- ---- signed operations

-- one of the operations that the user signed, its signature included
pub record Signs (w : World) (user : ℕ) (op : Op) : Type 0 where
  pub book : UserBook
  pub found : book_of w user ≡ Some book
  pub signed : Signed
  pub kept : IsIn book.signed signed
  pub same : signed.op ≡ op

-- ---- records

-- all records, the users rising, each one's in order
abbrev pub records_of : World → List Took
records_of w = flat_map (λ (b : UserBook). b.took) w.users

abbrev pub is_record : ℕ → ℕ → Took → Bool
is_record wall size t = nat_eq t.wall wall && nat_eq t.size size

-- a user's record of a wall at a size
abbrev pub record_of : World → ℕ → ℕ → ℕ → Option Took
record_of w user wall size =
    option_and_then (λ (b : UserBook). find (is_record wall size) b.took) (book_of w user)

-- the last of these records that is of the wall
abbrev pub last_on : ℕ → List Took → Option Took
last_on wall tooks = fold (λ (last : Option Took) (t : Took). if nat_eq t.wall wall then Some t else last) None tooks

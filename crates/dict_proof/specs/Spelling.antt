-- The one spelling of each pruned access list, and what is read at the front of a text.
use Rattle.std.specs.Prelude.{◌≡◌, ℕ, zero, suc, ◌<◌, ◌≤◌, ◌%◌, ◌^◌, Bool, true, false, List, [], ◌∷◌, ◌++◌, length, None, Some, nat_eq, nat_lt}
use Rattle.std.specs.Int.{w32, to_be_bytes}
use Rattle.fr_bytes.specs.Bytes.{IsBytes, Text}
use Rattle.fr_bytes.specs.Reading.{◌>>=◌, Reader, piece_at, number_at, both_at, as_at}
use Rattle.fr_bytes.specs.Format.{Format, format}
use Rattle.fr_bytes.specs.Parts.{IsWithin, byte_within_at, one_of, optional_at, tagged_at}
use Rattle.fr_digest.specs.Digest.{digest_bytes}
use Rattle.tree_model.specs.declared.entry.Entry.{Entry}
use Rattle.pruned_list.specs.PrunedList.{PrunedList, absent, hidden, node, levels}
use Rattle.dict_proof.specs.declared.limits.TheConstants.{HIDDEN_TAG, ENTRY_TAG, ROLE_MIN, ROLE_MAX, FLAGS_MAX, LEVELS_MAX}

-- ---- ranges

-- 32 bytes
abbrev pub IsDig : Text → Type 0
IsDig x = (length x ≡ digest_bytes) × IsBytes x

-- a user and a next number of four bytes, and one of the three roles
pub record IsEntry (e : Entry) : Type 0 where
  pub user : e.user < 2 ^ 32
  pub role : IsWithin ROLE_MIN ROLE_MAX e.role
  pub next : e.next < 2 ^ 32

-- Each entry and each digest is in range.
unfoldable pub HasRanges : PrunedList → Type 0
HasRanges absent = Unit {0}
HasRanges (hidden x) = IsDig x
HasRanges (node e l r) = IsEntry e × HasRanges l × HasRanges r

-- no more than this many levels, and all parts in range
abbrev pub FitsIn : ℕ → PrunedList → Type 0
FitsIn most p = (levels p ≤ most) × HasRanges p

-- The list has a spelling: it has an entry, no more than 40 levels, of which a hidden part is one, and its
-- parts are in range.
pub record IsSpelled (p : PrunedList) : Type 0 where
  pub some : 0 < levels p
  pub low : levels p ≤ LEVELS_MAX
  pub ranges : HasRanges p

-- ---- the spelling

-- the user, the role and the next number
abbrev pub entry_text : Entry → Text
entry_text e = to_be_bytes w32 e.user ++ (e.role ∷ to_be_bytes w32 e.next)

abbrev pub is_there : PrunedList → Bool
is_there absent = false
is_there (hidden x) = true
is_there (node e l r) = true

-- 1 for a part of smaller users and 2 for one of greater ones
abbrev pub flags_by : Bool → Bool → ℕ
flags_by false false = 0
flags_by true false = 1
flags_by false true = 2
flags_by true true = 3

abbrev pub flags_of : PrunedList → PrunedList → ℕ
flags_of l r = flags_by (is_there l) (is_there r)

-- which parts such a number tells
abbrev pub has_left : ℕ → Bool
has_left flags = nat_eq (flags % 2) 1

abbrev pub has_right : ℕ → Bool
has_right flags = nat_lt 1 flags

-- what stands in front of an entry's parts
abbrev pub head_text : Entry → PrunedList → PrunedList → Text
head_text e l r = ENTRY_TAG ∷ (entry_text e ++ (flags_of l r ∷ []))

-- A tag, and behind it the digest; or the entry, which parts there are, and the parts, smaller users first. An
-- absent part has no bytes.
unfoldable pub list_text : PrunedList → Text
list_text absent = []
list_text (hidden x) = HIDDEN_TAG ∷ x
list_text (node e l r) = head_text e l r ++ (list_text l ++ list_text r)

-- the bytes spell the list
pub record Spells (p : PrunedList) (bytes : Text) : Type 0 where
  pub is_spelled : IsSpelled p
  pub text : bytes ≡ list_text p

-- ---- reading

unfoldable pub hidden_at : Reader PrunedList
hidden_at = as_at hidden (piece_at digest_bytes)

unfoldable pub entry_at : Reader Entry
entry_at bytes = do
  user ← number_at w32 bytes
  role ← byte_within_at ROLE_MIN ROLE_MAX user.1
  next ← number_at w32 role.1
  Some (record { user = user.0; role = role.0; next = next.0 }, next.1)

-- a part that is there or not
abbrev pub part_at : Bool → Reader PrunedList → Reader PrunedList
part_at is_there below = optional_at is_there absent below

abbrev pub made_node : Entry × (ℕ × (PrunedList × PrunedList)) → PrunedList
made_node q = node q.0 q.1.1.0 q.1.1.1

abbrev pub parts_at : Reader PrunedList → ℕ → Reader (PrunedList × PrunedList)
parts_at below flags = both_at (part_at (has_left flags) below) (λ l. part_at (has_right flags) below)

unfoldable pub node_at : Reader PrunedList → Reader PrunedList
node_at below = as_at made_node (both_at entry_at (λ e. both_at (byte_within_at 0 FLAGS_MAX) (parts_at below)))

-- what stands behind each tag, where this is what may stand below a node
abbrev pub cases_of : Reader PrunedList → List (ℕ × Reader PrunedList)
cases_of below = (HIDDEN_TAG, hidden_at) ∷ ((ENTRY_TAG, node_at below) ∷ [])

unfoldable pub behind_at : Reader PrunedList → ℕ → Reader PrunedList
behind_at below = one_of (cases_of below)

abbrev pub none_at : Reader PrunedList
none_at bytes = None

-- a pruned list of no more than this many levels
unfoldable pub list_at : ℕ → Reader PrunedList
list_at zero = none_at
list_at (suc levels) = tagged_at (behind_at (list_at levels))

-- the format of pruned lists
unfoldable pub dict_at : Reader PrunedList
dict_at = list_at LEVELS_MAX

abbrev pub dict_format : Format PrunedList
dict_format = format IsSpelled list_text dict_at

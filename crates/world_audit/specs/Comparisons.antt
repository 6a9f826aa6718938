-- What an audit compares, and in which order.
use Rattle.std.specs.Prelude.{◌≡◌, ℕ, zero, suc, ◌+◌, Bool, ◌&&◌, List, [], ◌∷◌, ◌++◌, map, take, fold, Option, Some, None, is_some, nat_lt, nat_eq, if◌then◌else◌, filter, reverse}
use Rattle.std.specs.List.{list_any, flat_map}
use Rattle.std.specs.Option.{option_or}
use Rattle.fr_bytes.specs.Bytes.{Text}
use Rattle.fr_digest.specs.Collision.{Strings}
use Rattle.fr_digest.specs.Digest.{Digest}
use Rattle.op_types.specs.declared.op.Leaf.{Leaf}
use Rattle.op_types.specs.Spelling.{leaf_text}
use Rattle.tree_model.specs.declared.entry.Entry.{Entry}
use Rattle.hist_proof.specs.Pruned.{Tree, Prunes, cut}
use Rattle.hist_proof.specs.View.{tree_view}
use Rattle.pruned_list.specs.PrunedList.{PrunedList, PrunesDict}
use Rattle.tree_extract.specs.AccessListDifference.{dict_difference}
use Rattle.tree_extract.specs.Difference.{list_difference}
use Rattle.tree_extract.specs.PrunedDifference.{history_difference}
use Rattle.wall_law.specs.State.{state_of}
use Rattle.world_book.specs.declared.took.Took.{Took}
use Rattle.world_book.specs.declared.world.WallNote.{WallNote}
use Rattle.world_book.specs.declared.world.World.{World}
use Rattle.world_book.specs.Kept.{lists_of}
use Rattle.world_book.specs.Records.{is_honest, note_of, records_of}
use Rattle.world_audit.specs.Story.{prev, record_seen, story, vouched}

-- ---- one comparison

-- a pruned tree with a list of texts, two lists of texts, or a pruned access list with a list of entries
pub data Comparison : Type 0 where
  tree : Tree → List Text → Comparison
  lists : List Text → List Text → Comparison
  dict : PrunedList → List Entry → Comparison

-- The first prunes the second, or is it.
unfoldable pub Agrees : Digest → Comparison → Type 0
Agrees d (tree p texts) = Prunes d p texts
Agrees d (lists a b) = a ≡ b
Agrees d (dict p entries) = PrunesDict d p entries

abbrev pub texts_of : List Leaf → List Text
texts_of leaves = map leaf_text leaves

-- The first two strings, in pre-order, that differ and have one digest.
unfoldable pub strings_of : Digest → Comparison → Option Strings
strings_of d (tree p texts) = history_difference d p texts
strings_of d (lists a b) = list_difference d a b
strings_of d (dict p entries) = dict_difference d p entries

-- ---- the comparisons of a record that has this history

abbrev pub some_in : {A : Type 0} → Option A → List A
some_in None = []
some_in (Some x) = x ∷ []

-- a list of texts beside the first so many of the history's
abbrev pub front_with : List Leaf → ℕ → List Leaf → Comparison
front_with L v M = lists (texts_of (take v L)) (texts_of M)

-- the record on whose history a record rests
abbrev pub base : World → Took → Option Took
base w r = if nat_eq r.from r.have then prev w r else vouched w r

-- The record's tree, cut at the size of that record, with its history.
abbrev pub tree_with : Took → Took → List Leaf → List Comparison
tree_with r b M = map (λ (c : Tree). tree c (texts_of M)) (some_in (cut (tree_view r.proof) r.size b.size))

-- 1. The tree with the history that the record rests on.
abbrev pub base_compared : World → Took → List Comparison
base_compared w r = flat_map (λ (b : Took). flat_map (tree_with r b) (some_in (story w b))) (some_in (base w r))

-- 2. The history's front with that of the record before.
abbrev pub prev_compared : World → Took → List Leaf → List Comparison
prev_compared w r L = flat_map (λ (p : Took). map (front_with L r.have) (some_in (story w p))) (some_in (prev w r))

-- 3. Each pruned list with the state before its position.
unfoldable pub dicts_compared : ℕ → List Leaf → ℕ → List PrunedList → List Comparison
dicts_compared owner L k [] = []
dicts_compared owner L k (p ∷ ps) = dict p (state_of owner (take k L)).entries ∷ dicts_compared owner L (k + 1) ps

-- the record of the view that an honest author's operation embeds
abbrev pub seen_by : World → ℕ → Leaf → Option Took
seen_by w wall leaf =
    if is_honest w leaf.op.author && nat_lt 0 leaf.op.view.size then record_seen w wall leaf else None

-- 4. For each such operation that is shown, the history's front with that record's.
abbrev pub view_compared : World → Took → List Leaf → Leaf → List Comparison
view_compared w r L leaf = flat_map
    (λ (s : Took). map (front_with L leaf.op.view.size) (some_in (story w s))) (some_in (seen_by w r.wall leaf))

abbrev pub owner_in : Option WallNote → ℕ
owner_in None = 0
owner_in (Some note) = note.owner

abbrev pub owner_of : World → ℕ → ℕ
owner_of w wall = owner_in (note_of w.walls wall)

-- All of them, in this order.
unfoldable pub compared : World → Took → List Leaf → List Comparison
compared w r L = base_compared w r ++ (prev_compared w r L
    ++ (dicts_compared (owner_of w r.wall) L r.from (lists_of r) ++ flat_map (view_compared w r L) r.leaves))

-- ---- the order of records

-- The records whose histories a record's comparisons speak of: the one before, where it skips the vouching one, and
-- those of the views that honest authors embed, by position.
abbrev pub needed : World → Took → List Took
needed w r = some_in (prev w r) ++ (some_in (if nat_eq r.from r.have then None else vouched w r)
    ++ filter (λ (s : Took). is_some (story w s)) (flat_map (λ (l : Leaf). some_in (seen_by w r.wall l)) r.leaves))

abbrev pub is_same_record : Took → Took → Bool
is_same_record r s = nat_eq r.user s.user && (nat_eq r.wall s.wall && nat_eq r.size s.size)

abbrev pub is_done : List Took → Took → Bool
is_done done r = list_any (is_same_record r) done

-- A record behind those that it needs, each once; the last one stands first. No more than this many records need one
-- another.
unfoldable pub visit : ℕ → World → List Took → Took → List Took
visit zero w done r = done
visit (suc m) w done r = if is_done done r then done else r ∷ fold (visit m w) done (needed w r)

-- The records with a history, users rising and each user's in order, each behind those that it needs.
unfoldable pub order : World → List Took
order w = reverse (fold (λ (done : List Took) (r : Took). visit r.size w done r) []
    (filter (λ (r : Took). is_some (story w r)) (records_of w)))

abbrev pub record_compared : World → Took → List Comparison
record_compared w r = flat_map (compared w r) (some_in (story w r))

unfoldable pub all_compared : World → List Comparison
all_compared w = flat_map (record_compared w) (order w)

-- the first of these that differs
unfoldable pub first_difference : Digest → List Comparison → Option Strings
first_difference d [] = None
first_difference d (c ∷ cs) = option_or (strings_of d c) (first_difference d cs)

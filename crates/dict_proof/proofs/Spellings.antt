-- That reading and spelling of pruned lists agree, and what follows of it.
use Rattle.std.proofs.Common.{◌≡◌, ℕ, zero, suc, ◌<◌, ◌≤◌, Bool, true, false, [], ◌∷◌, ◌++◌, length, Result, Ok, Err, refl, ap, sym, subst, ◌∙◌, inl, inr, arith, lit<}
use Rattle.std.specs.Prelude.{IfOk, IsErrOf}
use Rattle.std.specs.Int.{w32, to_be_bytes}
use Rattle.fr_bytes.specs.declared.refusals.ReadRefusal.{ReadRefusal}
use Rattle.fr_bytes.specs.declared.refusals.ReadRefusal.TheVariants as refusals
use Rattle.fr_bytes.specs.Bytes.{IsBytes, Text}
use Rattle.fr_bytes.specs.Reading.{GivesAll, Reader, all_of}
use Rattle.fr_bytes.specs.Format.{Format, IsExact, format}
use Rattle.fr_bytes.specs.Parts.{HasTag, both, byte_within, fit_optional, number, optional, piece, spelled_optional, tagged_at}
use Rattle.fr_bytes.proofs.Formats.{all_again, all_found, exact_as, exact_both, exact_piece, exact_u32, unique}
use Rattle.fr_bytes.proofs.Parts.{exact_byte_within, exact_field, exact_never, exact_optional, exact_tagged, exact_told}
use Rattle.std.proofs.Common.{length-append}
use Rattle.fr_digest.specs.Digest.{digest_bytes}
use Rattle.tree_model.specs.declared.entry.Entry.{Entry}
use Rattle.pruned_list.specs.PrunedList.{PrunedList, absent, hidden, node, levels, byte_count, HasDigests}
use Rattle.dict_proof.specs.declared.pruned_dict.PrunedDict.{PrunedDict}
use Rattle.dict_proof.specs.declared.limits.TheConstants.{HIDDEN_TAG, ENTRY_TAG, ROLE_MIN, ROLE_MAX, FLAGS_MAX, LEVELS_MAX}
use Rattle.dict_proof.specs.Spelling.{HasRanges, IsDig, IsEntry, IsSpelled, Spells, behind_at, cases_of, dict_at, dict_format, entry_at, entry_text, flags_by, flags_of, has_left, has_right, hidden_at, is_there, list_at, list_text, made_node, node_at}
use Rattle.dict_proof.specs.View.{list_view}

-- ---- entries

abbrev entry_format : Format Entry
entry_format = format IsEntry entry_text entry_at

exact_entry : IsExact entry_format
unfolding entry_at
exact_entry =
    exact_field (number w32) IsEntry (λ e. e.user) (λ e. e.role ∷ to_be_bytes w32 e.next) _ exact_u32 (λ e h. h.user) (λ user h1.
    exact_field (byte_within ROLE_MIN ROLE_MAX) (λ e. IsEntry e × (e.user ≡ user)) (λ e. e.role) (λ e. to_be_bytes w32 e.next) _
    (exact_byte_within ROLE_MIN ROLE_MAX (lit< tt)) (λ e h. h.0.role) (λ role h2.
    exact_as (number w32) (λ e. (IsEntry e × (e.user ≡ user)) × (e.role ≡ role)) (λ e. to_be_bytes w32 e.next)
    (λ next. record { user = user; role = role; next = next }) exact_u32
    (λ next h. (((record { user = h1; role = h2; next = h }, refl), refl), refl))
    (λ e h. (e.next, h.0.0.next, rw (sym h.0.1, sym h.1) refl))))

-- ---- parts

-- what may stand below a node: nothing, or what is as told
abbrev IsPart : (PrunedList → Type 0) → PrunedList → Type 0
IsPart IsBelow absent = Unit {0}
IsPart IsBelow (hidden x) = IsBelow (hidden x)
IsPart IsBelow (node e l r) = IsBelow (node e l r)

-- the parts of a list are in range, and what is below its top is as told
abbrev IsTop : (PrunedList → Type 0) → PrunedList → Type 0
IsTop IsBelow absent = ⊥
IsTop IsBelow (hidden x) = IsDig x
IsTop IsBelow (node e l r) = IsEntry e × IsPart IsBelow l × IsPart IsBelow r

-- no more than this many levels, and all parts in range
IsLeveled : ℕ → PrunedList → Type 0
IsLeveled zero p = ⊥
IsLeveled (suc n) p = IsTop (IsLeveled n) p

-- ---- which parts there are

flags-left : (a b : Bool) → has_left (flags_by a b) ≡ a
flags-left false false = refl
flags-left true false = refl
flags-left false true = refl
flags-left true true = refl

flags-right : (a b : Bool) → has_right (flags_by a b) ≡ b
flags-right false false = refl
flags-right true false = refl
flags-right false true = refl
flags-right true true = refl

flags-low : (a b : Bool) → flags_by a b ≤ FLAGS_MAX
flags-low false false = omega arith
flags-low true false = omega arith
flags-low false true = omega arith
flags-low true true = omega arith

flags-back : (flags : ℕ) → flags ≤ 3 → flags_by (has_left flags) (has_right flags) ≡ flags
flags-back zero low = refl
flags-back (suc zero) low = refl
flags-back (suc (suc zero)) low = refl
flags-back (suc (suc (suc zero))) low = refl
flags-back (suc (suc (suc (suc n)))) low = absurd (omega arith)

-- ---- one level

abbrev tag_of : PrunedList → ℕ
tag_of absent = HIDDEN_TAG
tag_of (hidden x) = HIDDEN_TAG
tag_of (node e l r) = ENTRY_TAG

abbrev rest_text : PrunedList → Text
rest_text absent = []
rest_text (hidden x) = x
rest_text (node e l r) = entry_text e ++ (flags_of l r ∷ (list_text l ++ list_text r))

tag-below : (p : PrunedList) → tag_of p < 256
tag-below absent = lit< tt
tag-below (hidden x) = lit< tt
tag-below (node e l r) = lit< tt

has_tag : (below : Reader PrunedList) (p : PrunedList) → HasTag (cases_of below) (tag_of p)
has_tag below absent = inl refl
has_tag below (hidden x) = inl refl
has_tag below (node e l r) = inr (inl refl)

-- A part that is there or not, as its flag tells.
record Told (IsBelow : PrunedList → Type 0) (is : Bool) (p : PrunedList) : Type 0 where
  there : is_there p ≡ is
  part : IsPart IsBelow p
  text : list_text p ≡ spelled_optional is list_text p

module _ (IsBelow : PrunedList → Type 0) (below : Reader PrunedList) (some : IsBelow absent → ⊥) where
  told : (is : Bool) (p : PrunedList) → fit_optional is absent IsBelow p → Told IsBelow is p
  unfolding list_text
  told false absent h = record { there = refl; part = tt; text = refl }
  told false (hidden x) h = absurd cc
  told false (node e l r) h = absurd cc
  told true absent h = absurd (some h)
  told true (hidden x) h = record { there = refl; part = h; text = refl }
  told true (node e l r) h = record { there = refl; part = h; text = refl }

  untold : (p : PrunedList) → IsPart IsBelow p → fit_optional (is_there p) absent IsBelow p
  untold absent h = refl
  untold (hidden x) h = h
  untold (node e l r) h = h

  abbrev Tagged : ℕ → PrunedList → Type 0
  Tagged tag p = IsTop IsBelow p × (tag_of p ≡ tag)

  of_hidden : (p : PrunedList) → Tagged HIDDEN_TAG p → (x : Text) × ((length x ≡ digest_bytes) × IsBytes x) × (hidden x ≡ p)
  of_hidden absent h = absurd h.0
  of_hidden (hidden x) h = (x, h.0, refl)
  of_hidden (node e l r) h = absurd cc

  exact_hidden : IsExact (format (Tagged HIDDEN_TAG) rest_text hidden_at)
  unfolding hidden_at
  exact_hidden =
      exact_as (piece digest_bytes) (Tagged HIDDEN_TAG) rest_text hidden (exact_piece digest_bytes) (λ x h. ((h, refl), refl)) of_hidden

  module _ (exact : IsExact (format IsBelow list_text below)) where
    abbrev below_format : Format PrunedList
    below_format = format IsBelow list_text below

    abbrev parts_format : ℕ → Format (PrunedList × PrunedList)
    parts_format flags =
        both (optional (has_left flags) absent below_format) (λ l. optional (has_right flags) absent below_format)

    abbrev node_format : Format (Entry × (ℕ × (PrunedList × PrunedList)))
    node_format = both entry_format (λ e. both (byte_within 0 FLAGS_MAX) parts_format)

    exact_parts : (flags : ℕ) → IsExact (parts_format flags)
    exact_parts flags =
        exact_both (optional (has_left flags) absent below_format) (λ l. optional (has_right flags) absent below_format)
        (exact_optional (has_left flags) absent below_format exact)
        (λ l h. exact_optional (has_right flags) absent below_format exact)

    exact_node_parts : IsExact node_format
    exact_node_parts =
        exact_both entry_format (λ e. both (byte_within 0 FLAGS_MAX) parts_format) exact_entry (λ e h.
        exact_both (byte_within 0 FLAGS_MAX) parts_format (exact_byte_within 0 FLAGS_MAX (lit< tt)) (λ flags h'. exact_parts flags))

    there : (q : Entry × (ℕ × (PrunedList × PrunedList))) → node_format.fits q
        → Tagged ENTRY_TAG (made_node q) × (rest_text (made_node q) ≡ node_format.text q)
    there q h =
        let l = told (has_left q.1.0) q.1.1.0 h.1.1.0 in
        let r = told (has_right q.1.0) q.1.1.1 h.1.1.1 in
        let flags : flags_of q.1.1.0 q.1.1.1 ≡ q.1.0 =
        ap (λ (b : Bool). flags_by b (is_there q.1.1.1)) l.there
        ∙ ap (λ (b : Bool). flags_by (has_left q.1.0) b) r.there
        ∙ flags-back q.1.0 h.1.0.1 in (
          ((h.0, l.part, r.part), refl),
          ap (λ (n : ℕ). entry_text q.0 ++ (n ∷ (list_text q.1.1.0 ++ list_text q.1.1.1))) flags
              ∙ ap (λ (t : Text). entry_text q.0 ++ (q.1.0 ∷ (t ++ list_text q.1.1.1))) l.text
              ∙ ap (λ (t : Text). entry_text q.0 ++ (q.1.0 ∷ (spelled_optional (has_left q.1.0) list_text q.1.1.0 ++ t))) r.text,
        )

    back : (p : PrunedList) → Tagged ENTRY_TAG p
        → (q : Entry × (ℕ × (PrunedList × PrunedList))) × node_format.fits q × (made_node q ≡ p)
    back absent h = absurd h.0
    back (hidden x) h = absurd cc
    back (node e l r) h =
        let is_left = sym (flags-left (is_there l) (is_there r)) in
        let is_right = sym (flags-right (is_there l) (is_there r)) in
        let left = subst (λ (b : Bool). fit_optional b absent IsBelow l) is_left (untold l h.0.1) in
        let right = subst (λ (b : Bool). fit_optional b absent IsBelow r) is_right (untold r h.0.2) in
        ((e, (flags_of l r, (l, r))), (h.0.0, ((omega arith, flags-low (is_there l) (is_there r)), (left, right))), refl)

    exact_node : IsExact (format (Tagged ENTRY_TAG) rest_text (node_at below))
    unfolding node_at
    exact_node = exact_as node_format (Tagged ENTRY_TAG) rest_text made_node exact_node_parts there back

    exact_tags : IsExact (format (IsTop IsBelow) (λ p. tag_of p ∷ rest_text p) (λ bytes. tagged_at (behind_at below) bytes))
    unfolding behind_at
    exact_tags =
        exact_tagged (IsTop IsBelow) tag_of rest_text (cases_of below) tag-below (exact_hidden, (exact_node, tt)) (has_tag below)

    tag_told : (p : PrunedList) → IsTop IsBelow p → IsTop IsBelow p × (tag_of p ∷ rest_text p ≡ list_text p)
    unfolding list_text
    tag_told absent h = absurd h
    tag_told (hidden x) h = (h, refl)
    tag_told (node e l r) h = (h, refl)

    exact_top : IsExact (format (IsTop IsBelow) list_text (λ bytes. tagged_at (behind_at below) bytes))
    exact_top =
        exact_told (format (IsTop IsBelow) (λ p. tag_of p ∷ rest_text p) (λ bytes. tagged_at (behind_at below) bytes))
        (IsTop IsBelow) list_text exact_tags tag_told (λ p h. h)

-- ---- all levels

some_leveled : (n : ℕ) → IsLeveled n absent → ⊥
unfolding IsLeveled
some_leveled zero h = h
some_leveled (suc n) h = h

exact_levels : (n : ℕ) → IsExact (format (IsLeveled n) list_text (list_at n))
unfolding IsLeveled list_at
exact_levels zero = exact_never (λ p. ⊥) list_text (λ p h. h)
exact_levels (suc n) = exact_top (IsLeveled n) (list_at n) (some_leveled n) (exact_levels n)

-- what has no more levels, and its parts in range, may stand below a node
to_part : (n : ℕ) (p : PrunedList) → levels p ≤ n → HasRanges p → IsPart (IsLeveled n) p
unfolding IsLeveled levels HasRanges
to_part n absent low h = tt
to_part zero (hidden x) low h = absurd (omega arith)
to_part (suc n) (hidden x) low h = h
to_part zero (node e l r) low h = absurd (omega arith)
to_part (suc n) (node e l r) low h = (h.0, to_part n l (omega arith) h.1, to_part n r (omega arith) h.2)

from_part : (n : ℕ) (p : PrunedList) → IsPart (IsLeveled n) p → (levels p ≤ n) × HasRanges p
unfolding IsLeveled levels HasRanges
from_part n absent h = (omega arith, tt)
from_part zero (hidden x) h = absurd h
from_part (suc n) (hidden x) h = (omega arith, h)
from_part zero (node e l r) h = absurd h
from_part (suc n) (node e l r) h =
    let left = from_part n l h.1 in
    let right = from_part n r h.2 in
    (omega (arith, left.0, right.0), (h.0, left.1, right.1))

spelled_leveled : (p : PrunedList) → IsSpelled p → IsLeveled LEVELS_MAX p
unfolding levels
spelled_leveled absent h = absurd (omega (arith, h.some))
spelled_leveled (hidden x) h = to_part LEVELS_MAX (hidden x) h.low h.ranges
spelled_leveled (node e l r) h = to_part LEVELS_MAX (node e l r) h.low h.ranges

leveled_spelled : (p : PrunedList) → IsLeveled LEVELS_MAX p → IsSpelled p
unfolding levels
leveled_spelled absent h = absurd (some_leveled LEVELS_MAX h)
leveled_spelled (hidden x) h =
    let it = from_part LEVELS_MAX (hidden x) h in record { some = omega arith; low = it.0; ranges = it.1 }
leveled_spelled (node e l r) h =
    let it = from_part LEVELS_MAX (node e l r) h in record { some = omega arith; low = it.0; ranges = it.1 }

pub exact_dict : IsExact dict_format
unfolding dict_at
exact_dict =
    exact_told (format (IsLeveled LEVELS_MAX) list_text (list_at LEVELS_MAX)) IsSpelled list_text (exact_levels LEVELS_MAX)
    (λ p h. (leveled_spelled p h, refl)) spelled_leveled

-- ---- what a reader of all of the bytes answers

pub found_spelled : (bytes : Text) (result : Result PrunedDict ReadRefusal) → IsBytes bytes
    → GivesAll list_view result (all_of dict_at bytes) → IfOk result (λ p. Spells (list_view p) bytes)
found_spelled bytes (Ok p) fits read =
    let it = all_found dict_format exact_dict bytes (list_view p) fits read in record { is_spelled = it.0; text = it.1 }
found_spelled bytes (Err e) fits read = tt

pub only_spelled : (bytes : Text) (result : Result PrunedDict ReadRefusal)
    → GivesAll list_view result (all_of dict_at bytes) → IsErrOf result refusals.NotForm → (p : PrunedList)
    → Spells p bytes → ⊥
only_spelled bytes (Ok x) read none p h = absurd cc
only_spelled bytes (Err refusals.NotForm) read none p h =
    let again = all_again dict_format exact_dict p h.is_spelled in
    let e = sym read ∙ ap (all_of dict_at) h.text ∙ again in cc
only_spelled bytes (Err refusals.NoMemory) read none p h = cc

-- ---- one spelling

pub one_value : (p q : PrunedList) (bytes : Text) → Spells p bytes → Spells q bytes → p ≡ q
one_value p q bytes hp hq =
    (unique dict_format exact_dict p q [] [] hp.is_spelled hq.is_spelled (ap (λ (t : Text). t ++ []) (sym hp.text ∙ hq.text))).0

pub one_text : (p : PrunedList) (a b : Text) → Spells p a → Spells p b → a ≡ b
one_text p a b ha hb = ha.text ∙ sym hb.text

-- ---- what has a spelling

digests_ranges : (p : PrunedList) → HasRanges p → HasDigests p
unfolding HasRanges HasDigests
digests_ranges absent h = tt
digests_ranges (hidden x) h = h.0
digests_ranges (node e l r) h = (digests_ranges l h.1, digests_ranges r h.2)

-- each hidden part has a digest's length
pub digests_spelled : (p : PrunedList) → IsSpelled p → HasDigests p
digests_spelled p h = digests_ranges p h.ranges

-- ---- how long a spelling is

entry_length : (e : Entry) → length (entry_text e) ≡ 9
entry_length e =
    length-append (to_be_bytes w32 e.user) (e.role ∷ to_be_bytes w32 e.next)
    ∙ refl

size_digests : (p : PrunedList) → HasDigests p → length (list_text p) ≡ byte_count p
unfolding list_text byte_count HasDigests
size_digests absent h = refl
size_digests (hidden x) h = ap suc h
size_digests (node e l r) h =
    let head = length-append (entry_text e) (flags_of l r ∷ (list_text l ++ list_text r)) in
    let parts = length-append (list_text l) (list_text r) in
    let entry = entry_length e in
    let left = size_digests l h.0 in
    let right = size_digests r h.1 in
    omega (arith, head, parts, entry, left, right)

-- 33 bytes for a hidden part, and 11 for an entry
pub size_spelled : (p : PrunedList) → IsSpelled p → length (list_text p) ≡ byte_count p
size_spelled p h = size_digests p (digests_spelled p h)

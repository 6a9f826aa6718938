-- Pruned lists of small access lists have a short spelling.
use Rattle.std.proofs.Common.{◌≡◌, ℕ, ◌+◌, ◌<◌, ◌≤◌, Bool, true, false, cond, List, [], ◌∷◌, ◌++◌, length, fold, refl, ap, inl, inr, arith}
use Rattle.std.specs.Prelude.{filter, nat_eq, nat_lt, not}
use Rattle.std.specs.Int.{w32, to_be_bytes}
use Rattle.std.specs.List.{AllByRecursion}
use Rattle.std.proofs.lemmas.Bool.{cases_eq, false≢true, ne_eqb}
use Rattle.fr_bytes.specs.Bytes.{Text}
use Rattle.fr_bytes.specs.Parts.{IsLimited, IsWithin}
use Rattle.fr_bytes.proofs.Limits.{limited_joined, limited_none, limited_number32, limited_one, limited_wider}
use Rattle.fr_bytes.proofs.Lists.{each-append}
use Rattle.fr_digest.specs.Digest.{Digest}
use Rattle.op_types.specs.declared.kind.Kind.{Kind}
use Rattle.op_types.specs.declared.kind.Kind.TheVariants.{Post, Admit, Remove}
use Rattle.op_types.specs.declared.op.Leaf.{Leaf}
use Rattle.op_types.specs.Roles.{may_be_given}
use Rattle.op_types.specs.Spelling.{IsKind, IsLeaf}
use Rattle.tree_model.specs.declared.entry.Entry.{Entry}
use Rattle.tree_model.specs.AccessList.{IsRising, change_by, greater, numbered, smaller, with_next}
use Rattle.tree_model.proofs.Members.{All-among}
use Rattle.tree_model.proofs.Tops.{top-among}
use Rattle.pruned_list.specs.PrunedList.{PrunedList, PrunesDict, PrunesList, absent, hidden, node, byte_count, levels}
use Rattle.pruned_list.proofs.Prunings.{bytes-few, levels-few}
use Rattle.dict_proof.specs.Spelling.{HasRanges, IsDig, IsEntry, IsSpelled, Spells, entry_text, flags_by, flags_of, head_text, is_there, list_text}
use Rattle.wall_law.specs.declared.state.State.{State}
use Rattle.wall_law.specs.State.{after, change_of, opening, state_of}
use Rattle.hall_replies.specs.Shown.{HasNumbers, SpellsShort}
use Rattle.hall_replies.specs.declared.lists.TheConstants.{LIST_BYTES_MAX}

-- ---- roles

abbrev HasRole : Entry → Type 0
HasRole e = IsWithin 1 3 e.role

abbrev pub HaveRoles : List Entry → Type 0
HaveRoles E = AllByRecursion HasRole E

kept-if : (b : Bool) (e : Entry) (E : List Entry) → HasRole e → HaveRoles E → HaveRoles (cond b (e ∷ E) E)
kept-if true e E one each = (one, each)
kept-if false e E one each = each

all-filter : (q : Entry → Bool) (E : List Entry) → HaveRoles E → HaveRoles (filter q E)
all-filter q [] each = tt
all-filter q (e ∷ E) each = kept-if (q e) e (filter q E) each.0 (all-filter q E each.1)

numbered-role : (user next : ℕ) (e : Entry) → HasRole e → HasRole (numbered user next e)
numbered-role user next e h = chosen (nat_eq e.user user) where
  chosen : (b : Bool) → HasRole (cond b (record e { next = next }) e)
  chosen true = h
  chosen false = h

next-roles : (user next : ℕ) (E : List Entry) → HaveRoles E → HaveRoles (with_next user next E)
next-roles user next [] each = tt
next-roles user next (e ∷ E) each = (numbered-role user next e each.0, next-roles user next E each.1)

given-role : (role : ℕ) → may_be_given role ≡ true → IsWithin 1 3 role
given-role role given = elim (cases_eq role 1) [
  | inl reader ↦ (omega arith, omega arith)
  | inr other ↦ elim (cases_eq role 2) [
    | inl writer ↦ (omega arith, omega arith)
    | inr another ↦ absurd (false≢true (rw (ne_eqb role 1 other, ne_eqb role 2 another) at given))
  ]
]

changed-roles : (kind : Kind) (E : List Entry) → IsKind kind → HaveRoles E → HaveRoles (change_by (change_of kind) E)
changed-roles (Post body) E fits each = each
changed-roles (Admit user role slot wraps) E fits each =
    let entry : Entry = record { user = user; role = role; next = 0 } in
    each-append HasRole (smaller user E ++ entry ∷ []) (greater user E)
    (each-append HasRole (smaller user E) (entry ∷ []) (all-filter (λ (e : Entry). nat_lt e.user user) E each) (given-role role fits.role.1, tt))
    (all-filter (λ (e : Entry). nat_lt user e.user) E each)
changed-roles (Remove user slot wraps) E fits each = all-filter (λ (e : Entry). not (nat_eq e.user user)) E each

roles-fold : (s : State) (L : List Leaf) → AllByRecursion IsLeaf L → HaveRoles s.entries
    → HaveRoles (fold (λ (t : State) (l : Leaf). after t l.op) s L).entries
roles-fold s [] spelled each = each
roles-fold s (l ∷ L) spelled each = roles-fold (after s l.op) L spelled.1
    (changed-roles l.op.kind (with_next l.op.author (l.op.seq + 1) s.entries) spelled.0.op.kind
    (next-roles l.op.author (l.op.seq + 1) s.entries each))

-- each entry of a state of leaves that have spellings has one of the three roles
pub state-roles : (owner : ℕ) (L : List Leaf) → AllByRecursion IsLeaf L → HaveRoles (state_of owner L).entries
state-roles owner L spelled = roles-fold (opening owner) L spelled ((omega arith, omega arith), tt)

-- ---- ranges

pub ranges : (d : Digest) (p : PrunedList) (E : List Entry) → PrunesList d p E → HaveRoles E → HasNumbers p → HasRanges p
unfolding PrunesList HasNumbers HasRanges
ranges d absent E prunes each numbers = tt
ranges d (hidden x) E prunes each numbers = numbers
ranges d (node e l r) E prunes each numbers = (
  record { user = numbers.0; role = All-among HasRole E e each (top-among E e prunes.0); next = numbers.1 },
  ranges d l (smaller e.user E) prunes.1 (all-filter (λ (x : Entry). nat_lt x.user e.user) E each) numbers.2,
  ranges d r (greater e.user E) prunes.2 (all-filter (λ (x : Entry). nat_lt e.user x.user) E each) numbers.3,
)

some-levels : (d : Digest) (p : PrunedList) (E : List Entry) → PrunesDict d p E → 0 < levels p
unfolding PrunesList levels
some-levels d absent E prunes = let none = prunes.parts in let some = prunes.some in absurd (omega (arith, ap length none))
some-levels d (hidden x) E prunes = omega arith
some-levels d (node e l r) E prunes = omega arith

pub spelled : (d : Digest) (p : PrunedList) (E : List Entry) → IsRising E → PrunesDict d p E → length E ≤ 32 → HaveRoles E
    → HasNumbers p → IsSpelled p
spelled d p E rising prunes few each numbers = record {
  some = some-levels d p E prunes;
  low = let low = levels-few d p E rising prunes.parts in omega arith;
  ranges = ranges d p E prunes.parts each numbers;
}

-- ---- how long a spelling is

flags-byte : (a b : Bool) → flags_by a b < 256
flags-byte false false = omega arith
flags-byte true false = omega arith
flags-byte false true = omega arith
flags-byte true true = omega arith

entry-limited : (e : Entry) → IsEntry e → IsLimited 9 (entry_text e)
entry-limited e h = limited_joined 4 5 (to_be_bytes w32 e.user) (e.role ∷ to_be_bytes w32 e.next) (limited_number32 e.user)
    (limited_one 4 e.role (to_be_bytes w32 e.next) (let most = h.role.1 in omega arith) (limited_number32 e.next))

head-limited : (e : Entry) (l r : PrunedList) → IsEntry e → IsLimited 11 (head_text e l r)
head-limited e l r h = limited_one 10 1 (entry_text e ++ flags_of l r ∷ []) (omega arith)
    (limited_joined 9 1 (entry_text e) (flags_of l r ∷ []) (entry-limited e h)
    (limited_one 0 (flags_of l r) [] (flags-byte (is_there l) (is_there r)) (limited_none 0)))

pub list-limited : (p : PrunedList) → HasRanges p → IsLimited (byte_count p) (list_text p)
unfolding HasRanges byte_count list_text
list-limited absent h = limited_none 0
list-limited (hidden x) h =
    limited_wider 33 33 (0 ∷ x) (omega arith) (limited_one 32 0 x (omega arith) (omega (arith, h.0), h.1))
list-limited (node e l r) h =
    limited_joined 11 (byte_count l + byte_count r) (head_text e l r) (list_text l ++ list_text r) (head-limited e l r h.0)
    (limited_joined (byte_count l) (byte_count r) (list_text l) (list_text r) (list-limited l h.1) (list-limited r h.2))

pub short : (d : Digest) (p : PrunedList) (E : List Entry) → IsRising E → PrunesDict d p E → length E ≤ 32 → HasRanges p
    → length (list_text p) ≤ 1056
short d p E rising prunes few h =
    let most = bytes-few d p E rising prunes.parts in
    let own = (list-limited p h).0 in
    omega arith

-- ---- hidden lists

pub hidden-spelled : (x : Text) → IsDig x → IsSpelled (hidden x)
unfolding levels HasRanges
hidden-spelled x h = record { some = omega arith; low = omega arith; ranges = h }

hidden-count : (x : Text) → byte_count (hidden x) ≡ 33
unfolding byte_count
hidden-count x = refl

-- a hidden list in place of one that has no short spelling
pub hidden-short : (p : PrunedList) (x bytes : Text) → Spells (hidden x) bytes
    → (IsSpelled p → length (list_text p) ≤ LIST_BYTES_MAX → ⊥) → SpellsShort p bytes
hidden-short p x bytes it isnt =
    let count = hidden-count x in
    let size = (list-limited (hidden x) it.is_spelled.ranges).0 in
    record {
      list = hidden x;
      spells = it;
      short = rw it.text (omega arith);
      same = λ is short_. absurd (isnt is short_);
    }

pub own-short : (p : PrunedList) (bytes : Text) → Spells p bytes → length bytes ≤ LIST_BYTES_MAX → SpellsShort p bytes
own-short p bytes it short_ = record { list = p; spells = it; short = short_; same = λ is small. refl }

pub too-long : (p : PrunedList) (bytes : Text) → Spells p bytes → LIST_BYTES_MAX < length bytes
    → IsSpelled p → length (list_text p) ≤ LIST_BYTES_MAX → ⊥
too-long p bytes it more is small = let size = ap length it.text in omega arith

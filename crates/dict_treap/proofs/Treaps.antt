-- Steps of changes of treaps, and what a change leaves of the treap of an access list.
use Rattle.std.proofs.Common.{◌≡◌, ℕ, ◌<◌, true, List, [], ◌∷◌, length, Option, Some, None, refl, ap, sym, subst, ◌∙◌, ◌++◌, append_assoc, length-append, arith}
use Rattle.std.specs.Prelude.{IsSomeAnd, nat_le, nat_lt, option_map, unwrap_or}
use Rattle.std.proofs.lemmas.Bool.{and_parts, le-ltb, leb-true}
use Rattle.fr_digest.specs.Digest.{Digest}
use Rattle.tree_model.specs.declared.entry.Entry.{Entry}
use Rattle.tree_model.specs.AccessList.{IsRising, dict, entry_of, greater, smaller, top_of, with_entry, with_next, without}
use Rattle.tree_model.proofs.ListChanges.{rising-with_entry, rising-with_next}
use Rattle.tree_model.proofs.LookUps.{with_entry-own}
use Rattle.pruned_list.specs.PrunedList.{PrunedList, absent, hidden, node, PrunesDict, PrunesList, IsWhole, in_order, found, greater_over, insert, join, part_digest, remove, seek, set_next, smaller_over, split, under}
use Rattle.pruned_list.proofs.Found.{whole-finds}
use Rattle.pruned_list.proofs.Insertions.{alone, insert-prunes}
use Rattle.pruned_list.proofs.LookUps.{listed-some}
use Rattle.pruned_list.proofs.Prunings.{digest-dict, rising-greater, rising-smaller, whole-in_order}
use Rattle.pruned_list.proofs.Removals.{next-prunes, remove-prunes}
use Rattle.pruned_list.proofs.Wholes.{insert-whole, remove-whole, set_next-whole}
use Rattle.dict_treap.specs.Lists.{where_some}
use Rattle.dict_treap.specs.Treap.{IsVersion, is_greater, is_smaller, left_of, right_of}
use Rattle.dict_treap.proofs.Versions.{rising-without, without-some}

-- ---- steps

-- all users are smaller
pub split-smaller : (u : ℕ) (p : PrunedList) → is_smaller u p ≡ true → split p u ≡ Some (p, absent)
unfolding is_smaller split
split-smaller u absent h = refl
split-smaller u (hidden x) h = absurd cc
split-smaller u (node e l r) h =
    let tests = and_parts (nat_lt e.user u) (is_smaller u r) h in
    rw tests.0 (ap (λ (o : Option (PrunedList × PrunedList)). option_map (smaller_over e l) o)
    (split-smaller u r tests.1))

-- no user is smaller
pub split-greater : (u : ℕ) (p : PrunedList) → is_greater u p ≡ true → split p u ≡ Some (absent, p)
unfolding is_greater split
split-greater u absent h = refl
split-greater u (hidden x) h = absurd cc
split-greater u (node e l r) h =
    let tests = and_parts (nat_le u e.user) (is_greater u l) h in
    let high = leb-true u e.user tests.0 in
    rw (le-ltb e.user u high) (ap (λ (o : Option (PrunedList × PrunedList)). option_map (greater_over e r) o)
    (split-greater u l tests.1))

-- nothing on the right
pub join-absent : (p : PrunedList) → join p absent ≡ Some p
unfolding join under
join-absent absent = refl
join-absent (hidden x) = refl
join-absent (node e l r) = refl

pub ruleset splits = (split-smaller, split-greater)

pub ruleset join_absent = (join-absent)

-- ---- versions

-- the treap of this list, which has an entry
pub record Makes (d : Digest) (p : PrunedList) (E : List Entry) : Type 0 where
  pub some : 0 < length (in_order p)
  pub treap : IsVersion d p
  pub entries : in_order p ≡ E

version : (d : Digest) (p : PrunedList) (E : List Entry) → IsRising E → IsWhole p → PrunesList d p E
    → IsVersion d p × (in_order p ≡ E)
version d p E rising whole h =
    let same = whole-in_order d p E rising whole h in
    (record { whole = whole; rising = rw same rising; parts = rw same h }, same)

makes : (d : Digest) (p : PrunedList) (E : List Entry) → 0 < length E → IsRising E → IsWhole p → PrunesList d p E
    → Makes d p E
makes d p E some rising whole h =
    let kept = version d p E rising whole h in
    record { some = rw kept.1 some; treap = kept.0; entries = kept.1 }

is_whole : (o : Option PrunedList) (q : PrunedList) → IsSomeAnd o IsWhole → o ≡ Some q → IsWhole q
is_whole o q h is = let it = subst (λ (x : Option PrunedList). IsSomeAnd x IsWhole) is h in it

pub one-makes : (d : Digest) (e : Entry) → Makes d (node e absent absent) (e ∷ [])
unfolding IsWhole
one-makes d e = makes d (node e absent absent) (e ∷ []) (omega arith) (tt, tt) (tt, tt) (alone d e)

pub insert-makes : (d : Digest) (e : Entry) (p q : PrunedList) (E : List Entry) → IsRising E → IsWhole p
    → PrunesDict d p E → entry_of E e.user ≡ None → insert e p ≡ Some q → Makes d q (with_entry e E)
insert-makes d e p q E rising whole h none is =
    makes d q (with_entry e E) (listed-some (with_entry e E) e.user e (with_entry-own e E))
    (rising-with_entry e E rising)
    (is_whole (insert e p) q (insert-whole e p whole) is) (insert-prunes d e p E q rising none h.parts is)

pub remove-makes : (d : Digest) (user : ℕ) (p q : PrunedList) (E : List Entry) → IsRising E → IsWhole p
    → PrunesDict d p E → 1 < length E → remove user p ≡ Some q → Makes d q (without user E)
remove-makes d user p q E rising whole h more is =
    makes d q (without user E) (without-some user E rising more) (rising-without user E rising)
    (is_whole (remove user p) q (remove-whole user p whole) is) (remove-prunes d user p E q rising h.parts is)

next-some : (user next : ℕ) (E : List Entry) → 0 < length E → 0 < length (with_next user next E)
next-some user next [] some = absurd (omega arith)
next-some user next (e ∷ es) some = omega arith

pub set_next-makes : (d : Digest) (user next : ℕ) (p q : PrunedList) (E : List Entry) → IsRising E → IsWhole p
    → PrunesDict d p E → set_next user next p ≡ Some q → Makes d q (with_next user next E)
set_next-makes d user next p q E rising whole h is =
    makes d q (with_next user next E) (next-some user next E h.some) (rising-with_next user next E rising)
    (is_whole (set_next user next p) q (set_next-whole user next p whole) is)
    (next-prunes d user next p E q h.parts is)

-- ---- look-ups and digests

pub finds : (d : Digest) (p : PrunedList) (E : List Entry) (u : ℕ) (o : Option Entry) → IsRising E → IsWhole p
    → PrunesDict d p E → seek p u ≡ found o → o ≡ entry_of E u
finds d p E u o rising whole h is =
    let it : found o ≡ found (entry_of E u) = sym is ∙ whole-finds d p E u rising whole h.parts in cc

pub digest-is : (d : Digest) (p : PrunedList) (E : List Entry) (x : List ℕ) → PrunesDict d p E
    → part_digest d p ≡ Some x
    → x ≡ dict d E
digest-is d p E x h is = sym (ap (λ (o : Option (List ℕ)). unwrap_or o []) is) ∙ digest-dict d p E h

-- ---- nodes

pub some-absent : (p : PrunedList) → p ≡ absent → 0 < length (in_order p) → ⊥
unfolding in_order
some-absent p is some = let none : 0 < length (in_order absent) = rw is at some in omega arith

pub none-absent : (p : PrunedList) → p ≡ absent → None ≡ where_some (in_order p)
unfolding in_order
none-absent p is = rw is refl

pub some-node : (e : Entry) (p : PrunedList) → p ≡ node e (left_of p) (right_of p) → 0 < length (in_order p)
unfolding in_order
some-node e absent is = absurd cc
some-node e (hidden x) is = absurd cc
some-node e (node f l r) is = let sum = length-append (in_order l) (f ∷ in_order r) in omega arith

empty-absent : (d : Digest) (E : List Entry) → PrunesDict d absent E → ⊥
unfolding PrunesList
empty-absent d [] h = let some = h.some in omega arith
empty-absent d (e ∷ es) h = let none = h.parts in cc

whole-hidden : (x : List ℕ) → IsWhole (hidden x) → ⊥
unfolding IsWhole
whole-hidden x h = h

-- ---- the parts of a treap

-- the top of a list and the treaps of its parts
pub record Parted (d : Digest) (p : PrunedList) (E : List Entry) (e : Entry) : Type 0 where
  pub top : top_of E ≡ Some e
  pub left : IsVersion d (left_of p)
  pub smaller_users : in_order (left_of p) ≡ smaller e.user E
  pub right : IsVersion d (right_of p)
  pub greater_users : in_order (right_of p) ≡ greater e.user E

node-parted : (d : Digest) (e : Entry) (l r : PrunedList) (E : List Entry) → IsRising E → IsWhole (node e l r)
    → PrunesList d (node e l r) E → Parted d (node e l r) E e
unfolding IsWhole PrunesList
node-parted d e l r E rising whole h =
    let left = version d l (smaller e.user E) (rising-smaller e.user E rising) whole.0 h.1 in
    let right = version d r (greater e.user E) (rising-greater e.user E rising) whole.1 h.2 in
    record { top = h.0; left = left.0; smaller_users = left.1; right = right.0; greater_users = right.1 }

pub parted : (d : Digest) (p : PrunedList) (E : List Entry) (e : Entry) → IsRising E → IsWhole p → PrunesDict d p E
    → p ≡ node e (left_of p) (right_of p) → Parted d p E e
parted d absent E e rising whole h is = absurd cc
parted d (hidden x) E e rising whole h is = absurd cc
parted d (node f l r) E e rising whole h is =
    let same : f ≡ e = cc in
    subst (λ (x : Entry). Parted d (node f l r) E x) same (node-parted d f l r E rising whole h.parts)

-- the parts of a treap are treaps, whatever the entry is
pub any-parted : (d : Digest) (p : PrunedList) (E : List Entry) → IsRising E → IsWhole p → PrunesDict d p E
    → IsVersion d (left_of p) × IsVersion d (right_of p)
any-parted d absent E rising whole h = absurd (empty-absent d E h)
any-parted d (hidden x) E rising whole h = absurd (whole-hidden x whole)
any-parted d (node e l r) E rising whole h =
    let parts = node-parted d e l r E rising whole h.parts in (parts.left, parts.right)

-- ---- the entries in order

-- the entries of a node behind others
pub in_order-behind : (es : List Entry) (e : Entry) (p : PrunedList) → p ≡ node e (left_of p) (right_of p)
    → ((es ++ in_order (left_of p)) ++ (e ∷ [])) ++ in_order (right_of p) ≡ es ++ in_order p
unfolding in_order
in_order-behind es e absent is = absurd cc
in_order-behind es e (hidden x) is = absurd cc
in_order-behind es e (node f l r) is =
    let same : f ≡ e = cc in
    append_assoc (es ++ in_order l) (e ∷ []) (in_order r)
    ∙ append_assoc es (in_order l) (e ∷ in_order r)
    ∙ ap (λ (x : Entry). es ++ (in_order l ++ (x ∷ in_order r))) (sym same)

pub ruleset orders = (in_order-behind)

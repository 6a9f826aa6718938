-- What is left of a pruning after a removal prunes the set without the user, and after a next number was set the
-- set with that number.
use Rattle.std.proofs.Common.{◌≡◌, ℕ, ◌<◌, ◌≤◌, ltb, List, [], Option, Some, refl, ap, sym, subst, ◌∙◌, inl, inr, arith}
use Rattle.std.specs.Prelude.{nat_eq, not, option_map}
use Rattle.std.proofs.lemmas.Bool.{le-ltb, lt-ltb, ltb-true, cases_order, eq-eqb, ne_eqb}
use Rattle.fr_digest.specs.Digest.{Digest}
use Rattle.tree_model.specs.declared.entry.Entry.{Entry}
use Rattle.tree_model.specs.AccessList.{IsRising, smaller, greater, numbered, top_of, with_next, without}
use Rattle.tree_model.proofs.Filters.{filter-within}
use Rattle.tree_model.proofs.ListChanges.{rising-filter}
use Rattle.tree_model.proofs.Parts.{greater-with_next, greater-without, smaller-with_next, smaller-without, top-with_next, top-without, with_next-absent, without-around}
use Rattle.tree_model.proofs.Tops.{top-among}
use Rattle.pruned_list.specs.PrunedList.{PrunedList, absent, hidden, node, PrunesList, join, remove, set_next}
use Rattle.pruned_list.proofs.Joins.{join-prunes}
use Rattle.pruned_list.proofs.LookUps.{no_greater, no_smaller}
use Rattle.pruned_list.proofs.Options.{map-some}
use Rattle.pruned_list.proofs.Prunings.{rising-greater, rising-smaller}

-- ---- without a user

smaller-stays : (t user : ℕ) (E : List Entry) → t ≤ user → smaller t (without user E) ≡ smaller t E
smaller-stays t user E low =
    filter-within (λ (x : Entry). ltb x.user t) (λ (x : Entry). not (nat_eq x.user user))
    (λ x less. let it = ltb-true x.user t less in ap not (ne_eqb x.user user (λ is. omega arith))) E

greater-stays : (t user : ℕ) (E : List Entry) → user ≤ t → greater t (without user E) ≡ greater t E
greater-stays t user E high =
    filter-within (λ (x : Entry). ltb t x.user) (λ (x : Entry). not (nat_eq x.user user))
    (λ x more. let it = ltb-true t x.user more in ap not (ne_eqb x.user user (λ is. omega arith))) E

joined : (d : Digest) (e : Entry) (l r c : PrunedList) (E : List Entry) → IsRising E → PrunesList d (node e l r) E
    → join l r ≡ Some c → PrunesList d c (without e.user E)
unfolding PrunesList
joined d e l r c E rising h is =
    let around = without-around E e rising (top-among E e h.0) in
    let rising' = subst IsRising around (rising-filter (λ (x : Entry). not (nat_eq x.user e.user)) E rising) in
    rw around (join-prunes d l (smaller e.user E) h.1 r (greater e.user E) c rising' h.2 is)

from_left : (d : Digest) (e : Entry) (c r : PrunedList) (user : ℕ) (E : List Entry) → IsRising E → top_of E ≡ Some e
    → user < e.user → PrunesList d c (without user (smaller e.user E)) → PrunesList d r (greater e.user E)
    → PrunesList d (node e c r) (without user E)
unfolding PrunesList
from_left d e c r user E rising top less left right = (
  top-without user E e rising top (λ is. omega arith),
  rw (smaller-without e.user user E) left,
  (let high : user ≤ e.user = omega arith in rw (greater-stays e.user user E high) right),
)

from_right : (d : Digest) (e : Entry) (l c : PrunedList) (user : ℕ) (E : List Entry) → IsRising E → top_of E ≡ Some e
    → e.user < user → PrunesList d l (smaller e.user E) → PrunesList d c (without user (greater e.user E))
    → PrunesList d (node e l c) (without user E)
unfolding PrunesList
from_right d e l c user E rising top more left right = (
  top-without user E e rising top (λ is. omega arith),
  (let low : e.user ≤ user = omega arith in rw (smaller-stays e.user user E low) left),
  rw (greater-without e.user user E) right,
)

pub remove-prunes : (d : Digest) (user : ℕ) (p : PrunedList) (E : List Entry) (c : PrunedList) → IsRising E
    → PrunesList d p E → remove user p ≡ Some c → PrunesList d c (without user E)
unfolding PrunesList remove
remove-prunes d user absent E c rising h is =
    let same : absent ≡ c = cc in rw h (subst (λ (q : PrunedList). PrunesList d q []) same refl)
remove-prunes d user (hidden x) E c rising h is = absurd cc
remove-prunes d user (node e l r) E c rising h is = elim (cases_order user e.user) [
  | inl same ↦
      let made : join l r ≡ Some c = rw (eq-eqb user e.user same) at is in
      rw same (joined d e l r c E rising h made)
  | inr (inl less) ↦
      let made : option_map (λ c. node e c r) (remove user l) ≡ Some
      c = rw (ne_eqb user e.user (λ is. omega arith), lt-ltb user e.user less) at is in
      map-some (λ (q : PrunedList). PrunesList d q (without user E)) (λ c. node e c r) (remove user l) c made
      (λ part part-is. from_left d e part r user E rising h.0 less
      (remove-prunes d user l (smaller e.user E) part (rising-smaller e.user E rising) h.1 part-is) h.2)
  | inr (inr more) ↦
      let made : option_map (λ c. node e l c) (remove user r) ≡ Some
      c = rw (ne_eqb user e.user (λ is. omega arith), le-ltb user e.user (omega arith)) at is in
      map-some (λ (q : PrunedList). PrunesList d q (without user E)) (λ c. node e l c) (remove user r) c made
      (λ part part-is. from_right d e l part user E rising h.0 more h.1
      (remove-prunes d user r (greater e.user E) part (rising-greater e.user E rising) h.2 part-is))
]

-- ---- with a next number

next-smaller : (t user next : ℕ) (E : List Entry) → t ≤ user → smaller t (with_next user next E) ≡ smaller t E
next-smaller t user next E low =
    smaller-with_next t user next E ∙ with_next-absent user next (smaller t E) (no_smaller t user E low)

next-greater : (t user next : ℕ) (E : List Entry) → user ≤ t → greater t (with_next user next E) ≡ greater t E
next-greater t user next E high =
    greater-with_next t user next E ∙ with_next-absent user next (greater t E) (no_greater t user E high)

top-numbered : (user next : ℕ) (e : Entry) (E : List Entry) → top_of E ≡ Some e
    → top_of (with_next user next E) ≡ Some (numbered user next e)
top-numbered user next e E top =
    top-with_next user next E ∙ ap (λ (o : Option Entry). option_map (numbered user next) o) top

pub next-prunes : (d : Digest) (user next : ℕ) (p : PrunedList) (E : List Entry) (c : PrunedList)
    → PrunesList d p E → set_next user next p ≡ Some c → PrunesList d c (with_next user next E)
unfolding PrunesList set_next
next-prunes d user next absent E c h is =
    let same : absent ≡ c = cc in rw h (subst (λ (q : PrunedList). PrunesList d q []) same refl)
next-prunes d user next (hidden x) E c h is = absurd cc
next-prunes d user next (node e l r) E c h is =
    let top = top-numbered user next e E h.0 in
    elim (cases_order user e.user) [
      | inl same ↦
          let made : Some (node (record e { next = next }) l r) ≡ Some c = rw (eq-eqb user e.user same) at is in
          let it : node (record e { next = next }) l r ≡ c = cc in
          let low : e.user ≤ user = omega arith in
          let high : user ≤ e.user = omega arith in
          let root : top_of (with_next user next E) ≡ Some (record e { next = next }) = rw (eq-eqb e.user user
          (sym same)) at top in
          subst (λ (q : PrunedList). PrunesList d q (with_next user next E)) it
          (root, rw (next-smaller e.user user next E low) h.1, rw (next-greater e.user user next E high) h.2)
      | inr (inl less) ↦
          let made : option_map (λ c. node e c r) (set_next user next l) ≡ Some
          c = rw (ne_eqb user e.user (λ is. omega arith), lt-ltb user e.user less) at is in
          let high : user ≤ e.user = omega arith in
          let root : top_of (with_next user next E) ≡ Some e = rw (ne_eqb e.user user (λ is. omega arith)) at top in
          map-some (λ (q : PrunedList). PrunesList d q (with_next user next E)) (λ c. node e c r)
          (set_next user next l) c made
          (λ part part-is. (
            root,
            rw (smaller-with_next e.user user next E)
                (next-prunes d user next l (smaller e.user E) part h.1 part-is),
            rw (next-greater e.user user next E high)
                h.2,
          ))
      | inr (inr more) ↦
          let made : option_map (λ c. node e l c) (set_next user next r) ≡ Some
          c = rw (ne_eqb user e.user (λ is. omega arith), le-ltb user e.user (omega arith)) at is in
          let low : e.user ≤ user = omega arith in
          let root : top_of (with_next user next E) ≡ Some e = rw (ne_eqb e.user user (λ is. omega arith)) at top in
          map-some (λ (q : PrunedList). PrunesList d q (with_next user next E)) (λ c. node e l c)
          (set_next user next r) c made
          (λ part part-is. (
            root,
            rw (next-smaller e.user user next E low) h.1,
            rw (greater-with_next e.user user next E) (next-prunes d user next r (greater e.user E) part h.2 part-is),
          ))
    ]

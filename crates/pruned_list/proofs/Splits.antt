-- The parts that a pruning is split into prune the smaller and the greater users.
use Rattle.std.proofs.Common.{◌≡◌, ◌≢◌, ℕ, ◌<◌, ◌≤◌, ltb, List, Some, None, refl, subst, inl, inr, arith}
use Rattle.std.specs.Prelude.{option_map}
use Rattle.std.proofs.lemmas.Bool.{le-ltb, lt-ltb, cases_lt}
use Rattle.fr_digest.specs.Digest.{Digest}
use Rattle.tree_model.specs.declared.entry.Entry.{Entry}
use Rattle.tree_model.specs.AccessList.{IsRising, entry_of, smaller, greater, top_of}
use Rattle.tree_model.proofs.Filters.{greater-greater, smaller-greater, smaller-smaller}
use Rattle.tree_model.proofs.Members.{entry_of-nobody}
use Rattle.tree_model.proofs.Tops.{top-among, top-filter}
use Rattle.pruned_list.specs.PrunedList.{PrunedList, absent, hidden, node, PrunesList, greater_over, smaller_over, split}
use Rattle.pruned_list.proofs.LookUps.{absent-filter}
use Rattle.pruned_list.proofs.Options.{map-some}
use Rattle.pruned_list.proofs.Prunings.{rising-greater, rising-smaller}

-- the parts prune the smaller and the greater users
abbrev pub PrunesParts : Digest → ℕ → List Entry → PrunedList × PrunedList → Type 0
PrunesParts d u E parts = PrunesList d parts.0 (smaller u E) × PrunesList d parts.1 (greater u E)

-- a node of a smaller user goes to the smaller part
to_smaller : (d : Digest) (e : Entry) (l : PrunedList) (u : ℕ) (E : List Entry) (parts : PrunedList × PrunedList)
    → IsRising E → top_of E ≡ Some e → e.user < u → PrunesList d l (smaller e.user E)
    → PrunesParts d u (greater e.user E) parts → PrunesParts d u E (smaller_over e l parts)
unfolding PrunesList
to_smaller d e l u E parts rising top less left h =
    let first : top_of (smaller u E) ≡ Some e = top-filter (λ (x : Entry). ltb x.user u) E e rising top
    (lt-ltb e.user u less) in
    let low : e.user ≤ u = omega arith in (
      (first, rw (smaller-smaller e.user u E low) left, rw (smaller-greater u e.user E) at h.0),
      rw (greater-greater u e.user E low) at h.1,
    )

-- a node of a greater user goes to the greater part
to_greater : (d : Digest) (e : Entry) (r : PrunedList) (u : ℕ) (E : List Entry) (parts : PrunedList × PrunedList)
    → IsRising E → top_of E ≡ Some e → u < e.user → PrunesList d r (greater e.user E)
    → PrunesParts d u (smaller e.user E) parts → PrunesParts d u E (greater_over e r parts)
unfolding PrunesList
to_greater d e r u E parts rising top more right h =
    let first : top_of (greater u E) ≡ Some e = top-filter (λ (x : Entry). ltb u x.user) E e rising top
    (lt-ltb u e.user more) in
    let high : u ≤ e.user = omega arith in (
      rw (smaller-smaller u e.user E high) at h.0,
      (
        first,
        rw (smaller-greater e.user u E) h.1,
        rw (greater-greater e.user u E high) right,
      ),
    )

pub split-prunes : (d : Digest) (p : PrunedList) (u : ℕ) (E : List Entry) (parts : PrunedList × PrunedList)
    → IsRising E → entry_of E u ≡ None → PrunesList d p E → split p u ≡ Some parts → PrunesParts d u E parts
unfolding PrunesList split
split-prunes d absent u E parts rising none h is =
    let same : (absent, absent) ≡ parts = cc in
    subst (λ (s : PrunedList × PrunedList). PrunesParts d u E s) same (rw h (refl, refl))
split-prunes d (hidden x) u E parts rising none h is = absurd cc
split-prunes d (node e l r) u E parts rising none h is = elim (cases_lt e.user u) [
  | inl less ↦
      let made : option_map (smaller_over e l) (split r u) ≡ Some parts = rw (lt-ltb e.user u less) at is in
      map-some (PrunesParts d u E) (smaller_over e l) (split r u) parts made
      (λ below below-is. to_smaller d e l u E below rising h.0 less h.1
      (split-prunes d r u (greater e.user E) below (rising-greater e.user E rising)
      (absent-filter (λ (x : Entry). ltb e.user x.user) u E none) h.2 below-is))
  | inr not_less ↦
      let made : option_map (greater_over e r) (split l u) ≡ Some parts = rw (le-ltb e.user u not_less) at is in
      let other : e.user ≢ u = entry_of-nobody E u e rising none (top-among E e h.0) in
      let more : u < e.user = omega arith in
      map-some (PrunesParts d u E) (greater_over e r) (split l u) parts made
      (λ below below-is. to_greater d e r u E below rising h.0 more h.2
      (split-prunes d l u (smaller e.user E) below (rising-smaller e.user E rising)
      (absent-filter (λ (x : Entry). ltb x.user e.user) u E none) h.1 below-is))
]

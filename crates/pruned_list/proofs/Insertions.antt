-- What is left of a pruning after an insertion prunes the set with the entry.
use Rattle.std.proofs.Common.{◌≡◌, ◌≢◌, ◌<◌, ◌≤◌, false, ltb, List, [], ◌∷◌, Some, None, refl, subst, inl, inr, arith}
use Rattle.std.specs.Prelude.{option_map}
use Rattle.std.proofs.lemmas.Bool.{le-ltb, lt-ltb, cases_Bool, cases_lt}
use Rattle.fr_digest.specs.Digest.{Digest}
use Rattle.tree_model.specs.declared.entry.Entry.{Entry}
use Rattle.tree_model.specs.AccessList.{IsRising, entry_of, smaller, greater, greatest, is_above, top_of, with_entry}
use Rattle.tree_model.proofs.Members.{entry_of-nobody}
use Rattle.tree_model.proofs.Parts.{greater-with_entry, greater-with_entry_same, smaller-with_entry, smaller-with_entry_same, top-with_entry}
use Rattle.tree_model.proofs.Tops.{above-asym, above-other, top-among}
use Rattle.pruned_list.specs.PrunedList.{PrunedList, absent, hidden, node, PrunesList, insert, over, split}
use Rattle.pruned_list.proofs.LookUps.{absent-filter}
use Rattle.pruned_list.proofs.Options.{map-some}
use Rattle.pruned_list.proofs.Prunings.{rising-greater, rising-smaller}
use Rattle.pruned_list.proofs.Splits.{PrunesParts, split-prunes}

-- into the part of smaller users
to_left : (d : Digest) (e f : Entry) (c r : PrunedList) (E : List Entry) → top_of (with_entry e E) ≡ Some f
    → e.user < f.user → PrunesList d c (with_entry e (smaller f.user E)) → PrunesList d r (greater f.user E)
    → PrunesList d (node f c r) (with_entry e E)
unfolding PrunesList
to_left d e f c r E top less left right =
    let low : e.user ≤ f.user = omega arith in
    (top, rw (smaller-with_entry f.user e E less) left, rw (greater-with_entry_same f.user e E low) right)

-- into the part of greater users
to_right : (d : Digest) (e f : Entry) (l c : PrunedList) (E : List Entry) → top_of (with_entry e E) ≡ Some f
    → f.user < e.user → PrunesList d l (smaller f.user E) → PrunesList d c (with_entry e (greater f.user E))
    → PrunesList d (node f l c) (with_entry e E)
unfolding PrunesList
to_right d e f l c E top more left right =
    let high : f.user ≤ e.user = omega arith in
    (top, rw (smaller-with_entry_same f.user e E high) left, rw (greater-with_entry f.user e E more) right)

-- on top
on_top : (d : Digest) (e : Entry) (parts : PrunedList × PrunedList) (E : List Entry)
    → top_of (with_entry e E) ≡ Some e → PrunesParts d e.user E parts → PrunesList d (over e parts) (with_entry e E)
unfolding PrunesList
on_top d e parts E top h =
    let self : e.user ≤ e.user = omega arith in
    (top, rw (smaller-with_entry_same e.user e E self) h.0, rw (greater-with_entry_same e.user e E self) h.1)

-- the list of one entry
pub alone : (d : Digest) (e : Entry) → PrunesList d (node e absent absent) (e ∷ [])
unfolding PrunesList top_of greatest
alone d e = let self : ltb e.user e.user ≡ false = le-ltb e.user e.user (omega arith) in rw self (refl, refl, refl)

pub insert-prunes : (d : Digest) (e : Entry) (p : PrunedList) (E : List Entry) (c : PrunedList) → IsRising E
    → entry_of E e.user ≡ None → PrunesList d p E → insert e p ≡ Some c → PrunesList d c (with_entry e E)
unfolding PrunesList insert
insert-prunes d e absent E c rising none h is =
    let same : node e absent absent ≡ c = cc in
    rw h (subst (λ (q : PrunedList). PrunesList d q (e ∷ [])) same (alone d e))
insert-prunes d e (hidden x) E c rising none h is = absurd cc
insert-prunes d e (node f l r) E c rising none h is =
    let other : f.user ≢ e.user = entry_of-nobody E e.user f rising none (top-among E f h.0) in
    let top = top-with_entry e E f rising none h.0 in
    elim (cases_Bool (is_above f.user e.user)) [
      | inl above ↦
          let root : top_of (with_entry e E) ≡ Some f = rw (above-asym f.user e.user above) at top in
          elim (cases_lt e.user f.user) [
            | inl less ↦
                let made : option_map (λ c. node f c r) (insert e l) ≡ Some
                c = rw (above, lt-ltb e.user f.user less) at is in
                map-some (λ (q : PrunedList). PrunesList d q (with_entry e E)) (λ c. node f c r) (insert e l) c made
                (λ part part-is. to_left d e f part r E root less
                (insert-prunes d e l (smaller f.user E) part (rising-smaller f.user E rising)
                (absent-filter (λ (x : Entry). ltb x.user f.user) e.user E none) h.1 part-is) h.2)
            | inr not_less ↦
                let made : option_map (λ c. node f l c) (insert e r) ≡ Some
                c = rw (above, le-ltb e.user f.user not_less) at is in
                let more : f.user < e.user = omega arith in
                map-some (λ (q : PrunedList). PrunesList d q (with_entry e E)) (λ c. node f l c) (insert e r) c made
                (λ part part-is. to_right d e f l part E root more h.1
                (insert-prunes d e r (greater f.user E) part (rising-greater f.user E rising)
                (absent-filter (λ (x : Entry). ltb f.user x.user) e.user E none) h.2 part-is))
          ]
      | inr not_above ↦
          let made : option_map (over e) (split (node f l r) e.user) ≡ Some c = rw not_above at is in
          let root : top_of (with_entry e E) ≡ Some e = rw (above-other f.user e.user other not_above) at top in
          map-some (λ (q : PrunedList). PrunesList d q (with_entry e E)) (over e) (split (node f l r) e.user) c made
          (λ parts parts-is. on_top d e parts E root (split-prunes d (node f l r) e.user E parts rising none h
          parts-is))
    ]

-- What an operation leaves of a pruning prunes the changed set.
use Rattle.std.proofs.Common.{◌≡◌, ◌≢◌, ℕ, ◌<◌, List, length, Option, Some, None, ap, sym, subst, ◌∙◌}
use Rattle.std.specs.Prelude.{option_map}
use Rattle.fr_digest.specs.Digest.{Digest}
use Rattle.tree_model.specs.declared.entry.Entry.{Entry}
use Rattle.tree_model.specs.AccessList.{IsRising, FitsChange, ListChange, stays, adds, drops, IsListed, entry_of, changed_set, with_entry, with_next, without}
use Rattle.tree_model.proofs.ListChanges.{rising-with_next}
use Rattle.tree_model.proofs.LookUps.{with_entry-own, with_next-other, with_next-own, without-other}
use Rattle.pruned_list.specs.PrunedList.{PrunedList, PrunesList, PrunesDict, carry, changed, set_next}
use Rattle.pruned_list.proofs.Insertions.{insert-prunes}
use Rattle.pruned_list.proofs.LookUps.{listed-some}
use Rattle.pruned_list.proofs.Options.{then-some}
use Rattle.pruned_list.proofs.Removals.{next-prunes, remove-prunes}

pub not_author : (E : List Entry) (author u : ℕ) → IsListed E author → entry_of E u ≡ None → u ≢ author
not_author E author u listed none same = let here : entry_of E author ≡ None = rw (← same) none in let found =
    listed.1 in cc

author-stays : (E : List Entry) (author next : ℕ) → IsListed E author → IsListed (with_next author next E) author
author-stays E author next listed = (
  record listed.0 { next = next },
  with_next-own author next E ∙ ap (λ (o : Option Entry). option_map (λ (e : Entry). record e { next = next }) o)
      listed.1,
)

some-left : (E : List Entry) (author next : ℕ) (change : ListChange) → FitsChange E author change
    → 0 < length (changed_set E author next change)
some-left E author next stays fit =
    let listed = author-stays E author next fit in listed-some (with_next author next E) author listed.0 listed.1
some-left E author next (adds e) fit =
    listed-some (with_entry e (with_next author next E)) e.user e (with_entry-own e (with_next author next E))
some-left E author next (drops u) fit =
    let listed = author-stays E author next fit.0 in
    let other : author ≢ u = λ is. fit.2 (sym is) in
    listed-some (without u (with_next author next E)) author listed.0
    (without-other u author (with_next author next E) other ∙ listed.1)

carry-prunes : (d : Digest) (p : PrunedList) (E : List Entry) (author next : ℕ) (change : ListChange) (q : PrunedList)
    → IsRising E → FitsChange E author change → PrunesList d p (with_next author next E) → carry change p ≡ Some q
    → PrunesList d q (changed_set E author next change)
carry-prunes d p E author next stays q rising fit h is =
    let same : p ≡ q = cc in subst (λ (c : PrunedList). PrunesList d c (with_next author next E)) same h
carry-prunes d p E author next (adds e) q rising fit h is =
    let none = with_next-other author next e.user E (not_author E author e.user fit.0 fit.1) ∙ fit.1 in
    insert-prunes d e p (with_next author next E) q (rising-with_next author next E rising) none h is
carry-prunes d p E author next (drops u) q rising fit h is =
    remove-prunes d u p (with_next author next E) q (rising-with_next author next E rising) h is

pub changed-prunes : (d : Digest) (p : PrunedList) (E : List Entry) (author next : ℕ) (change : ListChange)
    (q : PrunedList) → IsRising E → FitsChange E author change → PrunesDict d p E
    → changed p author next change ≡ Some q → PrunesDict d q (changed_set E author next change)
changed-prunes d p E author next change q rising fit h is = record {
  some = some-left E author next change fit;
  parts =
      then-some (PrunesList d q (changed_set E author next change)) (carry change) (set_next author next p) q is
      (λ c c-is q-is. carry-prunes d c E author next change q rising fit
      (next-prunes d author next p E c h.parts c-is) q-is);
}

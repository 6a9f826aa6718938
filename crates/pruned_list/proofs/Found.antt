-- A search in a whole list meets nothing hidden, so it finds what the set has.
use Rattle.std.proofs.Common.{◌≡◌, ℕ, Bool, true, false, cond, List, Option, Some, refl, ap, sym, ◌∙◌}
use Rattle.std.specs.Prelude.{nat_eq, nat_lt}
use Rattle.fr_digest.specs.Digest.{Digest}
use Rattle.tree_model.specs.declared.entry.Entry.{Entry}
use Rattle.tree_model.specs.AccessList.{IsRising, entry_of}
use Rattle.pruned_list.specs.PrunedList.{PrunedList, absent, hidden, node, IsWhole, PrunesList, Sought, hid, found, seek}
use Rattle.pruned_list.proofs.Prunings.{seek-finds}

abbrev IsFound : Sought → Type 0
IsFound hid = ⊥
IsFound (found o) = Unit {0}

one_of : (b : Bool) (s s' : Sought) → IsFound s → IsFound s' → IsFound (cond b s s')
one_of true s s' h h' = h
one_of false s s' h h' = h'

seek-found : (p : PrunedList) (u : ℕ) → IsWhole p → IsFound (seek p u)
unfolding IsWhole seek
seek-found absent u h = tt
seek-found (hidden x) u h = absurd h
seek-found (node e l r) u h =
    one_of (nat_eq u e.user) (found (Some e)) _ tt (one_of (nat_lt u e.user) _ _ (seek-found l u h.0)
    (seek-found r u h.1))

with-found : (P : Type 0) (s : Sought) → IsFound s → ((o : Option Entry) → s ≡ found o → P) → P
with-found P hid h each = absurd h
with-found P (found o) h each = each o refl

pub whole-finds : (d : Digest) (p : PrunedList) (E : List Entry) (u : ℕ) → IsRising E → IsWhole p → PrunesList d p E
    → seek p u ≡ found (entry_of E u)
whole-finds d p E u rising whole h =
    with-found (seek p u ≡ found (entry_of E u)) (seek p u) (seek-found p u whole)
    (λ o is. is ∙ ap found (sym (seek-finds d p E u o rising h is)))

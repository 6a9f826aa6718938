-- What is kept of a whole list for an operation shows all that the operation enters.
use Rattle.std.proofs.Common.{◌≡◌, ℕ, Bool, List, Option, Some, None, IsSome, refl, ap, sym, subst, ◌∙◌}
use Rattle.std.specs.Prelude.{IsSomeAnd, option_map, option_and_then}
use Rattle.fr_digest.specs.Digest.{Digest}
use Rattle.tree_model.specs.declared.entry.Entry.{Entry}
use Rattle.tree_model.specs.AccessList.{IsRising, FitsChange, ListChange, stays, adds, drops, with_next}
use Rattle.tree_model.proofs.ListChanges.{rising-with_next}
use Rattle.tree_model.proofs.LookUps.{with_next-other}
use Rattle.pruned_list.specs.PrunedList.{PrunedList, IsWhole, PrunesList, carry, changed, found, insert, remove, seek, set_next}
use Rattle.pruned_list.specs.Kept.{Keeps, entered, kept, path, removal}
use Rattle.pruned_list.proofs.Changes.{not_author}
use Rattle.pruned_list.proofs.Entered.{path-next, removal-next}
use Rattle.pruned_list.proofs.Found.{whole-finds}
use Rattle.pruned_list.proofs.Keeping.{insert-kept, keeps-parts, keeps-path, remove-kept, seek-kept, set_next-kept}
use Rattle.pruned_list.proofs.Removals.{next-prunes}
use Rattle.pruned_list.proofs.Wholes.{insert-whole, remove-whole, set_next-whole}

and-some : {A : Type 0} (P : A → Type 0) (o : Option A) → IsSomeAnd o P → IsSome o
and-some P None h = absurd h
and-some P (Some x) h = refl

-- the list with the next number set
with-next : {A : Type 0} (Q : Type 0) (P : A → Type 0) (o : Option A) → IsSomeAnd o P
    → ((c : A) → o ≡ Some c → P c → Q) → Q
with-next Q P None h each = absurd h
with-next Q P (Some c) h each = each c refl h

author-path : (keep : ℕ → Bool) (author : ℕ) (change : ListChange) (p : PrunedList)
    → Keeps keep (entered author change p)
    → Keeps keep (path author p)
author-path keep author stays p h = h
author-path keep author (adds e) p h = (keeps-parts keep (path author p) (path e.user p) h).0
author-path keep author (drops u) p h = (keeps-parts keep (path author p) (removal u p) h).0

carry-kept : (d : Digest) (keep : ℕ → Bool) (p c : PrunedList) (E : List Entry) (author next : ℕ) (change : ListChange)
    → IsRising E → IsWhole p → PrunesList d p E → FitsChange E author change → Keeps keep (entered author change p)
    → set_next author next p ≡ Some c → IsWhole c → IsSome (carry change (kept d keep c))
carry-kept d keep p c E author next stays rising whole h fit keeps is whole' = refl
carry-kept d keep p c E author next (adds e) rising whole h fit keeps is whole' =
    let none = with_next-other author next e.user E (not_author E author e.user fit.0 fit.1) ∙ fit.1 in
    let finds = whole-finds d c (with_next author next E) e.user (rising-with_next author next E rising) whole'
    (next-prunes d author next p E c h is) in
    let keeps' = subst (Keeps keep) (sym (path-next e.user author next p c is))
    (keeps-parts keep (path author p) (path e.user p) keeps).1 in
    insert-kept d keep e c (finds ∙ ap found none) keeps' (and-some IsWhole (insert e c) (insert-whole e c whole'))
carry-kept d keep p c E author next (drops u) rising whole h fit keeps is whole' =
    let keeps' = subst (Keeps keep) (sym (removal-next u author next p c is))
    (keeps-parts keep (path author p) (removal u p) keeps).1 in
    remove-kept d keep u c keeps' (and-some IsWhole (remove u c) (remove-whole u c whole'))

-- the operation meets nothing hidden
pub changed-kept : (d : Digest) (keep : ℕ → Bool) (p : PrunedList) (E : List Entry) (author next : ℕ)
    (change : ListChange) → IsRising E → IsWhole p → PrunesList d p E → FitsChange E author change
    → Keeps keep (entered author change p) → IsSome (changed (kept d keep p) author next change)
changed-kept d keep p E author next change rising whole h fit keeps =
    with-next (IsSome (changed (kept d keep p) author next change)) IsWhole (set_next author next p)
    (set_next-whole author next p whole)
    (λ c is whole'. subst (λ (o : Option PrunedList). IsSome (option_and_then (carry change) o))
    (sym (set_next-kept d keep author next p (author-path keep author change p keeps)
    ∙ ap (λ (o : Option PrunedList). option_map (kept d keep) o) is))
    (carry-kept d keep p c E author next change rising whole h fit keeps is whole'))

-- ---- look-ups

pub author-kept : (d : Digest) (keep : ℕ → Bool) (p : PrunedList) (author : ℕ) (change : ListChange)
    → Keeps keep (entered author change p) → seek (kept d keep p) author ≡ seek p author
author-kept d keep p author change keeps = seek-kept d keep p author (author-path keep author change p keeps)

pub added-kept : (d : Digest) (keep : ℕ → Bool) (p : PrunedList) (author : ℕ) (e : Entry)
    → Keeps keep (entered author (adds e) p) → seek (kept d keep p) e.user ≡ seek p e.user
added-kept d keep p author e keeps =
    seek-kept d keep p e.user (keeps-parts keep (path author p) (path e.user p) keeps).1

pub dropped-kept : (d : Digest) (keep : ℕ → Bool) (p : PrunedList) (author u : ℕ)
    → Keeps keep (entered author (drops u) p) → seek (kept d keep p) u ≡ seek p u
dropped-kept d keep p author u keeps =
    seek-kept d keep p u (keeps-path keep u p (keeps-parts keep (path author p) (removal u p) keeps).1)

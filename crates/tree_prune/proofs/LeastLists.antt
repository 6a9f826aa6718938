-- What is shown of the least list.
use Rattle.std.proofs.Common.{◌≡◌, ◌∙◌, ℕ, List, [], ◌∷◌, Bool, true, false, Some, None, IsSome, Result, Ok, Err, refl, sym, ap, subst, inl, inr, ◌⊎◌}
use Rattle.std.specs.Prelude.{IfOk, nat_eq}
use Rattle.std.specs.List.{AllByRecursion, list_any}
use Rattle.std.proofs.lemmas.Bool.{cases_Bool, eq-eqb}
use Rattle.fr_bytes.specs.declared.refusals.NoMemory.{NoMemory}
use Rattle.fr_digest.specs.Digest.{Digest}
use Rattle.tree_model.specs.declared.entry.Entry.{Entry}
use Rattle.tree_model.specs.AccessList.{FitsChange, IsRising, ListChange, adds, drops, stays, entry_of}
use Rattle.pruned_list.specs.PrunedList.{IsWhole, PrunedList, PrunesDict, changed, found, seek}
use Rattle.pruned_list.specs.Kept.{Keeps, entered, kept}
use Rattle.pruned_list.proofs.Keeping.{kept-prunes}
use Rattle.pruned_list.proofs.Found.{whole-finds}
use Rattle.pruned_list.proofs.Prunings.{whole-same}
use Rattle.pruned_list.proofs.Shown.{added-kept, author-kept, changed-kept, dropped-kept}
use Rattle.dict_proof.specs.declared.pruned_dict.PrunedDict.{PrunedDict}
use Rattle.dict_proof.specs.View.{list_view}
use Rattle.tree_prune.specs.LeastList.{FindsChanged, IsOpen, is_one_of, least_list}

keeps-more : (u : ℕ) (users front : List ℕ) → Keeps (is_one_of users) front → Keeps (is_one_of (u ∷ users)) front
keeps-more u users [] keeps = tt
keeps-more u users (v ∷ front) keeps = elim (cases_Bool (nat_eq u v)) [
  | inl same ↦ (rw same refl, keeps-more u users front keeps.1)
  | inr other ↦ (rw other keeps.0, keeps-more u users front keeps.1)
]

-- the users of a list are among them
pub keeps-own : (users : List ℕ) → Keeps (is_one_of users) users
keeps-own [] = tt
keeps-own (u ∷ users) = (rw (eq-eqb u u refl) refl, keeps-more u users users (keeps-own users))

module _ (d : Digest) where
  -- the least list is that of the one treap
  pub least-same : (author : ℕ) (change : ListChange) (E : List Entry) (root : PrunedList) (result : Result PrunedDict NoMemory)
      → IsWhole root → PrunesDict d root E → IfOk result (λ p. list_view p ≡ least_list d author change root)
      → (t : PrunedList) → IsWhole t → PrunesDict d t E → IfOk result (λ p. list_view p ≡ least_list d author change t)
  least-same author change E root (Ok p) whole prunes is t whole' prunes' =
      is ∙ ap (λ x. least_list d author change x) (whole-same d root t E whole whole' prunes.parts prunes'.parts)
  least-same author change E root (Err e) whole prunes is t whole' prunes' = tt

  pub least-prunes : (author : ℕ) (change : ListChange) (E : List Entry) (root : PrunedList) (result : Result PrunedDict NoMemory)
      → PrunesDict d root E → IfOk result (λ p. list_view p ≡ least_list d author change root)
      → IfOk result (λ p. PrunesDict d (list_view p) E)
  unfolding least_list
  least-prunes author change E root (Ok p) prunes is =
      rw is (record { some = prunes.some; parts = kept-prunes d (is_one_of (entered author change root)) root E prunes.parts })
  least-prunes author change E root (Err e) prunes is = tt

  changed_found : (E : List Entry) (t : PrunedList) (author : ℕ) (change : ListChange) → IsRising E → IsWhole t → PrunesDict d t E
      → FindsChanged (kept d (is_one_of (entered author change t)) t) E change
  changed_found E t author stays rising whole prunes = tt
  changed_found E t author (adds e) rising whole prunes =
      added-kept d (is_one_of (entered author (adds e) t)) t author e (keeps-own (entered author (adds e) t))
      ∙ whole-finds d t E e.user rising whole prunes.parts
  changed_found E t author (drops u) rising whole prunes =
      dropped-kept d (is_one_of (entered author (drops u) t)) t author u (keeps-own (entered author (drops u) t))
      ∙ whole-finds d t E u rising whole prunes.parts

  pub least-open : (author : ℕ) (change : ListChange) (E : List Entry) (root : PrunedList) (result : Result PrunedDict NoMemory)
      → IsRising E → FitsChange E author change → IsWhole root → PrunesDict d root E
      → IfOk result (λ p. list_view p ≡ least_list d author change root)
      → IfOk result (λ p. IsOpen (list_view p) E author change)
  unfolding least_list
  least-open author change E root (Ok p) rising fits whole prunes is =
      let keep = is_one_of (entered author change root) in
      let own = keeps-own (entered author change root) in
      rw is (record {
        author_found = author-kept d keep root author change own ∙ whole-finds d root E author rising whole prunes.parts;
        changed_found = changed_found E root author change rising whole prunes;
        carried = λ next. changed-kept d keep root E author next change rising whole prunes.parts fits own;
      })
  least-open author change E root (Err e) rising fits whole prunes is = tt

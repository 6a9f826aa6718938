-- Which nodes a change enters doesn't depend on the next numbers.
use Rattle.std.proofs.Common.{◌≡◌, ℕ, cond, List, ◌∷◌, Some, refl, ap, sym, ◌∙◌, inl, inr, arith}
use Rattle.std.specs.Prelude.{option_map}
use Rattle.std.proofs.lemmas.Bool.{le-ltb, lt-ltb, cases_order, eq-eqb, ne_eqb}
use Rattle.tree_model.specs.AccessList.{is_above}
use Rattle.pruned_list.specs.PrunedList.{PrunedList, absent, hidden, node, set_next}
use Rattle.pruned_list.specs.Kept.{join_users, path, removal, under_users}
use Rattle.pruned_list.proofs.Options.{map-some}

-- without its next numbers
unfoldable bare : PrunedList → PrunedList
bare absent = absent
bare (hidden x) = hidden x
bare (node e l r) = node (record e { next = 0 }) (bare l) (bare r)

path-bare : (u : ℕ) (p : PrunedList) → path u (bare p) ≡ path u p
unfolding bare path
path-bare u absent = refl
path-bare u (hidden x) = refl
path-bare u (node e l r) = rw (path-bare u l, path-bare u r) refl

under_users-bare : (u : ℕ) (onto onto' : PrunedList → List ℕ) → ((b : PrunedList) → onto (bare b) ≡ onto' b)
    → (b : PrunedList) → under_users u onto (bare b) ≡ under_users u onto' b
unfolding bare under_users
under_users-bare u onto onto' each absent = refl
under_users-bare u onto onto' each (hidden y) = refl
under_users-bare u onto onto' each (node f m q) =
    ap (λ (us : List ℕ). u ∷ (f.user ∷ cond (is_above f.user u) us (onto (bare (node f m q)))))
    (under_users-bare u onto onto' each m)
    ∙ ap (λ (us : List ℕ). u ∷ (f.user ∷ cond (is_above f.user u) (under_users u onto' m) us)) (each (node f m q))

join_users-bare : (a b : PrunedList) → join_users (bare a) (bare b) ≡ join_users a b
unfolding bare join_users
join_users-bare absent b = refl
join_users-bare (hidden x) b = refl
join_users-bare (node e l r) b =
    under_users-bare e.user (join_users (bare r)) (join_users r) (λ c. join_users-bare r c) b

removal-bare : (u : ℕ) (p : PrunedList) → removal u (bare p) ≡ removal u p
unfolding bare removal
removal-bare u absent = refl
removal-bare u (hidden x) = refl
removal-bare u (node e l r) = rw (removal-bare u l, removal-bare u r, join_users-bare l r) refl

set_next-bare : (user next : ℕ) (p c : PrunedList) → set_next user next p ≡ Some c → bare c ≡ bare p
unfolding bare set_next
set_next-bare user next absent c is = let same : absent ≡ c = cc in ap bare (sym same)
set_next-bare user next (hidden x) c is = absurd cc
set_next-bare user next (node e l r) c is = elim (cases_order user e.user) [
  | inl same ↦
      let made : Some (node (record e { next = next }) l r) ≡ Some c = rw (eq-eqb user e.user same) at is in
      let it : node (record e { next = next }) l r ≡ c = cc in
      ap bare (sym it)
  | inr (inl less) ↦
      let made : option_map (λ c. node e c r) (set_next user next l) ≡ Some
      c = rw (ne_eqb user e.user (λ is. omega arith), lt-ltb user e.user less) at is in
      map-some (λ (q : PrunedList). bare q ≡ bare (node e l r)) (λ c. node e c r) (set_next user next l) c made
      (λ part part-is. ap (λ (q : PrunedList). node (record e { next = 0 }) q (bare r))
      (set_next-bare user next l part part-is))
  | inr (inr more) ↦
      let made : option_map (λ c. node e l c) (set_next user next r) ≡ Some
      c = rw (ne_eqb user e.user (λ is. omega arith), le-ltb user e.user (omega arith)) at is in
      map-some (λ (q : PrunedList). bare q ≡ bare (node e l r)) (λ c. node e l c) (set_next user next r) c made
      (λ part part-is. ap (λ (q : PrunedList). node (record e { next = 0 }) (bare l) q)
      (set_next-bare user next r part part-is))
]

-- after a next number was set
pub path-next : (u user next : ℕ) (p c : PrunedList) → set_next user next p ≡ Some c → path u c ≡ path u p
path-next u user next p c is =
    sym (path-bare u c) ∙ ap (path u) (set_next-bare user next p c is) ∙ path-bare u p

pub removal-next : (u user next : ℕ) (p c : PrunedList) → set_next user next p ≡ Some c → removal u c ≡ removal u p
removal-next u user next p c is =
    sym (removal-bare u c) ∙ ap (removal u) (set_next-bare user next p c is) ∙ removal-bare u p

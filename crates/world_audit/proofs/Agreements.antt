-- What it says that comparisons agree.
use Rattle.std.proofs.Common.{◌≡◌, ℕ, zero, suc, ◌+◌, ◌<◌, true, ◌&&◌, List, [], ◌∷◌, ◌++◌, map, take, Option, Some, None, subst, ◌∙◌, arith}
use Rattle.std.specs.Prelude.{nat_lt, slice_get}
use Rattle.std.specs.List.{AllByRecursion, flat_map}
use Rattle.std.proofs.lemmas.Bool.{and_from, cond-true, lt-ltb}
use Rattle.fr_digest.specs.Digest.{Digest}
use Rattle.op_types.specs.declared.op.Leaf.{Leaf}
use Rattle.hist_proof.specs.Pruned.{Prunes, Tree, cut}
use Rattle.hist_proof.specs.View.{tree_view}
use Rattle.pruned_list.specs.PrunedList.{PrunedList, PrunesDict}
use Rattle.wall_law.specs.State.{state_of}
use Rattle.world_book.specs.declared.took.Took.{Took}
use Rattle.world_book.specs.declared.world.World.{World}
use Rattle.world_book.specs.Kept.{lists_of}
use Rattle.world_book.specs.Records.{is_honest}
use Rattle.world_audit.specs.Comparisons.{Agrees, Comparison, base, base_compared, compared, dicts_compared, front_with, owner_of, prev_compared, seen_by, some_in, texts_of, tree, tree_with, view_compared}
use Rattle.world_audit.specs.Story.{prev, record_seen, story}

-- ---- facts of each of a list

all-left : {A : Type 0} (P : A → Type 0) (xs ys : List A) → AllByRecursion P (xs ++ ys) → AllByRecursion P xs
all-left P [] ys all = tt
all-left P (x ∷ xs) ys all = (all.0, all-left P xs ys all.1)

all-right : {A : Type 0} (P : A → Type 0) (xs ys : List A) → AllByRecursion P (xs ++ ys) → AllByRecursion P ys
all-right P [] ys all = all
all-right P (x ∷ xs) ys all = all-right P xs ys all.1

pub all-flat : {A B : Type 0} (P : B → Type 0) (f : A → List B) (xs : List A) (i : ℕ) (x : A)
    → AllByRecursion P (flat_map f xs) → slice_get xs i ≡ Some x → AllByRecursion P (f x)
all-flat P f [] i x all at = absurd cc
all-flat P f (a ∷ xs) zero x all at =
    let same : a ≡ x = cc in subst (λ y. AllByRecursion P (f y)) same (all-left P (f a) (flat_map f xs) all)
all-flat P f (a ∷ xs) (suc i) x all at = all-flat P f xs i x (all-right P (f a) (flat_map f xs) all) at

pub all-some : {A B : Type 0} (P : B → Type 0) (f : A → List B) (o : Option A) (x : A)
    → AllByRecursion P (flat_map f (some_in o)) → o ≡ Some x → AllByRecursion P (f x)
all-some P f None x all e = absurd cc
all-some P f (Some a) x all e = let same : a ≡ x = cc in
    subst (λ y. AllByRecursion P (f y)) same (all-left P (f a) [] all)

one-some : {A B : Type 0} (P : B → Type 0) (f : A → B) (o : Option A) (x : A)
    → AllByRecursion P (map f (some_in o)) → o ≡ Some x → P (f x)
one-some P f None x all e = absurd cc
one-some P f (Some a) x all e = let same : a ≡ x = cc in subst (λ y. P (f y)) same all.0

-- ---- the comparisons of a record

module _ (d : Digest) (w : World) (r : Took) (L : List Leaf) where
  abbrev Agree : List Comparison → Type 0
  Agree cs = AllByRecursion (Agrees d) cs

  abbrev dicts : List Comparison
  dicts = dicts_compared (owner_of w r.wall) L r.from (lists_of r)

  abbrev views : List Comparison
  views = flat_map (view_compared w r L) r.leaves

  pub base-part : Agree (compared w r L) → Agree (base_compared w r)
  unfolding compared
  base-part agree = all-left (Agrees d) (base_compared w r) (prev_compared w r L ++ (dicts ++ views)) agree

  -- What is cut of the tree at the size of the record that it rests on prunes that one's history.
  pub base-agrees : Agree (base_compared w r) → (b : Took) (M : List Leaf) (c : Tree) → base w r ≡ Some b
      → story w b ≡ Some M
      → cut (tree_view r.proof) r.size b.size ≡ Some c → Prunes d c (texts_of M)
  unfolding Agrees
  base-agrees all b M c is history short =
      let one =
      all-some (Agrees d) (λ (x : Took). flat_map (tree_with r x) (some_in (story w x))) (base w r) b all is in
      let two = all-some (Agrees d) (tree_with r b) (story w b) M one history in
      one-some (Agrees d) (λ (x : Tree). tree x (texts_of M)) (cut (tree_view r.proof) r.size b.size) c two short

  -- The history begins with that of the record before.
  pub prev-agrees : Agree (compared w r L) → (p : Took) (M : List Leaf) → prev w r ≡ Some p → story w p ≡ Some M
      → texts_of (take r.have L) ≡ texts_of M
  unfolding compared Agrees
  prev-agrees agree p M is history =
      let rest = all-right (Agrees d) (base_compared w r) (prev_compared w r L ++ (dicts ++ views)) agree in
      let all = all-left (Agrees d) (prev_compared w r L) (dicts ++ views) rest in
      let one =
      all-some (Agrees d) (λ (x : Took). map (front_with L r.have) (some_in (story w x))) (prev w r) p all is in
      one-some (Agrees d) (front_with L r.have) (story w p) M one history

  dict-agrees : (owner k : ℕ) (ps : List PrunedList) → Agree (dicts_compared owner L k ps) → (i : ℕ) (p : PrunedList)
      → slice_get ps i ≡ Some p → PrunesDict d p (state_of owner (take (k + i) L)).entries
  unfolding dicts_compared Agrees
  dict-agrees owner k [] agree i p at = absurd cc
  dict-agrees owner k (q ∷ ps) agree zero p at =
      let same : q ≡ p = cc in
      let e : k ≡ k + 0 = omega arith in
      subst (λ (n : ℕ). PrunesDict d p (state_of owner (take n L)).entries) e
      (subst (λ (x : PrunedList). PrunesDict d x (state_of owner (take k L)).entries) same agree.0)
  dict-agrees owner k (q ∷ ps) agree (suc i) p at =
      let e : k + 1 + i ≡ k + suc i = omega arith in
      subst (λ (n : ℕ). PrunesDict d p (state_of owner (take n L)).entries) e (dict-agrees owner
      (k + 1) ps agree.1 i p at)

  -- Each pruned list prunes the state before its position.
  pub lists-agree : Agree (compared w r L) → (i : ℕ) (p : PrunedList) → slice_get (lists_of r) i ≡ Some p
      → PrunesDict d p (state_of (owner_of w r.wall) (take (r.from + i) L)).entries
  unfolding compared
  lists-agree agree i p at =
      let rest = all-right (Agrees d) (base_compared w r) (prev_compared w r L ++ (dicts ++ views)) agree in
      let all = all-right (Agrees d) (prev_compared w r L) (dicts ++ views) rest in
      dict-agrees (owner_of w r.wall) r.from (lists_of r) (all-left (Agrees d) dicts views all) i p at

  -- The history begins with that of the record whose view an honest author's operation embeds.
  pub view-agrees : Agree (compared w r L) → (i : ℕ) (leaf : Leaf) (s : Took) (M : List Leaf)
      → slice_get r.leaves i ≡ Some leaf
      → is_honest w leaf.op.author ≡ true → 0 < leaf.op.view.size → record_seen w r.wall leaf ≡ Some s
      → story w s ≡ Some M → texts_of (take leaf.op.view.size L) ≡ texts_of M
  unfolding compared Agrees
  view-agrees agree i leaf s M at honest some seen history =
      let rest = all-right (Agrees d) (base_compared w r) (prev_compared w r L ++ (dicts ++ views)) agree in
      let all = all-right (Agrees d) (prev_compared w r L) (dicts ++ views) rest in
      let here = all-flat (Agrees d) (view_compared w r L) r.leaves i leaf (all-right (Agrees d) dicts views all) at in
      let is : seen_by w r.wall leaf ≡ Some s =
      cond-true (is_honest w leaf.op.author && nat_lt 0 leaf.op.view.size) (record_seen w r.wall leaf) None
      (and_from (is_honest w leaf.op.author) (nat_lt 0 leaf.op.view.size) honest (lt-ltb 0 leaf.op.view.size some))
      ∙ seen in
      let one = all-some (Agrees d) (λ (x : Took). map (front_with L leaf.op.view.size) (some_in (story w x)))
      (seen_by w r.wall leaf) s here is in
      one-some (Agrees d) (front_with L leaf.op.view.size) (story w s) M one history

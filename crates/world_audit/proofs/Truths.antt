-- Records that all show one history: their histories are its fronts, and all of their comparisons agree.
use Rattle.std.proofs.Common.{◌≡◌, inl, inr, ℕ, zero, suc, ◌+◌, ◌≤◌, ◌&&◌, List, [], ◌∷◌, ◌++◌, length, map, take, Option, Some, None, refl, ap, sym, subst, ◌∙◌, arith}
use Rattle.std.specs.Prelude.{nat_lt, slice_get}
use Rattle.std.specs.List.{AllByRecursion, flat_map}
use Rattle.std.proofs.lemmas.Bool.{cases_Bool, cond-true, cond-false}
use Rattle.std.proofs.lemmas.List.{length-map, length-take-le, nil_from_length, take-append-drop, take-map, take-take}
use Rattle.std.proofs.lemmas.Option.{slice_get_within}
use Rattle.fr_digest.specs.Digest.{Digest}
use Rattle.op_types.specs.declared.op.Leaf.{Leaf}
use Rattle.op_types.specs.Spelling.{leaf_text}
use Rattle.hist_proof.specs.Pruned.{Prunes, Tree, cut}
use Rattle.hist_proof.specs.View.{tree_view}
use Rattle.hist_proof.proofs.Trees.{prunes-cut}
use Rattle.dict_proof.specs.View.{list_view}
use Rattle.pruned_list.specs.PrunedList.{PrunedList, PrunesDict}
use Rattle.wall_law.specs.State.{state_of}
use Rattle.world_book.specs.declared.took.Took.{Took}
use Rattle.world_book.specs.declared.world.World.{World}
use Rattle.world_book.specs.Kept.{Kept, lists_of}
use Rattle.world_book.specs.Records.{IsIn, is_honest, records_of}
use Rattle.world_book.proofs.Leaves.{count-leaves, facts}
use Rattle.world_audit.specs.Comparisons.{Agrees, base, base_compared, compared, dicts_compared, front_with, owner_of, prev_compared, seen_by, some_in, texts_of, tree, tree_with, view_compared}
use Rattle.world_audit.specs.Story.{prev, record_seen, story}
use Rattle.world_audit.specs.Truth.{ShowsTruth, TellsTruth}
use Rattle.world_audit.proofs.Fronts.{built}
use Rattle.world_audit.proofs.Stories.{Smaller, base-smaller, prev-smaller, seen-smaller}

-- ---- each of a list

all-join : {A : Type 0} (P : A → Type 0) (xs ys : List A) → AllByRecursion P xs → AllByRecursion P ys
    → AllByRecursion P (xs ++ ys)
all-join P [] ys first rest = rest
all-join P (x ∷ xs) ys first rest = (first.0, all-join P xs ys first.1 rest)

flat-all : {A B : Type 0} (P : B → Type 0) (f : A → List B) (xs : List A)
    → ((i : ℕ) (x : A) → slice_get xs i ≡ Some x → AllByRecursion P (f x)) → AllByRecursion P (flat_map f xs)
flat-all P f [] each = tt
flat-all P f (x ∷ xs) each =
    all-join P (f x) (flat_map f xs) (each 0 x refl) (flat-all P f xs (λ i y at. each (suc i) y at))

some-all : {A B : Type 0} (P : B → Type 0) (f : A → List B) (o : Option A)
    → ((x : A) → o ≡ Some x → AllByRecursion P (f x)) → AllByRecursion P (flat_map f (some_in o))
some-all P f None each = tt
some-all P f (Some x) each = all-join P (f x) [] (each x refl) tt

some-one : {A B : Type 0} (P : B → Type 0) (f : A → B) (o : Option A) → ((x : A) → o ≡ Some x → P (f x))
    → AllByRecursion P (map f (some_in o))
some-one P f None each = tt
some-one P f (Some x) each = (each x refl, tt)

module _ (d : Digest) (w : World) (kept : Kept d w) (wall : ℕ) (H : List Leaf) (truth : ShowsTruth d w wall H) where
  -- ---- histories

  fronts : (m : ℕ) (r : Took) (L : List Leaf) → IsIn (records_of w) r → r.size ≤ m → r.wall ≡ wall → story w r ≡ Some L
      → L ≡ take r.size H
  fronts zero r L at few on history = absurd (let later = (facts d w kept r at).accepted.later in omega arith)
  fronts (suc m) r L at few on history =
      let of = built d w kept r L at history in
      let tells = truth r at on in
      let less = (facts d w kept r at).accepted.some in
      let front : of.front ≡ take r.from (take r.size H) = elim of.rests [
        | inl none ↦
            let long = of.long in
            nil_from_length of.front (omega arith)
            ∙ ap (λ (n : ℕ). take n (take r.size H)) (sym none)
        | inr it ↦
            let upon = it.2 in
            let fewer = upon.smaller.fewer in
            let below = fronts m it.0 it.1 upon.smaller.kept (omega arith) (upon.smaller.wall ∙ on) upon.history in
            upon.front_is ∙ ap (take r.from) below ∙ take-take r.from it.0.size H upon.covers
            ∙ sym (take-take r.from r.size H (omega arith))
      ] in
      of.joined ∙ ap (λ (ls : List Leaf). ls ++ r.leaves) front
      ∙ ap (λ (ls : List Leaf). take r.from (take r.size H) ++ ls) tells.leaves
      ∙ take-append-drop r.from (take r.size H)

  -- A record's history is the front that its view covers.
  pub story-front : (r : Took) (L : List Leaf) → IsIn (records_of w) r → r.wall ≡ wall → story w r ≡ Some L
      → L ≡ take r.size H
  story-front r L at on history = fronts r.size r L at (omega arith) on history

  -- ---- comparisons

  module _ (r : Took) (L : List Leaf) (at : IsIn (records_of w) r) (on : r.wall ≡ wall)
      (history : story w r ≡ Some L) where
    tells : TellsTruth d (owner_of w wall) H r
    tells = truth r at on

    short-front : (n : ℕ) → n ≤ r.size → take n L ≡ take n H
    short-front n few = ap (take n) (story-front r L at on history) ∙ take-take n r.size H few

    -- the front that another record's history is
    same-front : (s : Took) (M : List Leaf) → Smaller w r s → story w s ≡ Some M → take s.size L ≡ M
    same-front s M smaller other =
        let fewer = smaller.fewer in
        short-front s.size (omega arith) ∙ sym (story-front s M smaller.kept (smaller.wall ∙ on) other)

    cut-prunes : (b : Took) (M : List Leaf) (c : Tree) → Smaller w r b → story w b ≡ Some M
        → cut (tree_view r.proof) r.size b.size ≡ Some c → Prunes d c (texts_of M)
    cut-prunes b M c smaller other cuts =
        let fewer = smaller.fewer in
        let covered = tells.covered in
        let long : length (texts_of (take r.size H)) ≡ r.size =
        length-map (take r.size H) leaf_text ∙ length-take-le r.size H covered in
        let front = take-map leaf_text b.size (take r.size H)
        ∙ ap texts_of (take-take b.size r.size H (omega arith)
        ∙ sym (story-front b M smaller.kept (smaller.wall ∙ on) other)) in
        subst (Prunes d c) front
        (prunes-cut d (tree_view r.proof) (texts_of (take r.size H)) b.size c tells.proof
        (ap (λ (n : ℕ). cut (tree_view r.proof) n b.size) long ∙ cuts))

    base-true : AllByRecursion (Agrees d) (base_compared w r)
    unfolding Agrees
    base-true = some-all (Agrees d) (λ (x : Took). flat_map (tree_with r x) (some_in (story w x))) (base w r)
        (λ b is. some-all (Agrees d) (tree_with r b) (story w b)
        (λ M other. some-one (Agrees d) (λ (x : Tree). tree x (texts_of M)) (cut (tree_view r.proof) r.size b.size)
        (λ c cuts. cut-prunes b M c (base-smaller d w kept r at b is) other cuts)))

    prev-true : AllByRecursion (Agrees d) (prev_compared w r L)
    unfolding Agrees
    prev-true = some-all (Agrees d) (λ (x : Took). map (front_with L r.have) (some_in (story w x))) (prev w r)
        (λ p is. some-one (Agrees d) (front_with L r.have) (story w p)
        (λ M other.
        let it = prev-smaller d w kept r p at is in
        ap texts_of (ap (λ (n : ℕ). take n L) (sym it.1) ∙ same-front p M it.0 other)))

    dicts-true : (owner k : ℕ) (ps : List PrunedList)
        → ((i : ℕ) (p : PrunedList) → slice_get ps i ≡ Some p → PrunesDict d p (state_of owner (take
        (k + i) L)).entries)
        → AllByRecursion (Agrees d) (dicts_compared owner L k ps)
    unfolding dicts_compared Agrees
    dicts-true owner k [] each = tt
    dicts-true owner k (p ∷ ps) each =
        let here : k + 0 ≡ k = omega arith in (
          subst (λ (n : ℕ). PrunesDict d p (state_of owner (take n L)).entries) here (each 0 p refl),
          dicts-true owner (k + 1) ps (λ i q at.
              let e : k + suc i ≡ k + 1 + i = omega arith in
              subst (λ (n : ℕ). PrunesDict d q (state_of owner (take n L)).entries) e (each (suc i) q at)),
        )

    lists-true : AllByRecursion (Agrees d) (dicts_compared (owner_of w r.wall) L r.from (lists_of r))
    lists-true = dicts-true (owner_of w r.wall) r.from (lists_of r) (λ i p there.
        let within = slice_get_within (lists_of r) i p there in
        let many = length-map r.dicts list_view in
        let lists = (facts d w kept r at).lists in
        let count = count-leaves d w kept r at in
        subst (λ (ls : List Leaf). PrunesDict d p (state_of (owner_of w r.wall) ls).entries)
        (sym (short-front (r.from + i) (omega arith)))
        (subst (λ (n : ℕ). PrunesDict d p (state_of (owner_of w n) (take (r.from + i) H)).entries) (sym on)
        (tells.lists i p there)))

    view-true : (i : ℕ) (l : Leaf) → slice_get r.leaves i ≡ Some l → AllByRecursion (Agrees d) (view_compared w r L l)
    unfolding Agrees
    view-true i l here = some-all (Agrees d) (λ (x : Took). map (front_with L l.op.view.size) (some_in (story w x)))
        (seen_by w r.wall l)
        (λ s is. some-one (Agrees d) (front_with L l.op.view.size) (story w s)
        (λ M other. elim (cases_Bool (is_honest w l.op.author && nat_lt 0 l.op.view.size)) [
          | inl sees ↦
              let found =
              sym (cond-true (is_honest w l.op.author && nat_lt 0 l.op.view.size)
              (record_seen w r.wall l) None sees)
              ∙ is in
              let it = seen-smaller d w kept r s i l at here found in
              ap texts_of (ap (λ (n : ℕ). take n L) (sym it.1) ∙ same-front s M it.0 other)
          | inr not ↦ absurd (let e = sym (cond-false (is_honest w l.op.author && nat_lt 0 l.op.view.size)
              (record_seen w r.wall l) None not) ∙ is in cc)
        ]))

    -- All comparisons of a record agree.
    pub truth-agrees : AllByRecursion (Agrees d) (compared w r L)
    unfolding compared
    truth-agrees = all-join (Agrees d) (base_compared w r)
        (prev_compared w r L ++ (dicts_compared (owner_of w r.wall) L r.from (lists_of r) ++ flat_map
        (view_compared w r L) r.leaves))
        base-true
        (all-join (Agrees d) (prev_compared w r L)
        (dicts_compared (owner_of w r.wall) L r.from (lists_of r) ++ flat_map (view_compared w r L) r.leaves) prev-true
        (all-join (Agrees d) (dicts_compared (owner_of w r.wall) L r.from (lists_of r)) (flat_map
        (view_compared w r L) r.leaves)
        lists-true (flat-all (Agrees d) (view_compared w r L) r.leaves view-true)))

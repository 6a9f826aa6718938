-- Lists of histories that grow.
use Rattle.std.proofs.Common.{◌≡◌, ◌∙◌, ◌⊎◌, inl, inr, ℕ, zero, suc, ◌+◌, ◌<◌, ◌≤◌, List, [], ◌∷◌, ◌++◌, length, take, drop, get_or, Option, Some, None, refl, sym, ap, subst, arith}
use Rattle.std.specs.Prelude.{nat_eq, set, slice_get}
use Rattle.std.proofs.lemmas.Bool.{cases_Bool, eqb-true, eqb-false}
use Rattle.std.proofs.lemmas.List.{append_assoc, append-nil, get_or-set_same, length-append, length-set, take-append-drop, take-append-le, take_all}
use Rattle.std.proofs.lemmas.Option.{slice_get-get_or, slice_get_within}
use Rattle.op_types.specs.declared.op.Leaf.{Leaf}
use Rattle.world_book.specs.declared.world.World.{World}
use Rattle.world_book.proofs.Places.{place-left, place-right}
use Rattle.world_audit.specs.Comparisons.{owner_of}
use Rattle.audit_run.specs.Line.{History}
use Rattle.audit_run.specs.Table.{AreOf, Begins, Grows, Holds}
use Rattle.audit_run.proofs.Owned.{at-place}

pub grows-same : (lines : List History) → Grows lines lines
unfolding Grows
grows-same lines wall i M it = it

pub grows-on : (a b c : List History) → Grows a b → Grows b c → Grows a c
unfolding Grows
grows-on a b c first second wall i M it = second wall i M (first wall i M it)

pub grown-begins : (a b : List History) → Grows a b → (wall i : ℕ) (M : List Leaf) → Begins a wall i M → Begins b wall i M
unfolding Grows
grown-begins a b grows wall i M it = grows wall i M it

pub grown-holds : (a b : List History) → Grows a b → (wall : ℕ) (M : Option (List Leaf)) (o : Option ℕ) → Holds a wall M o
    → Holds b wall M o
unfolding Holds
grown-holds a b grows wall None None it = tt
grown-holds a b grows wall None (Some i) it = absurd it
grown-holds a b grows wall (Some M) None it = absurd it
grown-holds a b grows wall (Some M) (Some i) it = grown-begins a b grows wall i M it

pub begins-within : (lines : List History) (wall i : ℕ) (M : List Leaf) → Begins lines wall i M → i < length lines
begins-within lines wall i M it = slice_get_within lines i it.line it.there

-- a front of what it begins with
pub begins-front : (lines : List History) (wall i n : ℕ) (M : List Leaf) → Begins lines wall i M → Begins lines wall i (take n M)
begins-front lines wall i n M it = record {
  line = it.line;
  there = it.there;
  same_wall = it.same_wall;
  rest = drop n M ++ it.rest;
  leaves = it.leaves ∙ ap (λ ls. ls ++ it.rest) (sym (take-append-drop n M)) ∙ append_assoc (take n M) (drop n M) it.rest;
}

-- ---- one history more

pub grows-push : (lines new : List History) (h : History) → new ≡ lines ++ h ∷ [] → Grows lines new
unfolding Grows
grows-push lines new h is wall i M it = record {
  line = it.line;
  there = ap (λ xs. slice_get xs i) is ∙ place-left lines (h ∷ []) i it.line it.there;
  same_wall = it.same_wall;
  rest = it.rest;
  leaves = it.leaves;
}

last-place : (lines new : List History) (h : History) (n : ℕ) → new ≡ lines ++ h ∷ [] → n ≡ length lines
    → slice_get new n ≡ Some h
last-place lines new h n is end =
    let e : n ≡ length lines + 0 = omega (arith, end) in
    ap (λ xs. slice_get xs n) is ∙ ap (slice_get (lines ++ h ∷ [])) e ∙ place-right lines (h ∷ []) 0

pub begins-push : (lines new : List History) (h : History) (n wall : ℕ) (M : List Leaf) → new ≡ lines ++ h ∷ []
    → n ≡ length lines → h.wall ≡ wall → h.leaves ≡ M → Begins new wall n M
begins-push lines new h n wall M is end on all = record {
  line = h;
  there = last-place lines new h n is end;
  same_wall = on;
  rest = [];
  leaves = all ∙ sym (append-nil M);
}

pub owners-push : (w : World) (lines new : List History) (h : History) → new ≡ lines ++ h ∷ []
    → h.owner ≡ owner_of w h.wall → AreOf w lines → AreOf w new
unfolding AreOf
owners-push w lines new h is own before i line at = by lines i (ap (λ xs. slice_get xs i) (sym is) ∙ at) before
  where
    by : (xs : List History) (j : ℕ) → slice_get (xs ++ h ∷ []) j ≡ Some line
        → ((k : ℕ) (x : History) → slice_get xs k ≡ Some x → x.owner ≡ owner_of w x.wall) → line.owner ≡ owner_of w line.wall
    by [] zero at all = let same : h ≡ line = cc in subst (λ (x : History). x.owner ≡ owner_of w x.wall) same own
    by [] (suc j) at all = absurd cc
    by (x ∷ xs) zero at all = all 0 line at
    by (x ∷ xs) (suc j) at all = by xs j at (λ k y here. all (suc k) y here)

-- what the i-th is
line-is : (lines : List History) (wall i : ℕ) (M : List Leaf) (h : History) → i < length lines → h ≡ get_or lines i h
    → (it : Begins lines wall i M) → it.line ≡ h
line-is lines wall i M h less is it =
    let here = at-place lines i h less is in
    let there = it.there in let same : it.line ≡ h = cc in same

pub branch-begins : (lines new : List History) (i k n : ℕ) (h line pushed : History) (l : Leaf) → i < length lines
    → h ≡ get_or lines i h → line ≡ record h { leaves = take k h.leaves }
    → pushed ≡ record line { leaves = line.leaves ++ l ∷ [] } → new ≡ lines ++ pushed ∷ [] → n ≡ length lines
    → (wall : ℕ) (M : List Leaf) → Begins lines wall i M → length M ≡ k → Begins new wall n (M ++ l ∷ [])
branch-begins lines new i k n h line pushed l less is front more added end wall M it long =
    let same = line-is lines wall i M h less is it in
    let all : h.leaves ≡ M ++ it.rest = ap (λ (x : History). x.leaves) (sym same) ∙ it.leaves in
    let cut : take k h.leaves ≡ M =
    ap (take k) all ∙ take-append-le k M it.rest (omega (arith, long)) ∙ take_all k M (omega (arith, long)) in
    begins-push lines new pushed n wall (M ++ l ∷ []) added end
    (ap (λ (x : History). x.wall) more ∙ ap (λ (x : History). x.wall) front ∙ ap (λ (x : History). x.wall) (sym same)
    ∙ it.same_wall)
    (ap (λ (x : History). x.leaves) more ∙ ap (λ (x : History). x.leaves ++ l ∷ []) front
    ∙ ap (λ (ls : List Leaf). ls ++ l ∷ []) cut)

pub branch-owners : (w : World) (lines new : List History) (i k : ℕ) (h line pushed : History) (l : Leaf)
    → i < length lines → h ≡ get_or lines i h → line ≡ record h { leaves = take k h.leaves }
    → pushed ≡ record line { leaves = line.leaves ++ l ∷ [] } → new ≡ lines ++ pushed ∷ [] → AreOf w lines → AreOf w new
unfolding AreOf
branch-owners w lines new i k h line pushed l less is front more added before =
    let own = before i h (at-place lines i h less is) in
    let same : pushed.owner ≡ h.owner = ap (λ (x : History). x.owner) more ∙ ap (λ (x : History). x.owner) front in
    let wall : pushed.wall ≡ h.wall = ap (λ (x : History). x.wall) more ∙ ap (λ (x : History). x.wall) front in
    owners-push w lines new pushed added (same ∙ own ∙ ap (owner_of w) (sym wall)) before

-- ---- one leaf more

set-same : (lines : List History) (i : ℕ) (h : History) → i < length lines → slice_get (set lines i h) i ≡ Some h
set-same lines i h less =
    let long = length-set lines i h in
    slice_get-get_or (set lines i h) i h (omega arith) ∙ ap Some (get_or-set_same lines i h h less)

set-other : (lines : List History) (i j : ℕ) (h x : History) → (j ≡ i → ⊥) → slice_get lines j ≡ Some x
    → slice_get (set lines i h) j ≡ Some x
set-other [] i j h x other at = absurd cc
set-other (y ∷ ys) zero zero h x other at = absurd (other refl)
set-other (y ∷ ys) zero (suc j) h x other at = at
set-other (y ∷ ys) (suc i) zero h x other at = at
set-other (y ∷ ys) (suc i) (suc j) h x other at = set-other ys i j h x (λ e. other (ap suc e)) at

set-else : (lines : List History) (i j : ℕ) (h x : History) → (j ≡ i → ⊥) → slice_get (set lines i h) j ≡ Some x
    → slice_get lines j ≡ Some x
set-else [] i j h x other at = absurd cc
set-else (y ∷ ys) zero zero h x other at = absurd (other refl)
set-else (y ∷ ys) zero (suc j) h x other at = at
set-else (y ∷ ys) (suc i) zero h x other at = at
set-else (y ∷ ys) (suc i) (suc j) h x other at = set-else ys i j h x (λ e. other (ap suc e)) at

pub eq-or-not : (j i : ℕ) → (j ≡ i) ⊎ (j ≡ i → ⊥)
eq-or-not j i = elim (cases_Bool (nat_eq j i)) [
  | inl is ↦ inl (eqb-true j i is)
  | inr not ↦ inr (eqb-false j i not)
]

pub push-grows : (lines : List History) (i : ℕ) (h pushed : History) (l : Leaf) → i < length lines
    → h ≡ get_or lines i h → pushed ≡ record h { leaves = h.leaves ++ l ∷ [] } → Grows lines (set lines i pushed)
unfolding Grows
push-grows lines i h pushed l less is more wall j M it = elim (eq-or-not j i) [
  | inl here ↦
      let there = ap (slice_get lines) (sym here) ∙ it.there in
      let at = at-place lines i h less is in
      let same : it.line ≡ h = cc in
      record {
        line = pushed;
        there = ap (slice_get (set lines i pushed)) here ∙ set-same lines i pushed less;
        same_wall = ap (λ (x : History). x.wall) more ∙ ap (λ (x : History). x.wall) (sym same) ∙ it.same_wall;
        rest = it.rest ++ l ∷ [];
        leaves = ap (λ (x : History). x.leaves) more
            ∙ ap (λ (ls : List Leaf). ls ++ l ∷ []) (ap (λ (x : History). x.leaves) (sym same) ∙ it.leaves)
            ∙ append_assoc M it.rest (l ∷ []);
      }
  | inr other ↦ record {
    line = it.line;
    there = set-other lines i j pushed it.line other it.there;
    same_wall = it.same_wall;
    rest = it.rest;
    leaves = it.leaves;
  }
]

pub push-begins : (lines : List History) (i k : ℕ) (h pushed : History) (l : Leaf) → i < length lines
    → h ≡ get_or lines i h → pushed ≡ record h { leaves = h.leaves ++ l ∷ [] } → length h.leaves ≡ k
    → (wall : ℕ) (M : List Leaf) → Begins lines wall i M → length M ≡ k
    → Begins (set lines i pushed) wall i (M ++ l ∷ [])
push-begins lines i k h pushed l less is more whole wall M it long =
    let same = line-is lines wall i M h less is it in
    let all : h.leaves ≡ M ++ it.rest = ap (λ (x : History). x.leaves) (sym same) ∙ it.leaves in
    let count = ap length all ∙ length-append M it.rest in
    let none = no-rest it.rest (omega (arith, count, whole, long)) in
    record {
      line = pushed;
      there = set-same lines i pushed less;
      same_wall = ap (λ (x : History). x.wall) more ∙ ap (λ (x : History). x.wall) (sym same) ∙ it.same_wall;
      rest = [];
      leaves = ap (λ (x : History). x.leaves) more
          ∙ ap (λ (ls : List Leaf). ls ++ l ∷ []) (all ∙ ap (λ (ls : List Leaf). M ++ ls) none ∙ append-nil M)
          ∙ sym (append-nil (M ++ l ∷ []));
    }
  where
    no-rest : (xs : List Leaf) → length xs ≡ 0 → xs ≡ []
    no-rest [] e = refl
    no-rest (x ∷ xs) e = absurd (omega (arith, e))

pub push-owners : (w : World) (lines : List History) (i : ℕ) (h pushed : History) (l : Leaf) → i < length lines
    → h ≡ get_or lines i h → pushed ≡ record h { leaves = h.leaves ++ l ∷ [] } → AreOf w lines
    → AreOf w (set lines i pushed)
unfolding AreOf
push-owners w lines i h pushed l less is more before j line at = elim (eq-or-not j i) [
  | inl here ↦
      let there = set-same lines i pushed less in
      let at' = ap (slice_get (set lines i pushed)) (sym here) ∙ at in
      let same : line ≡ pushed = cc in
      let own = before i h (at-place lines i h less is) in
      ap (λ (x : History). x.owner) (same ∙ more) ∙ own ∙ ap (λ (x : History). owner_of w x.wall) (sym (same ∙ more))
  | inr other ↦ before j line (set-else lines i j pushed line other at)
]

-- ---- the leaf that is there

pub next-begins : (lines : List History) (i k : ℕ) (h : History) (x l : Leaf) → i < length lines → h ≡ get_or lines i h
    → slice_get h.leaves k ≡ Some x → x ≡ l → (wall : ℕ) (M : List Leaf) → Begins lines wall i M → length M ≡ k
    → Begins lines wall i (M ++ l ∷ [])
next-begins lines i k h x l less is at alike wall M it long =
    let same = line-is lines wall i M h less is it in
    let all : h.leaves ≡ M ++ it.rest = ap (λ (y : History). y.leaves) (sym same) ∙ it.leaves in
    let here : slice_get (M ++ it.rest) (length M) ≡ Some l =
    ap (slice_get (M ++ it.rest)) long ∙ ap (λ (ls : List Leaf). slice_get ls k) (sym all) ∙ at ∙ ap Some alike in
    record {
      line = it.line;
      there = it.there;
      same_wall = it.same_wall;
      rest = drop 1 it.rest;
      leaves = it.leaves ∙ ap (λ (ls : List Leaf). M ++ ls) (first it.rest (skip M it.rest here))
          ∙ sym (append_assoc M (l ∷ []) (drop 1 it.rest));
    }
  where
    skip : (xs ys : List Leaf) → slice_get (xs ++ ys) (length xs) ≡ Some l → slice_get ys 0 ≡ Some l
    skip [] ys at = at
    skip (y ∷ xs) ys at = skip xs ys at

    first : (ys : List Leaf) → slice_get ys 0 ≡ Some l → ys ≡ l ∷ drop 1 ys
    first [] at = absurd cc
    first (y ∷ ys) at = let same : y ≡ l = cc in ap (λ z. z ∷ ys) same

pub leaf-within : (lines : List History) (i k : ℕ) (h : History) → i < length lines → h ≡ get_or lines i h
    → (wall : ℕ) × ((M : List Leaf) × Begins lines wall i M × (length M ≡ k)) → (length h.leaves ≡ k → ⊥)
    → k < length h.leaves
leaf-within lines i k h less is given other =
    let it = given.1.1 in
    let long = given.1.2 in
    let same = line-is lines given.0 i given.1.0 h less is it in
    let count = ap length (ap (λ (x : History). x.leaves) (sym same) ∙ it.leaves) ∙ length-append given.1.0 it.rest in
    strict (length h.leaves) k (omega (arith, count, long)) other
  where
    strict : (n m : ℕ) → m ≤ n → (n ≡ m → ⊥) → m < n
    strict n m le other = elim (eq-or-not n m) [ inl e ↦ absurd (other e) | inr not ↦ omega (arith, le, not) ]

pub same-at : (lines : List History) (i : ℕ) (h g : History) → i < length lines → h ≡ get_or lines i h
    → g ≡ get_or lines i g → h ≡ g
same-at lines i h g less is also =
    let one = at-place lines i h less is in
    let two = at-place lines i g less also in let same : h ≡ g = cc in same

-- The place of a wall's side.
use Rattle.std.proofs.Common.{◌≡◌, ◌∙◌, ℕ, zero, suc, ◌+◌, ◌<◌, List, [], ◌∷◌, length, map, drop, get_or, set, Some, Bool, true, false, refl, ap, sym, subst, arith, drop-cons, add-one, eq-eqb}
use Rattle.std.specs.Prelude.{if◌then◌else◌, nat_eq, slice_get, slice_set}
use Rattle.std.specs.List.{AllByRecursion}
use Rattle.std.proofs.lemmas.Bool.{eqb-true, ne_eqb}
use Rattle.std.proofs.lemmas.Option.{slice_get_within}
use Rattle.world_book.proofs.Places.{each-of}
use Rattle.client_core.specs.declared.side.Side.{Side}
use Rattle.client_core.specs.Sides.{HasSide, IsSide, SideView, place_of, side_of, side_view, sides_view, with_side}
use Rattle.client_core.proofs.Lists.{all_set}

pub place-here : (wall : ℕ) (sides : List Side) (i : ℕ) (d : Side) → i < length sides
    → nat_eq (get_or sides i d).known.wall wall ≡ true
    → place_of wall (sides_view (drop i sides)) ≡ 0
place-here wall sides i d h is = rw (drop-cons sides i d, is) refl

pub place-on : (wall : ℕ) (sides : List Side) (i : ℕ) (d : Side) → i < length sides
    → nat_eq (get_or sides i d).known.wall wall ≡ false
    → place_of wall (sides_view (drop i sides)) ≡ suc (place_of wall (sides_view (drop (i + 1) sides)))
place-on wall sides i d h other = rw (add-one i, drop-cons sides i d, other) refl

-- what stands at a place
pub get-view : (sides : List Side) (i : ℕ) (d : Side) → i < length sides → slice_get (sides_view sides) i
    ≡ Some (side_view (get_or sides i d))
get-view [] i d h = absurd (omega arith)
get-view (s ∷ sides) zero d h = refl
get-view (s ∷ sides) (suc i) d h = get-view sides i d (omega arith)

pub set-view : (sides : List Side) (i : ℕ) (s : Side) → sides_view (set sides i s)
    ≡ set (sides_view sides) i (side_view s)
set-view [] i s = refl
set-view (x ∷ sides) zero s = refl
set-view (x ∷ sides) (suc i) s = ap (λ (l : List SideView). side_view x ∷ l) (set-view sides i s)

pub set-same : (sides : List Side) (i : ℕ) (s d : Side) → i < length sides → side_view s ≡ side_view (get_or sides i d)
    → sides_view (set sides i s) ≡ sides_view sides
set-same [] i s d h e = refl
set-same (x ∷ sides) zero s d h e = ap (λ (v : SideView). v ∷ sides_view sides) e
set-same (x ∷ sides) (suc i) s d h e = ap (λ (l : List SideView). side_view x ∷ l) (set-same sides i s d
    (omega arith) e)

pub length-view : (sides : List Side) → length (sides_view sides) ≡ length sides
length-view [] = refl
length-view (s ∷ sides) = ap suc (length-view sides)

-- the side that is found is one of the wall
pub found-wall : (wall : ℕ) (sides : List SideView) (s : SideView) → side_of wall sides ≡ Some s → s.known.wall ≡ wall
found-wall wall [] s e = absurd cc
found-wall wall (x ∷ sides) s e = by (nat_eq x.known.wall wall) refl (found-wall wall sides s) e
  where
    by : (b : Bool) → nat_eq x.known.wall wall ≡ b → (side_of wall sides ≡ Some s → s.known.wall ≡ wall)
        → slice_get (x ∷ sides) (if b then 0 else suc (place_of wall sides)) ≡ Some s → s.known.wall ≡ wall
    by true is rest e' = let same : x ≡ s = cc in subst (λ (y : SideView). y.known.wall
        ≡ wall) same (eqb-true x.known.wall wall is)
    by false other rest e' = rest e'

pub has-side : (wall : ℕ) (sides : List SideView) (s : SideView) → side_of wall sides ≡ Some s → HasSide wall sides
has-side wall sides s e = slice_get_within sides (place_of wall sides) s e

-- each side is one
pub side-at : (sides : List Side) (i : ℕ) (d : Side) → AllByRecursion IsSide (sides_view sides)
    → i < length sides → IsSide (side_view (get_or sides i d))
side-at [] i d all h = absurd (omega arith)
side-at (s ∷ sides) zero d all h = all.0
side-at (s ∷ sides) (suc i) d all h = side-at sides i d all.1 (omega arith)

pub sides-set : (sides : List Side) (i : ℕ) (s : Side) → AllByRecursion IsSide (sides_view sides)
    → IsSide (side_view s) → AllByRecursion IsSide (sides_view (set sides i s))
sides-set [] i s all h = tt
sides-set (x ∷ sides) zero s all h = (h, all.1)
sides-set (x ∷ sides) (suc i) s all h = (all.0, sides-set sides i s all.1 h)

-- ---- the sides of several walls, where one of them is put

pub put-found : (w : ℕ) (t : SideView) (sides : List SideView) (s : SideView) → side_of w sides ≡ Some s
    → t.known.wall ≡ w
    → side_of w (with_side w t sides) ≡ Some t
put-found w t [] s e h = absurd cc
put-found w t (x ∷ sides) s e h = by (nat_eq x.known.wall w) refl (λ e'. put-found w t sides s e' h) e
  where
    by : (b : Bool) → nat_eq x.known.wall w ≡ b → (side_of w sides ≡ Some s → side_of w (with_side w t sides) ≡ Some t)
        → slice_get (x ∷ sides) (if b then 0 else suc (place_of w sides)) ≡ Some s
        → side_of w (slice_set (x ∷ sides) (if b then 0 else suc (place_of w sides)) t) ≡ Some t
    by true is rest e' = rw (eq-eqb t.known.wall w h) refl
    by false other rest e' = rw other (rest e')

pub put-other : (w v : ℕ) (t : SideView) (sides : List SideView) → t.known.wall ≡ w → (v ≡ w → ⊥)
    → side_of v (with_side w t sides) ≡ side_of v sides
put-other w v t [] h other = refl
put-other w v t (x ∷ sides) h other = by (nat_eq x.known.wall w) refl (put-other w v t sides h other)
  where
    by-this : (b : Bool) → side_of v (with_side w t sides) ≡ side_of v sides
        → slice_get (x ∷ with_side w t sides) (if b then 0 else suc (place_of v (with_side w t sides)))
        ≡ slice_get (x ∷ sides) (if b then 0 else suc (place_of v sides))
    by-this true rest = refl
    by-this false rest = rest

    by : (b : Bool) → nat_eq x.known.wall w ≡ b → side_of v (with_side w t sides) ≡ side_of v sides
        → side_of v (slice_set (x ∷ sides) (if b then 0 else suc (place_of w sides)) t) ≡ side_of v (x ∷ sides)
    by true is rest =
        let at = eqb-true x.known.wall w is in
        rw (ne_eqb t.known.wall v (λ e. other (sym e ∙ h)), ne_eqb x.known.wall v (λ e. other (sym e ∙ at))) refl
    by false is rest = by-this (nat_eq x.known.wall v) rest

pub put-same : (w : ℕ) (sides : List SideView) (s : SideView) → side_of w sides ≡ Some s → with_side w s sides ≡ sides
put-same w [] s e = refl
put-same w (x ∷ sides) s e = by (nat_eq x.known.wall w) (put-same w sides s) e
  where
    by : (b : Bool) → (side_of w sides ≡ Some s → with_side w s sides ≡ sides)
        → slice_get (x ∷ sides) (if b then 0 else suc (place_of w sides)) ≡ Some s
        → slice_set (x ∷ sides) (if b then 0 else suc (place_of w sides)) s ≡ x ∷ sides
    by true rest e' = let same : s ≡ x = cc in ap (λ (y : SideView). y ∷ sides) same
    by false rest e' = ap (λ (l : List SideView). x ∷ l) (rest e')

-- what the sides have in common stays where the one that is put has it too
pub put-map : {A : Type 0} (f : SideView → A) (w : ℕ) (t : SideView) (sides : List SideView) (s : SideView)
    → side_of w sides ≡ Some s → f t ≡ f s
    → map f (with_side w t sides) ≡ map f sides
put-map f w t [] s e h = refl
put-map f w t (x ∷ sides) s e h = by (nat_eq x.known.wall w) (λ e'. put-map f w t sides s e' h) e
  where
    by : (b : Bool) → (side_of w sides ≡ Some s → map f (with_side w t sides) ≡ map f sides)
        → slice_get (x ∷ sides) (if b then 0 else suc (place_of w sides)) ≡ Some s
        → map f (slice_set (x ∷ sides) (if b then 0 else suc (place_of w sides)) t) ≡ f x ∷ map f sides
    by true rest e' = let same : s ≡ x = cc in ap (λ y. y ∷ map f sides) (h ∙ ap f same)
    by false rest e' = ap (λ l. f x ∷ l) (rest e')

pub each-found : (P : SideView → Type 0) (w : ℕ) (sides : List SideView) (s : SideView) → AllByRecursion P sides
    → side_of w sides ≡ Some s → P s
each-found P w sides s all e = each-of P sides (place_of w sides) s all e

pub each-put : (P : SideView → Type 0) (w : ℕ) (t : SideView) (sides : List SideView) → AllByRecursion P sides
    → P t → AllByRecursion P (with_side w t sides)
each-put P w t sides all h = all_set P sides (place_of w sides) t all h

-- The side at the place of a wall, and the sides with another in its place.
pub record At (wall : ℕ) (sides : List Side) (i : ℕ) (s : Side) : Type 0 where
  pub within : i < length sides
  pub found : side_of wall (sides_view sides) ≡ Some (side_view s)
  pub own : side_of s.known.wall (sides_view sides) ≡ Some (side_view s)
  pub of_wall : s.known.wall ≡ wall
  pub put : (t : Side) → sides_view (set sides i t) ≡ with_side s.known.wall (side_view t) (sides_view sides)
  pub same : (t : Side) → side_view t ≡ side_view s → sides_view (set sides i t) ≡ sides_view sides
  pub is_side : AllByRecursion IsSide (sides_view sides) → IsSide (side_view s)

pub at-place : (wall : ℕ) (sides : List Side) (i : ℕ) (s : Side) → i ≡ place_of wall (sides_view sides)
    → HasSide wall (sides_view sides)
    → s ≡ get_or sides i s → At wall sides i s
at-place wall sides i s e h is =
    let within : i < length sides = let n = length-view sides in let h' : place_of wall
    (sides_view sides) < length (sides_view sides) = h in omega arith in
    let found : side_of wall (sides_view sides) ≡ Some (side_view s) =
    ap (slice_get (sides_view sides)) (sym e) ∙ (get-view sides i s within
    ∙ ap (λ (x : Side). Some (side_view x)) (sym is)) in
    let wall-is = found-wall wall (sides_view sides) (side_view s) found in
    record {
      within = within;
      found = found;
      own = subst (λ (w : ℕ). side_of w (sides_view sides) ≡ Some (side_view s)) (sym wall-is) found;
      of_wall = wall-is;
      put = λ t. set-view sides i t ∙ (ap (λ (k : ℕ). set (sides_view sides) k (side_view t)) (e
          ∙ ap (λ (w : ℕ). place_of w (sides_view sides)) (sym wall-is)));
      same = λ t eq. set-same sides i t s within (eq ∙ ap side_view is);
      is_side = λ all. subst (λ (x : Side). IsSide (side_view x)) (sym is) (side-at sides i s all within);
    }

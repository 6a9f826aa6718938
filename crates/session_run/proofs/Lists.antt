-- Results, and a side in its own place.
use Rattle.std.proofs.Common.{◌≡◌, ℕ, suc, Bool, true, false, List, [], ◌∷◌, Some, Result, Ok, Err, refl, ap, sym}
use Rattle.std.specs.Prelude.{IfOk, OnErr, if◌then◌else◌, nat_eq, slice_get, slice_set}
use Rattle.client_core.specs.Sides.{SideView, place_of, side_of, with_side}

pub ok-both : {A E : Type 0} (P Q R : A → Type 0) (r : Result A E) → IfOk r P → IfOk r Q
    → ((x : A) → P x → Q x → R x) → IfOk r R
ok-both P Q R (Ok x) p q f = f x p q
ok-both P Q R (Err e) p q f = tt

pub ok-more : {A E : Type 0} (P Q : A → Type 0) (r : Result A E) → IfOk r P → ((x : A) → P x → Q x) → IfOk r Q
ok-more P Q (Ok x) p f = f x p
ok-more P Q (Err e) p f = tt

-- A side that is put where it stands leaves the sides.
pub put-same : (w : ℕ) (sides : List SideView) (s : SideView) → side_of w sides ≡ Some s → with_side w s sides ≡ sides
put-same w [] s e = refl
put-same w (x ∷ sides) s e = by (nat_eq x.known.wall w) (put-same w sides s) e
  where
    by : (b : Bool) → (side_of w sides ≡ Some s → with_side w s sides ≡ sides)
        → slice_get (x ∷ sides) (if b then 0 else suc (place_of w sides)) ≡ Some s
        → slice_set (x ∷ sides) (if b then 0 else suc (place_of w sides)) s ≡ x ∷ sides
    by true rest e' = let same : x ≡ s = cc in ap (λ (y : SideView). y ∷ sides) (sym same)
    by false rest e' = ap (λ (l : List SideView). x ∷ l) (rest e')

pub err-so : {A E : Type 0} (P : Type 0) (r : Result A E) → P → OnErr r P
err-so P (Ok x) p = tt
err-so P (Err e) p = p

-- A list whose values are made into those of another, one after the other.
use Rattle.std.proofs.Common.{◌≡◌, ◌∙◌, List, [], ◌∷◌, ◌++◌, length, map, refl, ap, sym, append_assoc, append-nil}
use Rattle.std.specs.List.{All}
use Rattle.std.proofs.lemmas.List.{map-append}
use Rattle.std.proofs.lemmas.List.Elements.{All-from_recursion, recursion_from_All}
use Rattle.fr_bytes.proofs.Lists.{each-append}

pub map-map : {A B C : Type 0} (f : B → C) (g : A → B) (xs : List A) → map f (map g xs) ≡ map (λ (x : A). f (g x)) xs
map-map f g [] = refl
map-map f g (x ∷ xs) = ap (λ ys. f (g x) ∷ ys) (map-map f g xs)

pub map-same : {A : Type 0} (f : A → A) → ((x : A) → f x ≡ x) → (xs : List A) → map f xs ≡ xs
map-same f same [] = refl
map-same f same (x ∷ xs) = ap (λ (y : _). y ∷ map f xs) (same x) ∙ ap (λ ys. x ∷ ys) (map-same f same xs)

-- one more is made
pub one-more : {A B C : Type 0} (v : A → C) (f : B → C) (made : List A) (h : A) (rest rest' : List B) (x : B)
    (all : List C) → map v made ++ map f rest ≡ all → rest ≡ x ∷ rest' → v h ≡ f x
    → map v (made ++ h ∷ []) ++ map f rest' ≡ all
one-more v f made h rest rest' x all done steps same =
    ap (λ ys. ys ++ map f rest') (map-append v made (h ∷ []) ∙ ap (λ y. map v made ++ y ∷ []) same)
    ∙ append_assoc (map v made) (f x ∷ []) (map f rest')
    ∙ ap (λ r. map v made ++ map f r) (sym steps)
    ∙ done

-- none is left
pub all-done : {B C : Type 0} (f : B → C) (rest : List B) (made all : List C) → made ++ map f rest ≡ all
    → length rest ≡ 0 → made ≡ all
all-done f [] made all done none = sym (append-nil made) ∙ done
all-done f (x ∷ rest) made all done none = absurd cc

pub each-more : {A : Type 0} (P : A → Type 0) (xs : List A) (x : A) → All P xs → P x → All P (xs ++ x ∷ [])
each-more P xs x all here =
    All-from_recursion P (xs ++ x ∷ []) (each-append P xs (x ∷ []) (recursion_from_All P xs all) (here, tt))

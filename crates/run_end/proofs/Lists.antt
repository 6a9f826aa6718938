-- A list that is gone through by its values.
use Rattle.std.proofs.Common.{◌≡◌, ◌∙◌, ℕ, List, [], ◌∷◌, ◌++◌, length, map, refl, ap, sym, append_assoc, append-nil}
use Rattle.std.specs.List.{AllByRecursion}
use Rattle.std.proofs.lemmas.List.{map-append}
use Rattle.fr_bytes.proofs.Lists.{each-append}

-- one more of what is given
pub next-of : {A : Type 0} (yielded rest rest' given : List A) (x : A) → yielded ++ rest ≡ given → rest ≡ x ∷ rest'
    → (yielded ++ x ∷ []) ++ rest' ≡ given
next-of yielded rest rest' given x split step =
    append_assoc yielded (x ∷ []) rest' ∙ ap (λ xs. yielded ++ xs) (sym step) ∙ split

pub map-next : {A B : Type 0} (f : A → B) (xs : List A) (x : A) (ys : List B) → ys ≡ map f xs
    → ys ++ f x ∷ [] ≡ map f (xs ++ x ∷ [])
map-next f xs x ys e = ap (λ zs. zs ++ f x ∷ []) e ∙ sym (map-append f xs (x ∷ []))

pub each-next : {A : Type 0} (P : A → Type 0) (xs : List A) (x : A) → AllByRecursion P xs → P x
    → AllByRecursion P (xs ++ x ∷ [])
each-next P xs x all here = each-append P xs (x ∷ []) all (here, tt)

none-left : {A : Type 0} (xs : List A) → length xs ≡ 0 → xs ≡ []
none-left [] e = refl
none-left (x ∷ xs) e = absurd cc

-- all of what is given
pub all-of : {A : Type 0} (yielded rest given all : List A) → yielded ++ rest ≡ given → given ≡ all → length rest ≡ 0
    → yielded ≡ all
all-of yielded rest given all split is none =
    sym (append-nil yielded) ∙ ap (λ xs. yielded ++ xs) (sym (none-left rest none)) ∙ split ∙ is

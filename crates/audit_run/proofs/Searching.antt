-- Searches through a list, element after element, for the first of what the elements hold.
use Rattle.std.proofs.Common.{◌≡◌, ◌∙◌, ℕ, ◌+◌, ◌<◌, ◌≤◌, true, false, List, [], ◌∷◌, ◌++◌, length, drop, get_or, Option, Some, None, refl, sym, ap, subst}
use Rattle.std.specs.Prelude.{is_some}
use Rattle.std.specs.List.{flat_map}
use Rattle.std.specs.Option.{option_map}
use Rattle.std.proofs.lemmas.List.{drop_more, drop_all}
use Rattle.std.proofs.lemmas.List.Concat.{flat_map-cons}

pub next-is : {X : Type 0} (all : List X) (i : ℕ) (x : X) → i < length all → x ≡ get_or all i x
    → drop i all ≡ x ∷ drop (i + 1) all
next-is {X = X} all i x lt e = drop_more all i x lt ∙ ap (λ (y : X). y ∷ drop (i + 1) all) (sym e)

pub some-map : {A B : Type 0} (g : A → B) (o : Option A) → is_some (option_map g o) ≡ is_some o
some-map g None = refl
some-map g (Some x) = refl

-- What is found in nothing, in lists of which the first has none, and in the first.
pub record Search {A B : Type 0} (J : List A → Option B → Type 0) : Type 0 where
  pub none : J [] None
  pub on : (xs ys : List A) (o : Option B) → J xs None → J ys o → J (xs ++ ys) o
  pub stop : (xs ys : List A) (b : B) → J xs (Some b) → J (xs ++ ys) (Some b)

-- What is found in the rest is what is found in all of them.
abbrev pub Rest : {A B X : Type 0} → (List A → Option B → Type 0) → (X → List A) → List X → List X → Type 0
Rest {B = B} J f rest all = (o : Option B) → J (flat_map f rest) o → J (flat_map f all) o

module _ {A B X : Type 0} (J : List A → Option B → Type 0) (s : Search J) (f : X → List A) where
  pub none-where : (xs : List A) (o : Option B) → is_some o ≡ false → J xs o → J xs None
  none-where xs None absent found = found
  none-where xs (Some b) absent found = absurd cc

  pub on-or-stop : (xs ys : List A) (o : Option B) → is_some o ≡ true → J xs o → J (xs ++ ys) o
  on-or-stop xs ys None there found = absurd cc
  on-or-stop xs ys (Some b) there found = s.stop xs ys b found

  here : (all : List X) (i : ℕ) (x : X) → i < length all → x ≡ get_or all i x
      → f x ++ flat_map f (drop (i + 1) all) ≡ flat_map f (drop i all)
  here all i x lt e = sym (ap (flat_map f) (next-is all i x lt e) ∙ flat_map-cons f x (drop (i + 1) all))

  pub goes-on : (all : List X) (i : ℕ) (x : X) (o : Option B) → i < length all → x ≡ get_or all i x
      → Rest J f (drop i all) all → J (f x) o → is_some o ≡ false → Rest J f (drop (i + 1) all) all
  goes-on all i x o lt e rest found absent after later =
      rest after (subst (λ (ys : List A). J ys after) (here all i x lt e)
      (s.on (f x) (flat_map f (drop (i + 1) all)) after (none-where (f x) o absent found) later))

  pub stops : (all : List X) (i : ℕ) (x : X) (o : Option B) → i < length all → x ≡ get_or all i x
      → Rest J f (drop i all) all → J (f x) o → is_some o ≡ true → J (flat_map f all) o
  stops all i x o lt e rest found there =
      rest o (subst (λ (ys : List A). J ys o) (here all i x lt e)
      (on-or-stop (f x) (flat_map f (drop (i + 1) all)) o there found))

  pub is-over : (all : List X) (i : ℕ) → length all ≤ i → Rest J f (drop i all) all → J (flat_map f all) None
  is-over all i le rest = rest None (subst (λ (xs : List X). J (flat_map f xs) None) (sym (drop_all i all le)) s.none)

  pub begins : (all : List X) → Rest J f (drop 0 all) all
  begins all o found = found

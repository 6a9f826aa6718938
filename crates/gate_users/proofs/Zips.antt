-- What holds place by place of two lists.
use Rattle.std.proofs.Common.{◌≡◌, ℕ, zero, suc, ◌+◌, ◌<◌, List, [], ◌∷◌, ◌++◌, length, get_or, set, take, arith}
use Rattle.std.specs.List.{AllZip}
use Rattle.std.proofs.lemmas.List.{length_push, take_more, take_more_set}
use Rattle.std.proofs.lemmas.Slice.Zip.{AllZip-long}

module _ {X : Type 0} where
  pub some_at : (xs : List X) (i : ℕ) → i < length xs → X
  some_at [] i lt = absurd (omega arith)
  some_at (x ∷ xs) i lt = x

  pub zip_itself : (R : X → X → Type 0) → ((x : X) → R x x) → (xs : List X) → AllZip R xs xs
  zip_itself R same [] = tt
  zip_itself R same (x ∷ xs) = (same x, zip_itself R same xs)

module _ {A B : Type 0} (R : A → B → Type 0) where
  pub zip_weaker : (S : A → B → Type 0) → ((a : A) (b : B) → R a b → S a b)
      → (xs : List A) (ys : List B) → AllZip R xs ys → AllZip S xs ys
  zip_weaker S gives [] [] zip = tt
  zip_weaker S gives [] (y ∷ ys) zip = absurd zip
  zip_weaker S gives (x ∷ xs) [] zip = absurd zip
  zip_weaker S gives (x ∷ xs) (y ∷ ys) zip = (gives x y zip.0, zip_weaker S gives xs ys zip.1)

  pub zip_push : (xs : List A) (ys : List B) (x : A) (y : B) → AllZip R xs ys → R x y
      → AllZip R (xs ++ x ∷ []) (ys ++ y ∷ [])
  zip_push [] [] x y zip one = (one, tt)
  zip_push [] (b ∷ ys) x y zip one = absurd zip
  zip_push (a ∷ xs) [] x y zip one = absurd zip
  zip_push (a ∷ xs) (b ∷ ys) x y zip one = (zip.0, zip_push xs ys x y zip.1 one)

  pub zip_pop : (xs : List A) (ys : List B) (x : A) (y : B) → AllZip R (xs ++ x ∷ []) (ys ++ y ∷ [])
      → AllZip R xs ys × R x y
  zip_pop [] [] x y zip = (tt, zip.0)
  zip_pop [] (b ∷ ys) x y zip =
      absurd (omega (arith, length_push ys y, AllZip-long R [] (ys ++ y ∷ []) zip.1))
  zip_pop (a ∷ xs) [] x y zip =
      absurd (omega (arith, length_push xs x, AllZip-long R (xs ++ x ∷ []) [] zip.1))
  zip_pop (a ∷ xs) (b ∷ ys) x y zip = let rest = zip_pop xs ys x y zip.1 in ((zip.0, rest.0), rest.1)

  -- at a place
  pub zip_at : (xs : List A) (ys : List B) (i : ℕ) (d : A) (e : B) → AllZip R xs ys → i < length xs
      → R (get_or xs i d) (get_or ys i e)
  zip_at [] ys i d e zip lt = absurd (omega arith)
  zip_at (x ∷ xs) [] i d e zip lt = absurd zip
  zip_at (x ∷ xs) (y ∷ ys) zero d e zip lt = zip.0
  zip_at (x ∷ xs) (y ∷ ys) (suc i) d e zip lt = zip_at xs ys i d e zip.1 (omega arith)

  pub zip_from_places : (xs : List A) (ys : List B) → length ys ≡ length xs
      → ((i : ℕ) (d : A) (e : B) → i < length xs → R (get_or xs i d) (get_or ys i e)) → AllZip R xs ys
  zip_from_places [] [] many each = tt
  zip_from_places [] (y ∷ ys) many each = absurd (omega arith)
  zip_from_places (x ∷ xs) [] many each = absurd (omega arith)
  zip_from_places (x ∷ xs) (y ∷ ys) many each =
      (each zero x y (omega arith), zip_from_places xs ys (omega arith) (λ i d e lt. each (suc i) d e (omega arith)))

  -- another element at a place of the second list
  pub zip_set : (xs : List A) (ys : List B) (i : ℕ) (y : B) → AllZip R xs ys
      → ((d : A) → i < length xs → R (get_or xs i d) y) → AllZip R xs (set ys i y)
  zip_set [] [] i y zip one = tt
  zip_set [] (b ∷ ys) i y zip one = absurd zip
  zip_set (a ∷ xs) [] i y zip one = absurd zip
  zip_set (a ∷ xs) (b ∷ ys) zero y zip one = (one a (omega arith), zip.1)
  zip_set (a ∷ xs) (b ∷ ys) (suc i) y zip one =
      (zip.0, zip_set xs ys i y zip.1 (λ d lt. one d (omega arith)))

  -- one place more
  pub zip_more_set : (xs : List A) (ys : List B) (i : ℕ) (y : B) (d : A) → i < length xs → i < length ys
      → AllZip R (take i xs) (take i ys) → R (get_or xs i d) y
      → AllZip R (take (i + 1) xs) (take (i + 1) (set ys i y))
  zip_more_set xs ys i y d ltx lty zip one = rw (take_more xs i d ltx, take_more_set ys i y lty)
      (zip_push (take i xs) (take i ys) (get_or xs i d) y zip one)

-- from one list to the next, and on
pub zip_then : {A B C : Type 0} (R : A → B → Type 0) (S : B → C → Type 0) (Q : A → C → Type 0)
    → ((a : A) (b : B) (c : C) → R a b → S b c → Q a c)
    → (xs : List A) (ys : List B) (zs : List C) → AllZip R xs ys → AllZip S ys zs → AllZip Q xs zs
zip_then R S Q on [] [] [] p q = tt
zip_then R S Q on [] [] (z ∷ zs) p q = absurd q
zip_then R S Q on [] (y ∷ ys) zs p q = absurd p
zip_then R S Q on (x ∷ xs) [] zs p q = absurd p
zip_then R S Q on (x ∷ xs) (y ∷ ys) [] p q = absurd q
zip_then R S Q on (x ∷ xs) (y ∷ ys) (z ∷ zs) p q = (on x y z p.0 q.0, zip_then R S Q on xs ys zs p.1 q.1)

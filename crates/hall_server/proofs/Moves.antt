-- The users' seats go to a meeting, and come back.
use Rattle.std.proofs.Common.{◌≡◌, ◌∙◌, ℕ, zero, suc, ◌<◌, List, [], ◌∷◌, length, get_or, set, refl, ap, arith}
use Rattle.hall_server.specs.declared.seats.Seats.{Seats}
use Rattle.hall_server.specs.Moves.{Places, places_first, places_of, seated, seated_first}

module _ {D : Type 0} where
  pub length-seated_first : (i : ℕ) (old : List (Seats D)) (ps : List (Places D)) → length ps ≡ length old
      → length (seated_first i old ps) ≡ length old
  length-seated_first zero old ps many = refl
  length-seated_first (suc i) [] ps many = refl
  length-seated_first (suc i) (x ∷ old) [] many = refl
  length-seated_first (suc i) (x ∷ old) (p ∷ ps) many = ap suc (length-seated_first i old ps (omega arith))

  pub length-places_first : (i : ℕ) (old : List (Seats D)) (ps : List (Places D)) → length ps ≡ length old
      → length (places_first i old ps) ≡ length ps
  length-places_first zero old ps many = refl
  length-places_first (suc i) [] ps many = refl
  length-places_first (suc i) (x ∷ old) [] many = refl
  length-places_first (suc i) (x ∷ old) (p ∷ ps) many = ap suc (length-places_first i old ps (omega arith))

  abbrev with_places : Seats D → Places D → Seats D
  with_places user places = record user { places = places }

  -- one place more
  pub seated_more : (i : ℕ) (old : List (Seats D)) (ps : List (Places D)) (u : Seats D) (p : Places D)
      → length ps ≡ length old → i < length old → u ≡ get_or (seated_first i old ps) i u
      → p ≡ get_or (places_first i old ps) i p
      → set (seated_first i old ps) i (record u { places = p }) ≡ seated_first (suc i) old ps
  seated_more i [] ps u p many below at at' = absurd (omega arith)
  seated_more i (x ∷ old) [] u p many below at at' = absurd (omega arith)
  seated_more zero (x ∷ old) (q ∷ ps) u p many below at at' =
      ap (λ (w : Seats D). with_places w p ∷ old) at ∙ ap (λ (r : Places D). with_places x r ∷ old) at'
  seated_more (suc i) (x ∷ old) (q ∷ ps) u p many below at at' =
      ap (λ us. with_places x q ∷ us) (seated_more i old ps u p (omega arith) (omega arith) at at')

  pub places_more : (i : ℕ) (old : List (Seats D)) (ps : List (Places D)) (u : Seats D)
      → length ps ≡ length old → i < length old → u ≡ get_or (seated_first i old ps) i u
      → set (places_first i old ps) i u.places ≡ places_first (suc i) old ps
  places_more i [] ps u many below at = absurd (omega arith)
  places_more i (x ∷ old) [] u many below at = absurd (omega arith)
  places_more zero (x ∷ old) (q ∷ ps) u many below at = ap (λ (w : Seats D). w.places ∷ ps) at
  places_more (suc i) (x ∷ old) (q ∷ ps) u many below at =
      ap (λ rs. x.places ∷ rs) (places_more i old ps u (omega arith) (omega arith) at)

  -- at the end
  pub seated_all : (n : ℕ) (old : List (Seats D)) (ps : List (Places D)) → length ps ≡ length old → n ≡ length old
      → seated_first n old ps ≡ seated old ps
  seated_all zero [] ps many all = refl
  seated_all zero (x ∷ old) ps many all = absurd (omega arith)
  seated_all (suc n) [] ps many all = absurd (omega arith)
  seated_all (suc n) (x ∷ old) [] many all = absurd (omega arith)
  seated_all (suc n) (x ∷ old) (p ∷ ps) many all =
      ap (λ us. with_places x p ∷ us) (seated_all n old ps (omega arith) (omega arith))

  pub places_all : (n : ℕ) (old : List (Seats D)) (ps : List (Places D)) → length ps ≡ length old → n ≡ length old
      → places_first n old ps ≡ places_of old
  places_all zero [] [] many all = refl
  places_all zero [] (p ∷ ps) many all = absurd (omega arith)
  places_all zero (x ∷ old) ps many all = absurd (omega arith)
  places_all (suc n) [] ps many all = absurd (omega arith)
  places_all (suc n) (x ∷ old) [] many all = absurd (omega arith)
  places_all (suc n) (x ∷ old) (p ∷ ps) many all =
      ap (λ rs. x.places ∷ rs) (places_all n old ps (omega arith) (omega arith))

  -- seated twice is seated the second time
  pub seated_twice : (old : List (Seats D)) (ps qs : List (Places D)) → length ps ≡ length old → length qs ≡ length old
      → seated (seated old ps) qs ≡ seated old qs
  seated_twice [] ps qs many many' = refl
  seated_twice (x ∷ old) [] qs many many' = absurd (omega arith)
  seated_twice (x ∷ old) (p ∷ ps) [] many many' = absurd (omega arith)
  seated_twice (x ∷ old) (p ∷ ps) (q ∷ qs) many many' =
      ap (λ us. with_places x q ∷ us) (seated_twice old ps qs (omega arith) (omega arith))

  pub length-seated : (old : List (Seats D)) (ps : List (Places D)) → length ps ≡ length old
      → length (seated old ps) ≡ length old
  length-seated [] ps many = refl
  length-seated (x ∷ old) [] many = absurd (omega arith)
  length-seated (x ∷ old) (p ∷ ps) many = ap suc (length-seated old ps (omega arith))

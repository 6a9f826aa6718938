-- Two values that were taken off the end of a list.
use Rattle.std.proofs.Common.{◌≡◌, ◌∙◌, ℕ, List, [], ◌∷◌, ◌++◌, length, map, ap, sym, slice_index_or, arith}
use Rattle.std.proofs.lemmas.List.{length-append, length-map}

module _ {S : Type 0} (f : S → ℕ) (a b : S) where
  two : (rest : List S) → map f ((rest ++ a ∷ []) ++ b ∷ []) ≡ 1 ∷ 2 ∷ [] → (f a ≡ 1) × (f b ≡ 2)
  two [] e = (ap (λ (ns : List ℕ). slice_index_or ns 0 0) e, ap (λ (ns : List ℕ). slice_index_or ns 1 0) e)
  two (x ∷ xs) e =
      absurd (omega (arith, ap length e, length-map (((x ∷ xs) ++ a ∷ []) ++ b ∷ []) f, length-append ((x ∷ xs) ++ a ∷ []) (b ∷ []), length-append (x ∷ xs) (a ∷ [])))

  -- what their numbers are, where those of the list are 1 and 2
  pub numbers : (all mid rest : List S) → all ≡ mid ++ b ∷ [] → mid ≡ rest ++ a ∷ [] → map f all ≡ 1 ∷ 2 ∷ []
      → (f a ≡ 1) × (f b ≡ 2)
  numbers all mid rest last first e =
      two rest (sym (ap (map f) (last ∙ ap (λ (xs : List S). xs ++ b ∷ []) first)) ∙ e)

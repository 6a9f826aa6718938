-- Entries by their places, counted from the oldest.
use Rattle.std.proofs.Common.{◌≡◌, ◌∙◌, ℕ, ◌+◌, ◌≤◌, List, [], ◌∷◌, ◌++◌, length, Some, None, refl, sym, ap, append_assoc, arith, length-append}
use Rattle.std.specs.Prelude.{slice_get}
use Rattle.std.proofs.lemmas.Option.{slice_get_past}
use Rattle.fr_bytes.specs.History.{Begins}

module _ {E : Type 0} where
  -- a front without its newest entry is a front
  pub earlier : (front all before : List E) (e : E) → Begins front all → front ≡ before ++ e ∷ [] → Begins before all
  earlier front all before e begins parts = record {
    more = e ∷ begins.more;
    whole = begins.whole ∙ ap (λ (xs : List E). xs ++ begins.more) parts ∙ append_assoc before (e ∷ []) begins.more;
  }

  pub shorter : (front before : List E) (e : E) → front ≡ before ++ e ∷ [] → length front ≡ length before + 1
  shorter front before e parts = ap length parts ∙ length-append before (e ∷ [])

  at_seam : (before : List E) (e : E) (later : List E) → slice_get (before ++ e ∷ later) (length before) ≡ Some e
  at_seam [] e later = refl
  at_seam (x ∷ before) e later = at_seam before e later

  -- the newest entry of a front stands behind the others of the front
  pub newest : (front all before : List E) (e : E) → Begins front all → front ≡ before ++ e ∷ []
      → slice_get all (length before) ≡ Some e
  unfolding earlier
  newest front all before e begins parts =
      ap (λ (xs : List E). slice_get xs (length before)) (earlier front all before e begins parts).whole
      ∙ at_seam before e begins.more

  -- behind a front that has all entries there is nothing
  pub past : (front all : List E) (i k : ℕ) → Begins front all → front ≡ [] → length front + k ≡ length all → k ≤ i
      → None ≡ slice_get all i
  past front all i k begins empty behind low =
      let none : length front ≡ 0 = ap length empty in
      sym (slice_get_past all i (omega arith))

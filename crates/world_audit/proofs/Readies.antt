-- Lists of comparisons of which each is ready where those before it agree.
use Rattle.std.proofs.Common.{◌≡◌, ℕ, zero, suc, ◌<◌, List, [], ◌∷◌, ◌++◌, map, Option, Some, None, refl, subst, arith}
use Rattle.std.specs.Prelude.{slice_get}
use Rattle.std.specs.List.{AllByRecursion, flat_map}
use Rattle.fr_digest.specs.Digest.{Digest}
use Rattle.world_audit.specs.Comparisons.{Agrees, Comparison, some_in}
use Rattle.world_audit.specs.Ready.{AreReady, IsReady}

module _ (d : Digest) where
  pub ready-join : (xs ys : List Comparison) → AreReady d xs → (AllByRecursion (Agrees d) xs → AreReady d ys)
      → AreReady d (xs ++ ys)
  unfolding AreReady
  ready-join [] ys first rest = rest tt
  ready-join (x ∷ xs) ys first rest =
      (first.0, λ agrees. ready-join xs ys (first.1 agrees) (λ all. rest (agrees, all)))

  pub none-ready : AreReady d []
  unfolding AreReady
  none-ready = tt

  pub one-ready : (c : Comparison) → IsReady d c → AreReady d (c ∷ [])
  unfolding AreReady
  one-ready c ready = (ready, λ agrees. tt)

  before-more : {A : Type 0} (f : A → List Comparison) (x : A) (xs : List A) (i : ℕ) → AllByRecursion (Agrees d) (f x)
      → ((j : ℕ) (y : A) → j < i → slice_get xs j ≡ Some y → AllByRecursion (Agrees d) (f y))
      → (j : ℕ) (y : A) → j < suc i → slice_get (x ∷ xs) j ≡ Some y → AllByRecursion (Agrees d) (f y)
  before-more f x xs i here before zero y less at =
      let same : x ≡ y = cc in subst (λ z. AllByRecursion (Agrees d) (f z)) same here
  before-more f x xs i here before (suc j) y less at = before j y (omega arith) at

  pub ready-flat : {A : Type 0} (f : A → List Comparison) (xs : List A)
      → ((i : ℕ) (x : A) → slice_get xs i ≡ Some x
      → ((j : ℕ) (y : A) → j < i → slice_get xs j ≡ Some y → AllByRecursion (Agrees d) (f y)) → AreReady d (f x))
      → AreReady d (flat_map f xs)
  ready-flat f [] each = none-ready
  ready-flat f (x ∷ xs) each =
      ready-join (f x) (flat_map f xs) (each 0 x refl (λ j y less at. absurd (omega arith)))
      (λ here. ready-flat f xs (λ i y at before. each (suc i) y at (before-more f x xs i here before)))

  pub ready-some : {A : Type 0} (f : A → List Comparison) (o : Option A) → ((x : A) → o ≡ Some x → AreReady d (f x))
      → AreReady d (flat_map f (some_in o))
  ready-some f None each = none-ready
  ready-some f (Some x) each = ready-join (f x) [] (each x refl) (λ all. none-ready)

  pub ready-one : {A : Type 0} (f : A → Comparison) (o : Option A) → ((x : A) → o ≡ Some x → IsReady d (f x))
      → AreReady d (map f (some_in o))
  ready-one f None each = none-ready
  ready-one f (Some x) each = one-ready (f x) (each x refl)

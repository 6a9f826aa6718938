-- What is made of a value that may be absent.
use Rattle.std.proofs.Common.{◌≡◌, Option, Some, None, IsSome, refl, subst}
use Rattle.std.specs.Prelude.{option_map, option_and_then}

-- what holds of each image holds of an image
pub map-some : {A B : Type 0} (P : B → Type 0) (f : A → B) (o : Option A) (y : B) → option_map f o ≡ Some y
    → ((x : A) → o ≡ Some x → P (f x)) → P y
map-some P f None y e each = absurd cc
map-some P f (Some x) y e each = let same : f x ≡ y = cc in subst P same (each x refl)

pub then-some : {A B : Type 0} (P : Type 0) (f : A → Option B) (o : Option A) (y : B) → option_and_then f o ≡ Some y
    → ((x : A) → o ≡ Some x → f x ≡ Some y → P) → P
then-some P f None y e each = absurd cc
then-some P f (Some x) y e each = each x refl e

pub is_some-map : {A B : Type 0} (f : A → B) (o : Option A) → IsSome o → IsSome (option_map f o)
is_some-map f None some = absurd cc
is_some-map f (Some x) some = refl

pub is_some-mapped : {A B : Type 0} (f : A → B) (o : Option A) → IsSome (option_map f o) → IsSome o
is_some-mapped f None some = absurd cc
is_some-mapped f (Some x) some = refl

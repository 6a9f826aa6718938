-- Lists to which one element is added.
use Rattle.std.proofs.Common.{◌≡◌, ℕ, Bool, true, false, List, [], ◌∷◌, ◌++◌, length, refl, arith}
use Rattle.std.specs.Prelude.{◌||◌}
use Rattle.std.specs.List.{All, AllByRecursion, IsDistinct, list_any}
use Rattle.std.proofs.lemmas.Bool.{true≢false}
use Rattle.std.proofs.lemmas.List.Elements.{All-from_recursion, recursion_from_All}
use Rattle.std.proofs.lemmas.Map.Keys.{IsDistinct-cons, IsDistinct-head, IsDistinct-tail, IsDistinct-from_apart}
use Rattle.serde_json.specs.Data.{Data, Items}
use Rattle.fr_bytes.specs.Parts.{IsWithin}
use Rattle.script_read.specs.Refusal.{Checked, ◌>>=◌}
use Rattle.script_read.specs.Fields.{list_within}
use Rattle.script_read.specs.Elements.{each}
use Rattle.script_read.proofs.Holding.{Holds, after, weaker, both, each_holds, each_length, HasLength, list_holds}

more : {A : Type 0} (P : A → Type 0) (xs : List A) (y : A) → AllByRecursion P xs → P y
    → AllByRecursion P (xs ++ y ∷ [])
more P [] y a p = (p, tt)
more P (x ∷ xs) y a p = (a.0, more P xs y a.1 p)

pub All_more : {A : Type 0} (P : A → Type 0) (xs : List A) (y : A) → All P xs → P y → All P (xs ++ y ∷ [])
All_more P xs y a p = All-from_recursion P (xs ++ y ∷ []) (more P xs y (recursion_from_All P xs a) p)

-- ---- distinct elements

or_false : (a b : Bool) → (a || b) ≡ false → (a ≡ false) × (b ≡ false)
or_false true b e = absurd (true≢false e)
or_false false b e = (refl, e)

none_so : {A : Type 0} (f : A → Bool) (xs : List A) → list_any f xs ≡ false
    → AllByRecursion (λ x. f x ≡ false) xs
none_so f [] e = tt
none_so f (x ∷ xs) e =
    let parts = or_false (f x) (list_any f xs) e in
    (parts.0, none_so f xs parts.1)

distinct_by : {A : Type 0} (same : A → A → Bool) (xs : List A) (y : A) → IsDistinct same xs
    → AllByRecursion (λ x. same x y ≡ false) xs → IsDistinct same (xs ++ y ∷ [])
distinct_by same [] y d a = IsDistinct-cons same y [] tt d
distinct_by same (x ∷ xs) y d a =
    IsDistinct-cons same x (xs ++ y ∷ [])
    (more (λ z. same x z ≡ false) xs y (IsDistinct-head same x xs d) a.0)
    (distinct_by same xs y (IsDistinct-tail same x xs d) a.1)

pub distinct_more : {A : Type 0} (same : A → A → Bool) (xs : List A) (y : A) → IsDistinct same xs
    → list_any (λ x. same x y) xs ≡ false → IsDistinct same (xs ++ y ∷ [])
distinct_more same xs y d e = distinct_by same xs y d (none_so (λ x. same x y) xs e)

pub distinct_none : {A : Type 0} (same : A → A → Bool) → IsDistinct same []
distinct_none same = IsDistinct-from_apart same [] (λ i j d before within. absurd (omega arith))

-- ---- lists of limited length

pub counted : {A : Type 0} (one : List A → Data → Checked A) (Keeps : List A → Type 0) (low high : ℕ) (ds : Items)
    → HasLength low high ds → Keeps []
    → ((before : List A) (d : Data) → Keeps before → Holds (λ x. Keeps (before ++ x ∷ [])) (one before d))
    → Holds (λ xs. IsWithin low high (length xs) × Keeps xs) (each one [] ds)
counted one Keeps low high ds few none step =
    weaker (each one [] ds)
    (both (each one [] ds) (each_length one ds []) (each_holds one Keeps step ds [] none))
    (λ xs h. ((omega (arith, h.0, few.0), omega (arith, h.0, few.1)), h.1))

pub listed_at : {A : Type 0} (one : List A → Data → Checked A) (Keeps : List A → Type 0) (name : List ℕ)
    (low high : ℕ) (o : Data) → Keeps []
    → ((before : List A) (d : Data) → Keeps before → Holds (λ x. Keeps (before ++ x ∷ [])) (one before d))
    → Holds (λ xs. IsWithin low high (length xs) × Keeps xs) (list_within name low high o >>= λ ds. each one [] ds)
listed_at one Keeps name low high o none step =
    after (list_within name low high o) (list_holds name low high o)
    (λ ds few. counted one Keeps low high ds few none step)

-- Laws of lists that runs are composed by: a scan, two lists place by place, an invariant along a scan.
use Rattle.std.proofs.Common.{◌≡◌, ℕ, suc, zero, ◌<◌, List, [], ◌∷◌, ◌++◌, length, get_or, refl, ap, subst, append_assoc, arith}
use Rattle.std.specs.List.{scan, AllByRecursion, AllZip}
use Rattle.std.specs.Prelude.{fold}
use Rattle.std.proofs.lemmas.List.{append-nil}

-- a scan of two lists, one after the other
pub scan-append : {S X Y : Type 0} (next : S → X → S) (out : S → X → Y) (s : S) (xs ys : List X) → scan next out s (xs ++ ys) ≡ scan next out s xs ++ scan next out (fold next s xs) ys
scan-append next out s [] ys = refl
scan-append next out s (x ∷ xs) ys = ap (λ t. out s x ∷ t) (scan-append next out (next s x) xs ys)

-- what holds of each element of two lists holds of each of both
pub each-append : {X : Type 0} (P : X → Type 0) (xs ys : List X) → AllByRecursion P xs → AllByRecursion P ys → AllByRecursion P (xs ++ ys)
each-append P [] ys p q = q
each-append P (x ∷ xs) ys p q = (p.0, each-append P xs ys p.1 q)

-- an invariant of a state and of what a scan has given, kept by each step, holds at the end
pub scan_keeps : {S X Y : Type 0} (next : S → X → S) (out : S → X → Y) (Inv : S → List Y → Type 0) → ((s : S) (ys : List Y) (x : X) → Inv s ys → Inv (next s x) (ys ++ out s x ∷ [])) → (s : S) (ys : List Y) (xs : List X) → Inv s ys → Inv (fold next s xs) (ys ++ scan next out s xs)
scan_keeps next out Inv keeps s ys [] h = rw append-nil h
scan_keeps {Y = Y} next out Inv keeps s ys (x ∷ xs) h =
    subst (λ (zs : List Y). Inv (fold next (next s x) xs) zs) (append_assoc ys (out s x ∷ []) (scan next out (next s x) xs)) (scan_keeps next out Inv keeps (next s x) (ys ++ out s x ∷ []) xs (keeps s ys x h))

-- two pairs of lists that agree place by place, one after the other
pub allzip-append : {A B : Type 0} (R : A → B → Type 0) (xs : List A) (ys : List B) (xs' : List A) (ys' : List B) → AllZip R xs ys → AllZip R xs' ys' → AllZip R (xs ++ xs') (ys ++ ys')
allzip-append R [] [] xs' ys' p q = q
allzip-append R [] (y ∷ ys) xs' ys' p q = absurd p
allzip-append R (x ∷ xs) [] xs' ys' p q = absurd p
allzip-append R (x ∷ xs) (y ∷ ys) xs' ys' p q = (p.0, allzip-append R xs ys xs' ys' p.1 q)

chosen : {T : Type 0} (P : ℕ → T → Type 0) (n : ℕ) (x : T) (xs : List T) → P 0 x → ((i : ℕ) (d : T) → i < n → P (suc i) (get_or xs i d)) → (i : ℕ) (d : T) → i < suc n → P i (get_or (x ∷ xs) i d)
chosen P n x xs first others zero d lt = first
chosen P n x xs first others (suc i) d lt = others i d (omega arith)

-- a list of what there is at each place
pub choose : {T : Type 0} (P : ℕ → T → Type 0) (n : ℕ) → ((i : ℕ) → i < n → (x : T) × P i x) → (xs : List T) × (length xs ≡ n) × ((i : ℕ) (d : T) → i < n → P i (get_or xs i d))
choose P zero h = ([], refl, λ i d lt. absurd (omega arith))
choose {T = T} P (suc n) h =
    let first = h 0 (omega arith) in
    let others = choose (λ i x. P (suc i) x) n (λ i lt. h (suc i) (omega arith)) in
    (first.0 ∷ others.0, ap suc others.1, chosen P n first.0 others.0 first.1 others.2)

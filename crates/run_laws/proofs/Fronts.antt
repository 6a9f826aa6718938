-- Lists that begin with others, and what holds of their fronts.
use Rattle.std.proofs.Common.{◌≡◌, ◌∙◌, inl, inr, ℕ, zero, suc, ◌+◌, ◌<◌, ◌≤◌, List, [], ◌∷◌, ◌++◌, length, take, drop, refl, sym, ap, subst, arith, length-append}
use Rattle.std.specs.List.{AllByRecursion, AllZip}
use Rattle.std.proofs.lemmas.Bool.{cases_lt}
use Rattle.std.proofs.lemmas.List.{drop-append-le, take-append-drop, take-append-le, take_all}
use Rattle.fr_bytes.specs.History.{Begins}
use Rattle.op_types.specs.declared.op.Leaf.{Leaf}
use Rattle.wall_law.specs.State.{state_of}
use Rattle.honest_replies.specs.HonestReply.{FewEntries}

module _ {A : Type 0} where
  pub front-within : (xs ys : List A) → Begins xs ys → length xs ≤ length ys
  front-within xs ys b =
      let e : length ys ≡ length xs + length b.more = ap length b.whole ∙ length-append xs b.more in omega arith

  pub front-take : (n : ℕ) (xs ys : List A) → Begins xs ys → n ≤ length xs → take n ys ≡ take n xs
  front-take n xs ys b le = ap (take n) b.whole ∙ take-append-le n xs b.more le

  all-left : (P : A → Type 0) (xs more : List A) → AllByRecursion P (xs ++ more) → AllByRecursion P xs
  all-left P [] more all = tt
  all-left P (x ∷ xs) more all = (all.0, all-left P xs more all.1)

  all-right : (P : A → Type 0) (xs more : List A) → AllByRecursion P (xs ++ more) → AllByRecursion P more
  all-right P [] more all = all
  all-right P (x ∷ xs) more all = all-right P xs more all.1

  pub all-parts : (P : A → Type 0) (xs more : List A) → AllByRecursion P (xs ++ more)
      → AllByRecursion P xs × AllByRecursion P more
  all-parts P xs more all = (all-left P xs more all, all-right P xs more all)

  pub front-all : (P : A → Type 0) (xs ys : List A) → Begins xs ys → AllByRecursion P ys → AllByRecursion P xs
  front-all P xs ys b all = all-left P xs b.more (subst (AllByRecursion P) b.whole all)

  pub all-more : (P Q : A → Type 0) → ((x : A) → P x → Q x) → (xs : List A) → AllByRecursion P xs → AllByRecursion Q xs
  all-more P Q step [] all = tt
  all-more P Q step (x ∷ xs) all = (step x all.0, all-more P Q step xs all.1)

-- where a list is as long as another at each place, the first of it
pub record First {A B : Type 0} (R : A → B → Type 0) (x : A) (xs : List A) (ys : List B) : Type 0 where
  pub y : B
  pub others : List B
  pub is : ys ≡ y ∷ others
  pub here : R x y
  pub rest : AllZip R xs others

pub first-of : {A B : Type 0} (R : A → B → Type 0) (x : A) (xs : List A) (ys : List B) → AllZip R (x ∷ xs) ys
    → First R x xs ys
first-of R x xs [] zip = absurd zip
first-of R x xs (y ∷ ys) zip = record { y = y; others = ys; is = refl; here = zip.0; rest = zip.1 }

pub none-of : {A B : Type 0} (R : A → B → Type 0) (ys : List B) → AllZip R [] ys → ys ≡ []
none-of R [] zip = refl
none-of R (y ∷ ys) zip = absurd zip

-- ---- access lists

-- a front of a wall has as few entries
pub few-front : (owner : ℕ) (xs ys : List Leaf) → Begins xs ys → FewEntries owner ys → FewEntries owner xs
few-front owner xs ys b few k = elim (cases_lt (length xs) k) [
  | inl past ↦
      let same : take (length xs) ys ≡ take k xs =
      front-take (length xs) xs ys b (omega arith) ∙ take_all (length xs) xs (omega arith)
      ∙ sym (take_all k xs (omega arith)) in
      subst (λ (L : List Leaf). length (state_of owner L).entries ≤ 32) same (few (length xs))
  | inr within ↦ subst (λ (L : List Leaf). length (state_of owner L).entries ≤ 32) (front-take k xs ys b within) (few k)
]

-- ---- the parts of a list

-- what stands behind a front, and behind a longer one
pub drop-between : {A : Type 0} (n m : ℕ) (xs : List A) → n ≤ m → m ≤ length xs
    → drop n xs ≡ drop n (take m xs) ++ drop m xs
drop-between n m xs le within =
    let count : n ≤ length (take m xs) = let e = take-count m xs within in omega arith in
    ap (drop n) (sym (take-append-drop m xs)) ∙ drop-append-le n (take m xs) (drop m xs) count
  where
    take-count : {A : Type 0} (m : ℕ) (xs : List A) → m ≤ length xs → length (take m xs) ≡ m
    take-count zero xs le = refl
    take-count (suc m) [] le = absurd (omega arith)
    take-count (suc m) (x ∷ xs) le = ap suc (take-count m xs (omega arith))

-- the last of a list that isn't empty
pub record HasLast {A : Type 0} (xs : List A) : Type 0 where
  pub front : List A
  pub last : A
  pub is : xs ≡ front ++ last ∷ []

last-of : {A : Type 0} (x : A) (xs : List A) → HasLast (x ∷ xs)
last-of x [] = record { front = []; last = x; is = refl }
last-of x (y ∷ xs) =
    let rest = last-of y xs in
    record { front = x ∷ rest.front; last = rest.last; is = ap (λ zs. x ∷ zs) rest.is }

pub has-last : {A : Type 0} (xs : List A) → 0 < length xs → HasLast xs
has-last [] some = absurd (omega (arith, some))
has-last (x ∷ xs) some = last-of x xs

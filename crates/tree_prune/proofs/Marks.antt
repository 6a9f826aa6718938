-- Lists of marks.
use Rattle.std.proofs.Common.{◌≡◌, ℕ, zero, suc, ◌+◌, ◌-◌, ◌<◌, ◌≤◌, Bool, true, false, List, [], ◌∷◌, ◌++◌, length, take, drop, get_or, Option, None, Some, refl, ap, sym, ◌∙◌, inl, inr, arith}
use Rattle.std.specs.List.{list_any}
use Rattle.std.specs.Prelude.{map, nat_le, replicate}
use Rattle.std.proofs.lemmas.Bool.{cases_Bool, cases_lt, le-leb, lt-leb, or_cases, or_left, or_right}
use Rattle.std.proofs.lemmas.List.{length-append, length-replicate}
use Rattle.tree_prune.specs.LeastHistory.{any, from_on, marked, numbered}

-- two tests that hold in the same cases
pub same_test : (a b : Bool) → (a ≡ true → b ≡ true) → (b ≡ true → a ≡ true) → a ≡ b
same_test true b there back = sym (there refl)
same_test false true there back = back refl
same_test false false there back = refl

-- ---- the numbered

pub length-numbered : {A : Type 0} (f : ℕ → A) (first n : ℕ) → length (numbered f first n) ≡ n
length-numbered f first zero = refl
length-numbered f first (suc n) = ap suc (length-numbered f (suc first) n)

pub numbered-take : {A : Type 0} (f : ℕ → A) (first n k : ℕ) → k ≤ n
    → take k (numbered f first n) ≡ numbered f first k
numbered-take f first n zero within = refl
numbered-take f first zero (suc k) within = absurd (omega arith)
numbered-take f first (suc n) (suc k) within = ap (λ xs. f first ∷ xs) (numbered-take f (suc first) n k (omega arith))

pub numbered-drop : {A : Type 0} (f : ℕ → A) (first n k : ℕ) → k ≤ n
    → drop k (numbered f first n) ≡ numbered f (first + k) (n - k)
numbered-drop f first n zero within =
    let begin : first ≡ first + 0 = omega arith in
    let rest : n ≡ n - 0 = omega arith in ap (λ i. numbered f i n) begin ∙ ap (λ m. numbered f (first + 0) m) rest
numbered-drop f first zero (suc k) within = absurd (omega arith)
numbered-drop f first (suc n) (suc k) within =
    let begin : suc first + k ≡ first + suc k = omega arith in
    let rest : n - k ≡ suc n - suc k = omega arith in
    numbered-drop f (suc first) n k (omega arith) ∙ ap (λ i. numbered f i (n - k)) begin
    ∙ ap (λ m. numbered f (first + suc k) m) rest

pub numbered-same : {A : Type 0} (f g : ℕ → A) (first n : ℕ) → ((k : ℕ) → first ≤ k → k < first + n → f k ≡ g k)
    → numbered f first n ≡ numbered g first n
numbered-same f g first zero same = refl
numbered-same f g first (suc n) same =
    ap (λ x. x ∷ numbered f (suc first) n) (same first (omega arith) (omega arith))
    ∙ ap (λ xs. g first ∷ xs) (numbered-same f g (suc first) n (λ k low high. same k (omega arith) (omega arith)))

pub get_or-numbered : {A : Type 0} (f : ℕ → A) (first n k : ℕ) (d : A) → k < n
    → get_or (numbered f first n) k d ≡ f (first + k)
get_or-numbered f first zero k d within = absurd (omega arith)
get_or-numbered f first (suc n) zero d within = let place : first ≡ first + 0 = omega arith in ap f place
get_or-numbered f first (suc n) (suc k) d within =
    let place : suc first + k ≡ first + suc k = omega arith in get_or-numbered f (suc first) n k d (omega arith)
    ∙ ap f place

-- ---- one of many

-- what passes a test, of which each other test may be asked
pub record Passes {X : Type 0} (p : X → Bool) (xs : List X) : Type 0 where
  pub it : X
  pub passes : p it ≡ true
  pub other : (q : X → Bool) → q it ≡ true → list_any q xs ≡ true

pub list_any-some : {X : Type 0} (p : X → Bool) (xs : List X) → list_any p xs ≡ true → Passes p xs
list_any-some p [] h = absurd cc
list_any-some p (x ∷ xs) h =
    elim (or_cases (p x) (list_any p xs) h) [
      | inl here ↦ record { it = x; passes = here; other = λ q test. or_left (q x) (list_any q xs) test }
      | inr later ↦
          let rest = list_any-some p xs later in
          record {
            it = rest.it;
            passes = rest.passes;
            other = λ q test. or_right (q x) (list_any q xs) (rest.other
                q test);
          }
    ]

-- a set mark, by its position
pub record IsSet (f : ℕ → Bool) (first n : ℕ) : Type 0 where
  pub k : ℕ
  pub low : first ≤ k
  pub high : k < first + n
  pub set : f k ≡ true

pub any-some : (f : ℕ → Bool) (first n : ℕ) → any (numbered f first n) ≡ true → IsSet f first n
any-some f first zero h = absurd cc
any-some f first (suc n) h =
    elim (or_cases (f first) (any (numbered f (suc first) n)) h) [
      | inl here ↦ record { k = first; low = omega arith; high = omega arith; set = here }
      | inr later ↦
          let rest = any-some f (suc first) n later in
          let low = rest.low in
          let high = rest.high in
          record { k = rest.k; low = omega arith; high = omega arith; set = rest.set }
    ]

pub any-made : (f : ℕ → Bool) (first n k : ℕ) → first ≤ k → k < first + n → f k ≡ true
    → any (numbered f first n) ≡ true
any-made f first zero k low high set = absurd (omega arith)
any-made f first (suc n) k low high set =
    elim (cases_lt first k) [
      | inl later ↦ or_right (f first) (any (numbered f (suc first) n)) (any-made f (suc first) n k (omega arith)
          (omega arith) set)
      | inr here ↦ let same : k ≡ first = omega arith in or_left (f first) (any (numbered f (suc first) n)) (rw
          same at set)
    ]

-- where no mark is set, each isn't
pub unset : (ms : List Bool) (k : ℕ) → any ms ≡ false → get_or ms k false ≡ false
unset [] k h = refl
unset (m ∷ ms) zero h = elim (cases_Bool m) [
  | inl set ↦ let wrong = or_left m (any ms) set in absurd cc
  | inr
      not_set ↦ not_set
]
unset (m ∷ ms) (suc k) h = elim (cases_Bool (any ms)) [
  | inl set ↦ let wrong = or_right m (any ms) set in absurd cc
  | inr not_set ↦ unset ms k not_set
]

-- ---- from a position on

all_set : (a first n : ℕ) → a ≤ first → numbered (λ k. nat_le a k) first n ≡ replicate n true
all_set a first zero le = refl
all_set a first (suc n) le =
    ap (λ m. m ∷ numbered (λ k. nat_le a k) (suc first) n) (le-leb a first le)
    ∙ ap (λ ms. true ∷ ms) (all_set a (suc first) n (omega arith))

unset_first : (a first n gap : ℕ) → a ≡ first + gap → gap ≤ n
    → numbered (λ k. nat_le a k) first n ≡ replicate gap false ++ replicate (n - gap) true
unset_first a first n zero there within =
    let all : n ≡ n - 0 = omega arith in all_set a first n (omega arith) ∙ ap (λ m. replicate m true) all
unset_first a first zero (suc gap) there within = absurd (omega arith)
unset_first a first (suc n) (suc gap) there within =
    let rest : n - gap ≡ suc n - suc gap = omega arith in
    ap (λ m. m ∷ numbered (λ k. nat_le a k) (suc first) n) (lt-leb a first (omega arith))
    ∙ ap (λ ms. false ∷ ms) (unset_first a (suc first) n gap (omega arith) (omega arith))
    ∙ ap (λ m. replicate (suc gap) false ++ replicate m true) rest

pub from_on-numbered : (a n : ℕ) → a ≤ n → numbered (λ k. nat_le a k) 0 n ≡ from_on a n
from_on-numbered a n within = unset_first a 0 n a (omega arith) within

-- ---- marked texts

-- the text, where its mark is set
abbrev pub shown_if : Bool → List ℕ → Option (List ℕ)
shown_if true t = Some t
shown_if false t = None

pub length-marked : (M : List (List ℕ)) (ms : List Bool) → length (marked M ms) ≡ length M
length-marked [] ms = refl
length-marked (t ∷ M) [] = ap suc (length-marked M [])
length-marked (t ∷ M) (m ∷ ms) = ap suc (length-marked M ms)

pub get_or-marked : (M : List (List ℕ)) (ms : List Bool) (k : ℕ) → k < length M
    → get_or (marked M ms) k None ≡ shown_if (get_or ms k false) (get_or M k [])
get_or-marked [] ms k within = absurd (omega arith)
get_or-marked (t ∷ M) [] zero within = refl
get_or-marked (t ∷ M) [] (suc k) within = get_or-marked M [] k (omega arith)
get_or-marked (t ∷ M) (true ∷ ms) zero within = refl
get_or-marked (t ∷ M) (false ∷ ms) zero within = refl
get_or-marked (t ∷ M) (m ∷ ms) (suc k) within = get_or-marked M ms k (omega arith)

pub length-from_on : (a n : ℕ) → a ≤ n → length (from_on a n) ≡ n
length-from_on a n within =
    let first = length-replicate a false in
    let rest = length-replicate (n - a) true in
    length-append (replicate a false) (replicate (n - a) true) ∙ omega arith

all_shown : (M : List (List ℕ)) (n : ℕ) → n ≡ length M → marked M (replicate n true) ≡ map (λ t. Some t) M
all_shown [] n count = refl
all_shown (t ∷ M) zero count = absurd (omega arith)
all_shown (t ∷ M) (suc n) count = ap (λ xs. Some t ∷ xs) (all_shown M n (omega arith))

pub rest-shown : (M : List (List ℕ)) (a : ℕ) → a ≤ length M
    → drop a (marked M (from_on a (length M))) ≡ map (λ t. Some t) (drop a M)
rest-shown M zero within = all_shown M (length M - 0) (omega arith)
rest-shown [] (suc a) within = absurd (omega arith)
rest-shown (t ∷ M) (suc a) within =
    let rest : length (t ∷ M) - suc a ≡ length M - a = omega arith in
    ap (λ n. drop a (marked M (replicate a false ++ replicate n true))) rest ∙ rest-shown M a (omega arith)

pub front-hidden : (M : List (List ℕ)) (a : ℕ) → a ≤ length M
    → take a (marked M (from_on a (length M))) ≡ replicate a None
front-hidden M zero within = refl
front-hidden [] (suc a) within = absurd (omega arith)
front-hidden (t ∷ M) (suc a) within =
    let rest : length (t ∷ M) - suc a ≡ length M - a = omega arith in
    ap (λ xs. None ∷ xs) (ap (λ n. take a (marked M (replicate a false ++ replicate n true))) rest
    ∙ front-hidden M a (omega arith))

-- Lists that a loop goes through.
use Rattle.std.proofs.Common.{◌≡◌, ◌∙◌, ℕ, ◌+◌, ◌<◌, ◌≤◌, List, length, slice_index_or, refl, ap, sym, subst, inl, inr, arith}
use Rattle.std.specs.List.{Any}
use Rattle.std.proofs.Math.Arith.{lt_of_le-ne}
use Rattle.std.proofs.lemmas.Bool.{cases_eq}
use Rattle.std.proofs.lemmas.List.{get_or_read_under}

pub any-at : {A : Type 0} (P : A → Type 0) (xs ys : List A) (i : ℕ) (x : A) → xs ≡ ys → i < length xs
    → x ≡ slice_index_or xs i x → P x → Any P ys
any-at {A} P xs ys i x same lt is p = (
  i,
  x,
  subst (λ (l : List A). i < length l) same lt,
  subst (λ (l : List A). slice_index_or l i x ≡ x) same (sym is),
  p,
)

pub each-more : {A : Type 0} (P : A → Type 0) (xs ys : List A) (i : ℕ) (x : A) → xs ≡ ys → i < length xs
    → x ≡ slice_index_or xs i x → P x → ((k : ℕ) (e : A) → k < i → P (slice_index_or ys k e))
    → (k : ℕ) (e : A) → k < i + 1 → P (slice_index_or ys k e)
each-more {A} P xs ys i x same lt is p before k e le = elim (cases_eq k i) [
  | inl at ↦
      let here : x ≡ slice_index_or xs i e = get_or_read_under xs i (length xs) x e is lt refl in
      let there : x ≡ slice_index_or ys k e =
      here ∙ ap (λ (l : List A). slice_index_or l i e) same ∙ ap (λ (n : ℕ). slice_index_or ys n e) (sym at) in
      subst P there p
  | inr ne ↦ before k e (lt_of_le-ne (let h : k ≤ i = omega (le, arith) in h) ne)
]

pub each-all : {A : Type 0} (P : A → Type 0) (xs ys : List A) (i : ℕ) → xs ≡ ys → length xs ≤ i
    → ((k : ℕ) (e : A) → k < i → P (slice_index_or ys k e)) → (k : ℕ) (e : A) → k < length ys → P (slice_index_or ys k e)
each-all {A} P xs ys i same le before k e lt =
    let long : length xs ≡ length ys = ap (λ (l : List A). length l) same in
    before k e (omega (lt, le, long, arith))

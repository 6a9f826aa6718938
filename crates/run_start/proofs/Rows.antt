-- The parameter sets of the typecodes that a script may have.
use Rattle.std.proofs.Common.{◌≡◌, ◌⊎◌, ◌∙◌, ℕ, ◌≤◌, ◌^◌, refl, ap, sym, subst, inl, inr, arith, lit≤}
use Rattle.std.specs.Prelude.{Option, Some, unwrap_or}
use Rattle.std.proofs.lemmas.Bool.{cases_eq}
use Rattle.lms_params.specs.declared.pair.Pair.{Pair}
use Rattle.lms_params.specs.Parameters.{pair_at}
use Rattle.fr_bytes.specs.Parts.{IsWithin}
use Rattle.script_read.specs.Writes.{signatures}
use Rattle.run_start.specs.Keys.{no_pair, pair_for}

-- one of four typecodes
by-ots : (P : ℕ → Type 0) → P 1 → P 2 → P 3 → P 4 → (ots : ℕ) → IsWithin 1 4 ots → P ots
by-ots P one two three four ots w = elim (cases_eq ots 1) [
  | inl is ↦ subst P (sym is) one
  | inr no-1 ↦ elim (cases_eq ots 2) [
    | inl is ↦ subst P (sym is) two
    | inr no-2 ↦ elim (cases_eq ots 3) [
      | inl is ↦ subst P (sym is) three
      | inr no-3 ↦ let is : ots ≡ 4 = omega arith in subst P (sym is) four
    ]
  ]
]

low-height : (ots : ℕ) → IsWithin 1 4 ots → (pair_for 5 ots).lms.h ≡ 5
unfolding pair_for
low-height ots w = by-ots (λ (o : ℕ). (pair_for 5 o).lms.h ≡ 5) refl refl refl refl ots w

-- the tree of a wall's server
pub tall-height : (ots : ℕ) → IsWithin 1 4 ots → (pair_for 6 ots).lms.h ≡ 10
unfolding pair_for
tall-height ots w = by-ots (λ (o : ℕ). (pair_for 6 o).lms.h ≡ 10) refl refl refl refl ots w

by-lms : (P : ℕ → Type 0) → P 5 → P 6 → (lms : ℕ) → IsWithin 5 6 lms → P lms
by-lms P five six lms w = elim (cases_eq lms 5) [
  | inl is ↦ subst P (sym is) five
  | inr no-5 ↦ let is : lms ≡ 6 = omega arith in subst P (sym is) six
]

-- no tree is higher than a signer's may be
pub within-height : (lms ots : ℕ) → IsWithin 5 6 lms → IsWithin 1 4 ots → (pair_for lms ots).lms.h ≤ 10
within-height lms ots w v =
    by-lms (λ (l : ℕ). (pair_for l ots).lms.h ≤ 10)
    (let e = low-height ots v in omega arith) (let e = tall-height ots v in omega arith) lms w

-- a key has as many leaves as a script lets it sign
pub as-many : (lms ots : ℕ) → IsWithin 5 6 lms → IsWithin 1 4 ots
    → signatures lms ≡ 2 ^ (pair_for lms ots).lms.h
as-many lms ots w v =
    by-lms (λ (l : ℕ). signatures l ≡ 2 ^ (pair_for l ots).lms.h)
    (ap (λ (h : ℕ). 2 ^ h) (sym (low-height ots v))) (ap (λ (h : ℕ). 2 ^ h) (sym (tall-height ots v))) lms w

-- which are few
pub few-signatures : (lms : ℕ) → IsWithin 5 6 lms → signatures lms ≤ 1024
few-signatures lms w = by-lms (λ (l : ℕ). signatures l ≤ 1024) (lit≤ tt) (lit≤ tt) lms w

-- the pair that the tables have
pub pair-is : (lms ots : ℕ) (p : Pair) → Some p ≡ pair_at lms ots → p ≡ pair_for lms ots
unfolding pair_for
pair-is lms ots p e = ap (λ (o : Option Pair). unwrap_or o no_pair) e

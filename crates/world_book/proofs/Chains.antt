-- The records of one user's book: on one wall each begins where the one before it ended.
use Rattle.std.proofs.Common.{◌≡◌, ◌⊎◌, inl, inr, ℕ, zero, suc, ◌+◌, ◌<◌, ◌≤◌, List, [], ◌∷◌, ◌++◌, length, take, get_or, Option, Some, None, refl, ap, sym, ◌∙◌, arith, eq-eqb}
use Rattle.std.specs.Prelude.{fold, find, nat_eq, if◌then◌else◌, slice_get}
use Rattle.std.proofs.lemmas.Bool.{and_from, and_parts, cases_Bool, cases_lt, cond-true, cond-false, eqb-true, eqb-false}
use Rattle.std.proofs.lemmas.Option.{slice_get_within, slice_get-get_or}
use Rattle.fr_digest.specs.Digest.{Digest}
use Rattle.lms_tree.specs.Valid.{Key}
use Rattle.world_book.specs.declared.took.Took.{Took}
use Rattle.world_book.specs.declared.world.WallNote.{WallNote}
use Rattle.world_book.specs.Kept.{IsRecord, size_of}
use Rattle.world_book.specs.Records.{IsIn, is_record, last_on}
use Rattle.world_book.proofs.Places.{find-only, fold-last, take-next}

abbrev Later : ℕ → Option Took → Took → Option Took
Later wall last t = if nat_eq t.wall wall then Some t else last

-- ---- the last record on a wall

last-more : (wall : ℕ) (xs : List Took) (t : Took) → last_on wall (xs ++ t ∷ []) ≡ Later wall (last_on wall xs) t
last-more wall xs t = fold-last (Later wall) None xs t

last-from : (wall : ℕ) (last : Option Took) (xs : List Took) (p : Took) → fold (Later wall) last xs ≡ Some p
    → (last ≡ Some p) ⊎ (IsIn xs p × (p.wall ≡ wall))
last-from wall last [] p e = inl e
last-from wall last (t ∷ xs) p e = elim (last-from wall (Later wall last t) xs p e) [
  | inl here ↦ elim (cases_Bool (nat_eq t.wall wall)) [
    | inl is ↦
        let same : t ≡ p = let f = sym (cond-true (nat_eq t.wall wall) (Some t) last is) ∙ here in cc in
        inr (record { place = 0; there = ap Some same }, ap (λ (x : Took). x.wall) (sym same) ∙ eqb-true t.wall wall is)
    | inr other ↦ inl (sym (cond-false (nat_eq t.wall wall) (Some t) last other) ∙ here)
  ]
  | inr behind ↦ inr (record { place = suc behind.0.place; there = behind.0.there }, behind.1)
]

pub last-in : (wall : ℕ) (xs : List Took) (p : Took) → last_on wall xs ≡ Some p → IsIn xs p × (p.wall ≡ wall)
last-in wall xs p e = elim (last-from wall None xs p e) [ inl none ↦ absurd cc | inr there ↦ there ]

-- ---- sizes rise

module _ (d : Digest) (notes : List WallNote) (keys : List (ℕ × Key)) (user : ℕ) (took : List Took)
    (each : (i : ℕ) (t : Took) → slice_get took i ≡ Some t → IsRecord d notes keys user (take i took) t) where
  begins : (n : ℕ) (x s : Took) → slice_get took n ≡ Some x → last_on x.wall (take n took) ≡ Some s → s.size < x.size
  begins n x s at last =
      let it = each n x at in
      let size : size_of (last_on x.wall (take n took)) ≡ s.size = ap size_of last in
      let later = it.accepted.later in
      omega arith

  reaches : (n i : ℕ) (t : Took) → n ≤ length took → i < n → slice_get took i ≡ Some t
      → (s : Took) × (last_on t.wall (take n took) ≡ Some s) × (t.size ≤ s.size)
  reaches zero i t within less at = absurd (omega arith)
  reaches (suc n) i t within less at =
      let x = get_or took n t in
      let there : slice_get took n ≡ Some x = slice_get-get_or took n t (omega arith) in
      let e : n + 1 ≡ suc n = omega arith in
      let front : take (suc n) took ≡ take n took ++ x ∷ [] =
      ap (λ (m : ℕ). take m took) (sym e) ∙ take-next took n x there in
      let more = ap (last_on t.wall) front ∙ last-more t.wall (take n took) x in
      elim (cases_Bool (nat_eq x.wall t.wall)) [
        | inl is ↦ (
          x,
          more ∙ cond-true (nat_eq x.wall t.wall) (Some x) (last_on t.wall (take n took)) is,
          elim (cases_lt i n) [
            | inl before ↦
                let r = reaches n i t (omega arith) before at in
                let level : last_on x.wall (take n took) ≡ Some r.0 =
                ap (λ (w : ℕ). last_on w (take n took)) (eqb-true x.wall t.wall is) ∙ r.1 in
                let up = begins n x r.0 there level in
                let same = r.2 in
                omega arith
            | inr level ↦
                let e : i ≡ n = omega arith in
                let same : t ≡ x = let f = sym at ∙ ap (slice_get took) e ∙ there in cc in
                let sizes = ap (λ (y : Took). y.size) same in
                omega arith
          ],
        )
        | inr other ↦ elim (cases_lt i n) [
          | inl before ↦
              let r = reaches n i t (omega arith) before at in
              (r.0, more ∙ cond-false (nat_eq x.wall t.wall) (Some x) (last_on t.wall (take n took)) other ∙ r.1, r.2)
          | inr level ↦
              let e : i ≡ n = omega arith in
              let same : t ≡ x = let f = sym at ∙ ap (slice_get took) e ∙ there in cc in
              absurd (eqb-false x.wall t.wall other (ap (λ (y : Took). y.wall) (sym same)))
        ]
      ]

  pub rises : (i j : ℕ) (t x : Took) → i < j → slice_get took i ≡ Some t → slice_get took j ≡ Some x → t.wall ≡ x.wall
      → t.size < x.size
  rises i j t x less at there walls =
      let r = reaches j i t (let within = slice_get_within took j x there in omega arith) less at in
      let level : last_on x.wall (take j took) ≡ Some r.0 = ap (λ (w : ℕ). last_on w (take j took)) (sym walls) ∙ r.1 in
      let up = begins j x r.0 there level in
      let same = r.2 in
      omega arith

  -- a record is the first of its wall and size
  pub finds : (i : ℕ) (t : Took) → slice_get took i ≡ Some t → find (is_record t.wall t.size) took ≡ Some t
  finds i t at = find-only (is_record t.wall t.size) took i t at
      (and_from (nat_eq t.wall t.wall) (nat_eq t.size t.size) (eq-eqb t.wall t.wall refl) (eq-eqb t.size t.size refl))
      (λ k y less there is.
      let both = and_parts (nat_eq y.wall t.wall) (nat_eq y.size t.size) is in
      let sizes = eqb-true y.size t.size both.1 in
      let up = rises k i y t less there at (eqb-true y.wall t.wall both.0) in
      omega arith)

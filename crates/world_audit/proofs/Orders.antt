-- The order of records: each that has a history is in it once, behind those that it needs.
use Rattle.std.proofs.Common.{◌≡◌, inl, inr, ℕ, zero, suc, ◌-◌, ◌<◌, true, List, [], ◌∷◌, length, Some, refl, ap, sym, subst, ◌∙◌, arith}
use Rattle.std.specs.Prelude.{filter, fold, is_some, reverse, slice_get}
use Rattle.std.proofs.lemmas.Option.{slice_get_within}
use Rattle.fr_digest.specs.Digest.{Digest}
use Rattle.world_book.specs.declared.took.Took.{Took}
use Rattle.world_book.specs.declared.world.World.{World}
use Rattle.world_book.specs.Kept.{Kept}
use Rattle.world_book.specs.Records.{IsIn, records_of}
use Rattle.world_audit.specs.Comparisons.{needed, order, visit}
use Rattle.world_audit.specs.Story.{story}
use Rattle.world_audit.proofs.Visits.{Ordered, Visited, many, ordered-has, visited}
use Rattle.world_audit.proofs.Needs.{HasStory}
use Rattle.world_audit.proofs.Members.{filter-in, in-filter, place-reverse, reverse-place, there-is}

module _ (d : Digest) (w : World) (kept : Kept d w) where
  -- ---- all of them

  abbrev Any : Took → Type 0
  Any x = Unit {0}

  abbrev visit_whole : List Took → Took → List Took
  visit_whole done r = visit r.size w done r

  abbrev grounded : List Took
  grounded = filter (λ (r : Took). is_some (story w r)) (records_of w)

  abbrev out : List Took
  out = fold visit_whole [] grounded

  all-visited : Visited d w kept Any [] out × ((x : Took) → IsIn grounded x → IsIn out x)
  all-visited = many d w kept Any Any visit_whole
      (λ done r ordered has any.
      let it = visited d w kept r.size done r ordered has (omega arith) in (
        record {
          ordered = it.0.ordered;
          still = it.0.still;
          added = λ x at. elim (it.0.added x at) [ inl there ↦ inl there | inr few ↦ inr tt ];
        },
        it.1,
      ))
      grounded [] tt
      (λ x at.
      let it = in-filter (λ (r : Took). is_some (story w r)) (records_of w) x at in
      let of = there-is (story w x) it.1 in
      (record { kept = it.0; leaves = of.0; history = of.1 }, tt))

  -- ---- the order

  ordered-behind : (xs : List Took) (i : ℕ) (r s : Took) → Ordered d w kept xs → slice_get xs i ≡ Some r
      → IsIn (needed w r) s
      → (j : ℕ) × (i < j) × (slice_get xs j ≡ Some s)
  ordered-behind [] i r s ordered at need = absurd cc
  ordered-behind (a ∷ xs) zero r s ordered at need =
      let same : a ≡ r = cc in
      let it = ordered.0.behind s (subst (λ (x : Took). IsIn (needed w x) s) (sym same) need) in
      (suc it.place, omega arith, it.there)
  ordered-behind (a ∷ xs) (suc i) r s ordered at need =
      let it = ordered-behind xs i r s ordered.1 at need in
      let less = it.1 in
      (suc it.0, omega arith, it.2)

  ordered-once : (xs : List Took) (i j : ℕ) (r : Took) → Ordered d w kept xs → slice_get xs i ≡ Some r
      → slice_get xs j ≡ Some r → i ≡ j
  ordered-once [] i j r ordered at there = absurd cc
  ordered-once (a ∷ xs) zero zero r ordered at there = refl
  ordered-once (a ∷ xs) zero (suc j) r ordered at there =
      let same : a ≡ r = cc in
      absurd (ordered.0.new (record { place = j; there = there ∙ ap Some (sym same) }))
  ordered-once (a ∷ xs) (suc i) zero r ordered at there =
      let same : a ≡ r = cc in
      absurd (ordered.0.new (record { place = i; there = at ∙ ap Some (sym same) }))
  ordered-once (a ∷ xs) (suc i) (suc j) r ordered at there = ap suc (ordered-once xs i j r ordered.1 at there)

  order-is : order w ≡ reverse out
  unfolding order
  order-is = refl

  order-place : (i : ℕ) (r : Took) → slice_get (order w) i ≡ Some r
      → (i < length out) × (slice_get out (length out - 1 - i) ≡ Some r)
  order-place i r at = reverse-place out i r (sym (ap (λ (xs : List Took). slice_get xs i) order-is) ∙ at)

  -- Each record that has a history is in it,
  pub order-each : (r : Took) → HasStory w r → IsIn (order w) r
  order-each r has =
      let is : is_some (story w r) ≡ true = ap is_some has.history in
      let it =
      all-visited.1 r (filter-in (λ (x : Took). is_some (story w x))
      (records_of w) has.kept.place r has.kept.there is) in
      record {
        place = length out - 1 - it.place;
        there = ap (λ (xs : List Took). slice_get xs (length out - 1 - it.place)) order-is
            ∙ place-reverse out it.place r it.there;
      }

  -- and no other;
  pub order-only : (r : Took) → IsIn (order w) r → HasStory w r
  order-only r at =
      ordered-has d w kept out (length out - 1 - at.place) r all-visited.0.ordered (order-place at.place r at.there).1

  -- it is in it once,
  pub order-once : (i j : ℕ) (r : Took) → slice_get (order w) i ≡ Some r → slice_get (order w) j ≡ Some r → i ≡ j
  order-once i j r at there =
      let one = order-place i r at in
      let two = order-place j r there in
      let less = one.0 in
      let fewer = two.0 in
      let same = ordered-once out (length out - 1 - i) (length out - 1 - j) r all-visited.0.ordered one.1 two.1 in
      omega arith

  -- behind those that it needs.
  pub order-behind : (i : ℕ) (r s : Took) → slice_get (order w) i ≡ Some r → IsIn (needed w r) s
      → (j : ℕ) × (j < i) × (slice_get (order w) j ≡ Some s)
  order-behind i r s at need =
      let one = order-place i r at in
      let less = one.0 in
      let it = ordered-behind out (length out - 1 - i) r s all-visited.0.ordered one.1 need in
      let more = it.1 in
      let within = slice_get_within out it.0 s it.2 in (
        length out - 1 - it.0,
        omega arith,
        ap (λ (xs : List Took). slice_get xs (length out - 1 - it.0)) order-is ∙ place-reverse out it.0 s it.2,
      )

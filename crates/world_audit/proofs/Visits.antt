-- Visits of records, the last one first: each once, in front of those that it needs.
use Rattle.std.proofs.Common.{◌≡◌, ◌⊎◌, inl, inr, ℕ, zero, suc, ◌<◌, ◌≤◌, true, false, ◌&&◌, List, [], ◌∷◌, Some, refl, ap, sym, subst, ◌∙◌, arith, eq-eqb}
use Rattle.std.specs.Prelude.{fold, nat_eq, slice_get}
use Rattle.std.proofs.lemmas.Bool.{and_from, and_parts, both_ways, cases_Bool, cond-true, cond-false, eqb-true}
use Rattle.fr_digest.specs.Digest.{Digest}
use Rattle.world_book.specs.declared.took.Took.{Took}
use Rattle.world_book.specs.declared.world.World.{World}
use Rattle.world_book.specs.Kept.{Kept}
use Rattle.world_book.specs.Records.{IsIn, record_of, records_of}
use Rattle.world_book.proofs.Leaves.{facts}
use Rattle.world_book.proofs.Records.{record-self}
use Rattle.world_audit.specs.Comparisons.{is_done, is_same_record, needed, visit}
use Rattle.world_audit.proofs.Needs.{HasStory, each-needed}
use Rattle.world_audit.proofs.Members.{any-some, in-behind, in-cons, some-any}

module _ (d : Digest) (w : World) (kept : Kept d w) where
  -- ---- records in order, the last one first

  -- one in front of those that it needs, and not again among them
  pub record Leads (xs : List Took) (r : Took) : Type 0 where
    pub has : HasStory w r
    pub behind : (s : Took) → IsIn (needed w r) s → IsIn xs s
    pub new : IsIn xs r → ⊥

  abbrev pub Ordered : List Took → Type 0
  Ordered [] = Unit {0}
  Ordered (r ∷ xs) = Leads xs r × Ordered xs

  -- What is done, and more: the record is there, and only such as Q are added.
  pub record Visited (Q : Took → Type 0) (done : List Took) (out : List Took) : Type 0 where
    pub ordered : Ordered out
    pub still : (x : Took) → IsIn done x → IsIn out x
    pub added : (x : Took) → IsIn out x → IsIn done x ⊎ Q x

  abbrev pub Steps : (Took → Type 0) → (Took → Type 0) → (List Took → Took → List Took) → Type 0
  Steps P Q step = (done : List Took) (r : Took) → Ordered done → HasStory w r → P r
      → Visited Q done (step done r) × IsIn (step done r) r

  pub many : (P Q : Took → Type 0) (step : List Took → Took → List Took) → Steps P Q step → (rs done : List Took)
      → Ordered done
      → ((x : Took) → IsIn rs x → HasStory w x × P x)
      → Visited Q done (fold step done rs) × ((x : Took) → IsIn rs x → IsIn (fold step done rs) x)
  many P Q step steps [] done ordered each = (
    record { ordered = ordered; still = λ x at. at; added = λ x at. inl at },
    λ x at. absurd
        (let e = at.there in cc),
  )
  many P Q step steps (r ∷ rs) done ordered each =
      let of = each r (record { place = 0; there = refl }) in
      let first = steps done r ordered of.0 of.1 in
      let rest = many P Q step steps rs (step done r) first.0.ordered (λ x at. each x (in-behind r rs x at)) in (
        record {
          ordered = rest.0.ordered;
          still = λ x at. rest.0.still x (first.0.still x at);
          added = λ x at. elim (rest.0.added x at) [ inl there ↦ first.0.added x there | inr q ↦ inr q ];
        },
        λ x at. elim (in-cons r rs x at) [
          | inl same ↦ subst (λ (y : Took). IsIn (fold step (step done r) rs) y) same (rest.0.still r first.1)
          | inr behind ↦ rest.1 x behind
        ],
      )

  same-record : (r s : Took) → IsIn (records_of w) r → IsIn (records_of w) s → is_same_record r s ≡ true → r ≡ s
  same-record r s at there e =
      let one = and_parts (nat_eq r.user s.user) (nat_eq r.wall s.wall && nat_eq r.size s.size) e in
      let two = and_parts (nat_eq r.wall s.wall) (nat_eq r.size s.size) one.1 in
      let found = sym (record-self d w kept r at)
      ∙ ap (λ (n : ℕ). record_of w n r.wall r.size) (eqb-true r.user s.user one.0)
      ∙ ap (λ (n : ℕ). record_of w s.user n r.size) (eqb-true r.wall s.wall two.0)
      ∙ ap (record_of w s.user s.wall) (eqb-true r.size s.size two.1)
      ∙ record-self d w kept s there in
      let same : r ≡ s = cc in same

  record-same : (r : Took) → is_same_record r r ≡ true
  record-same r = and_from (nat_eq r.user r.user) (nat_eq r.wall r.wall && nat_eq r.size r.size)
      (eq-eqb r.user r.user refl)
      (and_from (nat_eq r.wall r.wall) (nat_eq r.size r.size) (eq-eqb r.wall r.wall refl) (eq-eqb r.size r.size refl))

  pub ordered-has : (xs : List Took) (i : ℕ) (x : Took) → Ordered xs → slice_get xs i ≡ Some x → HasStory w x
  ordered-has [] i x ordered at = absurd cc
  ordered-has (a ∷ xs) zero x ordered at = let same : a ≡ x = cc in subst (HasStory w) same ordered.0.has
  ordered-has (a ∷ xs) (suc i) x ordered at = ordered-has xs i x ordered.1 at

  -- ---- one visit

  abbrev pub Within : Took → Took → Type 0
  Within r x = x.size ≤ r.size

  abbrev Below : Took → Took → Type 0
  Below r x = x.size < r.size

  has-some : (r : Took) → HasStory w r → r.size ≤ 0 → ⊥
  has-some r has few = let later = (facts d w kept r has.kept).accepted.later in omega arith

  already : (done : List Took) (r : Took) → Ordered done → HasStory w r → is_done done r ≡ true
      → Visited (Within r) done done × IsIn done r
  already done r ordered has is =
      let it = any-some (is_same_record r) done is in
      let s = it.0 in
      let same = same-record r s has.kept (ordered-has done it.1.place s ordered it.1.there).kept it.2 in (
        record { ordered = ordered; still = λ x at. at; added = λ x at. inl at },
        subst (λ (x : Took). IsIn done x) (sym same) it.1,
      )

  below : (r x : Took) (before out : List Took) → x.size < r.size → Visited (Within x) before out × IsIn out x
      → Visited (Below r) before out × IsIn out x
  below r x before out less it = (
    record {
      ordered = it.0.ordered;
      still = it.0.still;
      added = λ y at. elim (it.0.added y at) [ inl there ↦ inl there | inr few ↦ inr (omega arith) ];
    },
    it.1,
  )

  -- the record in front of what it needs
  led : (done : List Took) (r : Took) (others : List Took) → HasStory w r → is_done done r ≡ false
      → Visited (Below r) done others × ((s : Took) → IsIn (needed w r) s → IsIn others s)
      → Visited (Within r) done (r ∷ others) × IsIn (r ∷ others) r
  led done r others has not it = (
    record {
      ordered = (
        record {
          has = has;
          behind = it.1;
          new = λ at. elim (it.0.added r at) [
            | inl there ↦ both_ways (is_done done r) not
                (some-any (is_same_record r) done there.place r there.there (record-same r))
            | inr less ↦ omega arith
          ];
        },
        it.0.ordered,
      );
      still = λ x at. in-behind r others x (it.0.still x at);
      added = λ x at. elim (in-cons r others x at) [
        | inl same ↦ inr (let sizes = ap (λ (y : Took). y.size) same in omega arith)
        | inr rest ↦ elim (it.0.added x rest) [ inl there ↦ inl there | inr less ↦ inr (omega arith) ]
      ];
    },
    record { place = 0; there = refl },
  )

  pub visited : (m : ℕ) (done : List Took) (r : Took) → Ordered done → HasStory w r → r.size ≤ m
      → Visited (Within r) done (visit m w done r) × IsIn (visit m w done r) r
  unfolding visit
  visited zero done r ordered has few = absurd (has-some r has few)
  visited (suc m) done r ordered has few =
      let others = fold (visit m w) done (needed w r) in
      elim (cases_Bool (is_done done r)) [
        | inl is ↦ subst (λ (out : List Took). Visited (Within r) done out × IsIn out r)
            (sym (cond-true (is_done done r) done (r ∷ others) is)) (already done r ordered has is)
        | inr not ↦ subst (λ (out : List Took). Visited (Within r) done out × IsIn out r)
            (sym (cond-false (is_done done r) done (r ∷ others) not))
            (led done r others has not (many (Below r) (Below r) (visit m w)
            (λ before x good fine less. below r x before (visit m w before x) less (visited m before x good fine
            (omega arith)))
            (needed w r) done ordered (each-needed d w kept r has)))
      ]

-- Histories of records: each rests on records of fewer positions.
use Rattle.std.proofs.Common.{◌≡◌, inl, inr, ℕ, zero, suc, ◌<◌, ◌≤◌, true, List, [], ◌++◌, length, take, Option, Some, None, refl, ap, sym, ◌∙◌, arith}
use Rattle.std.specs.Prelude.{nat_eq, nat_lt, not, option_and_then, slice_get}
use Rattle.std.specs.Option.{option_map}
use Rattle.std.proofs.lemmas.Bool.{and_parts, cases_Bool, cond-true, cond-false, eqb-true, eqb-false, ltb-true, ltb-false, lt-ltb, not-true}
use Rattle.std.proofs.lemmas.List.{length-append, length-take-le}
use Rattle.std.proofs.lemmas.Option.{slice_get_within}
use Rattle.fr_digest.specs.Digest.{Digest}
use Rattle.op_types.specs.declared.op.Leaf.{Leaf}
use Rattle.world_book.specs.declared.took.Took.{Took}
use Rattle.world_book.specs.declared.world.World.{World}
use Rattle.world_book.specs.Kept.{Kept}
use Rattle.world_book.specs.Records.{IsIn, is_honest, record_of, records_of}
use Rattle.world_book.proofs.Leaves.{count-leaves, facts, leaf-view}
use Rattle.world_book.proofs.Places.{find-some}
use Rattle.world_book.proofs.Records.{record-found}
use Rattle.world_audit.specs.Comparisons.{base}
use Rattle.world_audit.specs.Story.{base_of, front_of, prev, record_seen, stands, story, story_in, voucher, vouched, vouches_for}

-- ---- options

same-bind : {A B : Type 0} (f g : A → Option B) (o : Option A) → ((x : A) → o ≡ Some x → f x ≡ g x)
    → option_and_then f o ≡ option_and_then g o
same-bind f g None same = refl
same-bind f g (Some x) same = same x refl

pub bound : {A B : Type 0} (f : A → Option B) (o : Option A) (y : B) → option_and_then f o ≡ Some y
    → (x : A) × (o ≡ Some x) × (f x ≡ Some y)
bound f None y e = absurd cc
bound f (Some x) y e = (x, refl, e)

pub mapped : {A B : Type 0} (f : A → B) (o : Option A) (y : B) → option_map f o ≡ Some y
    → (x : A) × (o ≡ Some x) × (f x ≡ y)
mapped f None y e = absurd cc
mapped f (Some x) y e = (x, refl, let same : f x ≡ y = cc in same)

-- ---- the records that one rests on

-- a record of the same wall that is of fewer positions
pub record Smaller (w : World) (r s : Took) : Type 0 where
  pub kept : IsIn (records_of w) s
  pub wall : s.wall ≡ r.wall
  pub fewer : s.size < r.size

-- the operation that vouches for what a record doesn't show, and its author's record
pub record Vouched (w : World) (r s : Took) (leaf : Leaf) : Type 0 where
  pub shown : IsIn r.leaves leaf
  pub honest : is_honest w leaf.op.author ≡ true
  pub covers : r.from ≤ leaf.op.view.size
  pub found : record_seen w r.wall leaf ≡ Some s
  pub size : s.size ≡ leaf.op.view.size

-- what a history consists of
pub data Stands (w : World) (r : Took) (L : List Leaf) : Type 0 where
  whole : r.have ≡ 0 → r.from ≡ 0 → L ≡ r.leaves → Stands w r L
  follows : (p : Took) (M : List Leaf) → r.from ≡ r.have → 0 < r.have → prev w r ≡ Some p → story w p ≡ Some M
      → L ≡ M ++ r.leaves → Stands w r L
  skips : (s : Took) (M : List Leaf) → r.have < r.from → vouched w r ≡ Some s → story w s ≡ Some M
      → L ≡ take r.from M ++ r.leaves → Stands w r L

module _ (d : Digest) (w : World) (kept : Kept d w) where
  pub prev-smaller : (r p : Took) → IsIn (records_of w) r → prev w r ≡ Some p → Smaller w r p × (p.size ≡ r.have)
  prev-smaller r p at is = elim (cases_Bool (nat_lt 0 r.have)) [
    | inl some ↦
        let found = sym (cond-true (nat_lt 0 r.have) (record_of w r.user r.wall r.have) None some) ∙ is in
        let it = record-found d w kept r.user r.wall r.have p found in
        let size = it.3 in
        let have = (facts d w kept r at).have in
        let later = (facts d w kept r at).accepted.later in
        (record { kept = it.0; wall = it.2; fewer = omega arith }, size)
    | inr none ↦
        absurd (let e = sym (cond-false (nat_lt 0 r.have) (record_of w r.user r.wall r.have) None none) ∙ is in cc)
  ]

  pub seen-smaller : (r s : Took) (i : ℕ) (leaf : Leaf) → IsIn (records_of w) r → slice_get r.leaves i ≡ Some leaf
      → record_seen w r.wall leaf ≡ Some s → Smaller w r s × (s.size ≡ leaf.op.view.size)
  seen-smaller r s i leaf at here found =
      let it = record-found d w kept leaf.op.author r.wall leaf.op.view.size s found in
      let size = it.3 in
      let early = leaf-view d w kept r at i leaf here in
      let within = slice_get_within r.leaves i leaf here in
      let count = count-leaves d w kept r at in
      (record { kept = it.0; wall = it.2; fewer = omega arith }, size)

  pub vouched-smaller : (r s : Took) → IsIn (records_of w) r → vouched w r ≡ Some s
      → Smaller w r s × ((leaf : Leaf) × Vouched w r s leaf)
  vouched-smaller r s at is =
      let one = bound (record_seen w r.wall) (voucher w r) s is in
      let leaf = one.0 in
      let first = find-some (vouches_for w r.from) r.leaves leaf one.1 in
      let both = and_parts (is_honest w leaf.op.author) (not (nat_lt leaf.op.view.size r.from)) first.1 in
      let it = seen-smaller r s first.0.place leaf at first.0.there one.2 in (
        it.0,
        (
          leaf,
          record {
            shown = first.0;
            honest = both.0;
            covers = ltb-false leaf.op.view.size r.from (not-true (nat_lt leaf.op.view.size r.from) both.1);
            found = one.2;
            size = it.1;
          },
        ),
      )

  -- so is the record that it rests on
  pub base-smaller : (r : Took) → IsIn (records_of w) r → (b : Took) → base w r ≡ Some b → Smaller w r b
  base-smaller r at b is = elim (cases_Bool (nat_eq r.from r.have)) [
    | inl level ↦
        (prev-smaller r b at (sym (cond-true (nat_eq r.from r.have) (prev w r) (vouched w r) level) ∙ is)).0
    | inr skip ↦
        (vouched-smaller r b at (sym (cond-false (nat_eq r.from r.have) (prev w r) (vouched w r) skip) ∙ is)).0
  ]

  -- ---- enough steps

  enough : (m n : ℕ) (r : Took) → IsIn (records_of w) r → r.size ≤ m → r.size ≤ n → story_in m w r ≡ story_in n w r
  unfolding story_in
  enough zero n r at few many = absurd (let later = (facts d w kept r at).accepted.later in omega arith)
  enough (suc m) zero r at few many = absurd (let later = (facts d w kept r at).accepted.later in omega arith)
  enough (suc m) (suc n) r at few many =
      let below = same-bind (story_in m w) (story_in n w) (prev w r)
      (λ p is. let it = (prev-smaller r p at is).0 in let fewer = it.fewer in
      enough m n p it.kept (omega arith) (omega arith)) in
      let beside = same-bind (story_in m w) (story_in n w) (vouched w r)
      (λ s is. let it = (vouched-smaller r s at is).0 in let fewer = it.fewer in
      enough m n s it.kept (omega arith) (omega arith)) in
      ap (λ (o : Option (List Leaf)). stands r o (option_and_then (story_in m w) (vouched w r))) below
      ∙ ap (stands r (option_and_then (story_in n w) (prev w r))) beside

  steps : (n : ℕ) (r : Took) → IsIn (records_of w) r → r.size ≡ n
      → story_in n w r ≡ stands r (option_and_then (story w) (prev w r)) (option_and_then (story w) (vouched w r))
  unfolding story story_in
  steps zero r at e = absurd (let later = (facts d w kept r at).accepted.later in omega arith)
  steps (suc m) r at e =
      let below = same-bind (story_in m w) (story w) (prev w r)
      (λ p is. let it = (prev-smaller r p at is).0 in let fewer = it.fewer in
      enough m p.size p it.kept (omega arith) (omega arith)) in
      let beside = same-bind (story_in m w) (story w) (vouched w r)
      (λ s is. let it = (vouched-smaller r s at is).0 in let fewer = it.fewer in
      enough m s.size s it.kept (omega arith) (omega arith)) in
      ap (λ (o : Option (List Leaf)). stands r o (option_and_then (story_in m w) (vouched w r))) below
      ∙ ap (stands r (option_and_then (story w) (prev w r))) beside

  -- A history is made of those of the records that the record rests on.
  pub unfolds : (r : Took) → IsIn (records_of w) r
      → story w r ≡ stands r (option_and_then (story w) (prev w r)) (option_and_then (story w) (vouched w r))
  unfolding story
  unfolds r at = steps r.size r at refl

  -- ---- what a history consists of

  abbrev Below : Took → Option (List Leaf)
  Below r = option_and_then (story w) (prev w r)

  abbrev Beside : Took → Option (List Leaf)
  Beside r = option_and_then (story w) (vouched w r)

  -- where it skips
  abbrev Skipped : Took → Option (List Leaf)
  Skipped r = option_and_then (λ (old : List Leaf). option_map (take r.from) (Beside r)) (base_of r (Below r))

  level-on : (r : Took) (L front : List Leaf) → IsIn (records_of w) r → r.from ≡ r.have
      → base_of r (Below r) ≡ Some front → front ++ r.leaves ≡ L → Stands w r L
  level-on r L front at level is joined = elim (cases_Bool (nat_lt 0 r.have)) [
    | inl some ↦
        let it = bound (story w) (prev w r) front (sym (cond-true (nat_lt 0 r.have) (Below r) (Some []) some) ∙ is) in
        follows it.0 front level (ltb-true 0 r.have some) it.1 it.2 (sym joined)
    | inr none ↦
        let zero-have = ltb-false 0 r.have none in
        let empty : front ≡ [] = let e = sym (cond-false (nat_lt 0 r.have) (Below r) (Some []) none) ∙ is in cc in
        whole (omega arith) (omega arith) (sym joined ∙ ap (λ (ls : List Leaf). ls ++ r.leaves) empty)
  ]

  skip-on : (r : Took) (L front : List Leaf) → IsIn (records_of w) r → (r.from ≡ r.have → ⊥)
      → Skipped r ≡ Some front → front ++ r.leaves ≡ L → Stands w r L
  skip-on r L front at apart is joined =
      let old = bound (λ (old : List Leaf). option_map (take r.from) (Beside r)) (base_of r (Below r)) front is in
      let short = mapped (take r.from) (Beside r) front old.2 in
      let it = bound (story w) (vouched w r) short.0 short.1 in
      let least = (facts d w kept r at).accepted.old in
      let have = (facts d w kept r at).have in
      skips it.0 short.0 (omega (arith, apart)) it.1 it.2 (sym joined
      ∙ ap (λ (ls : List Leaf). ls ++ r.leaves) (sym short.2))

  pub stands-on : (r : Took) (L : List Leaf) → IsIn (records_of w) r → story w r ≡ Some L → Stands w r L
  stands-on r L at history =
      let it = mapped (λ (front : List Leaf). front ++ r.leaves) (front_of r (base_of r (Below r)) (Beside r)) L
      (sym (unfolds r at) ∙ history) in
      elim (cases_Bool (nat_eq r.from r.have)) [
        | inl level ↦ level-on r L it.0 at (eqb-true r.from r.have level)
            (sym (cond-true (nat_eq r.from r.have) (base_of r (Below r)) (Skipped r) level) ∙ it.1) it.2
        | inr skip ↦ skip-on r L it.0 at (eqb-false r.from r.have skip)
            (sym (cond-false (nat_eq r.from r.have) (base_of r (Below r)) (Skipped r) skip) ∙ it.1) it.2
      ]

  some-base : (r : Took) (front : List Leaf) → front_of r (base_of r (Below r)) (Beside r) ≡ Some front
      → (old : List Leaf) × (base_of r (Below r) ≡ Some old)
  some-base r front is = elim (cases_Bool (nat_eq r.from r.have)) [
    | inl level ↦ (front, sym (cond-true (nat_eq r.from r.have) (base_of r (Below r)) (Skipped r) level) ∙ is)
    | inr skip ↦
        let it = bound (λ (old : List Leaf). option_map (take r.from) (Beside r)) (base_of r (Below r)) front
        (sym (cond-false (nat_eq r.from r.have) (base_of r (Below r)) (Skipped r) skip) ∙ is) in
        (it.0, it.1)
  ]

  -- A record that has a history and something before it has a record before that has one.
  pub old-story : (r : Took) (L : List Leaf) → IsIn (records_of w) r → story w r ≡ Some L → 0 < r.have
      → (p : Took) × (K : List Leaf) × (prev w r ≡ Some p) × (story w p ≡ Some K)
  old-story r L at history some =
      let it = mapped (λ (front : List Leaf). front ++ r.leaves) (front_of r (base_of r (Below r)) (Beside r)) L
      (sym (unfolds r at) ∙ history) in
      let old = some-base r it.0 it.1 in
      let of = bound (story w) (prev w r) old.0
      (sym (cond-true (nat_lt 0 r.have) (Below r) (Some []) (lt-ltb 0 r.have some)) ∙ old.1) in
      (of.0, old.0, of.1, of.2)

  -- ---- lengths

  lengths : (m : ℕ) (r : Took) (L : List Leaf) → IsIn (records_of w) r → r.size ≤ m → story w r ≡ Some L
      → length L ≡ r.size
  lengths zero r L at few history = absurd (let later = (facts d w kept r at).accepted.later in omega arith)
  lengths (suc m) r L at few history =
      let count = count-leaves d w kept r at in
      elim (stands-on r L at history) [
        | whole none from is ↦ let n = ap length is in omega arith
        | follows p M level some is of joined ↦
            let it = prev-smaller r p at is in
            let fewer = it.0.fewer in
            let size = it.1 in
            let long = lengths m p M it.0.kept (omega arith) of in
            let n = ap length joined ∙ length-append M r.leaves in
            omega arith
        | skips s M least is of joined ↦
            let it = vouched-smaller r s at is in
            let fewer = it.0.fewer in
            let size = it.1.1.size in
            let covers = it.1.1.covers in
            let long = lengths m s M it.0.kept (omega arith) of in
            let short = length-take-le r.from M (omega arith) in
            let n = ap length joined ∙ length-append (take r.from M) r.leaves in
            omega arith
      ]

  -- A history has as many leaves as the record's view covers.
  pub story-length : (r : Took) (L : List Leaf) → IsIn (records_of w) r → story w r ≡ Some L → length L ≡ r.size
  story-length r L at history = lengths r.size r L at (omega arith) history

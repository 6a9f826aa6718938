-- The histories of records, over those of the records that they rest on.
use Rattle.std.proofs.Common.{◌≡◌, ◌∙◌, inl, inr, ℕ, zero, suc, ◌+◌, ◌-◌, ◌<◌, ◌≤◌, false, List, [], ◌∷◌, ◌++◌, length, map, take, get_or, Option, Some, None, refl, sym, ap, subst, arith}
use Rattle.std.specs.Prelude.{IfSome, nat_eq, nat_lt, option_and_then, set, slice_get, if◌then◌else◌}
use Rattle.std.specs.List.{AllByRecursion}
use Rattle.std.specs.Option.{option_map}
use Rattle.std.proofs.lemmas.Bool.{cases_Bool, cond-true, cond-false, eq-eqb, eqb-true, lt-ltb, le-ltb}
use Rattle.std.proofs.lemmas.List.{get_or-set_same, length-append, length-map, length-set}
use Rattle.std.proofs.lemmas.Option.{slice_get-get_or, slice_get_within}
use Rattle.op_types.specs.declared.op.Leaf.{Leaf}
use Rattle.op_types.specs.Spelling.{IsLeaf}
use Rattle.world_book.specs.declared.took.Took.{Took}
use Rattle.world_book.specs.declared.world.World.{World}
use Rattle.world_book.specs.Records.{IsIn, records_of}
use Rattle.world_book.proofs.Places.{place-either}
use Rattle.world_book.proofs.Leaves.{count-leaves, facts, leaf-shown}
use Rattle.world_audit.specs.Story.{base_of, front_of, prev, stands, story, vouched}
use Rattle.world_audit.proofs.Stories.{prev-smaller, story-length, unfolds, vouched-smaller}
use Rattle.audit_run.specs.Line.{History}
use Rattle.audit_run.specs.Table.{AreOf, AreUnknown, Begins, Grows, HasFront, Holds, HoldsAt, IsIndex, IsRow, IsTable}
use Rattle.audit_run.specs.declared.stories.Row.{Row}
use Rattle.audit_run.specs.declared.stories.Row.TheVariants.{Known, Unknown}
use Rattle.audit_run.proofs.Owned.{at-place}
use Rattle.audit_run.proofs.Records.{item-at}
use Rattle.audit_run.proofs.Tables.{begins-front, eq-or-not, grown-holds}

-- ---- what is held

pub held : (lines : List History) (wall i : ℕ) (o : Option (List Leaf)) → Holds lines wall o (Some i)
    → (M : List Leaf) × (o ≡ Some M) × Begins lines wall i M
unfolding Holds
held lines wall i None it = absurd it
held lines wall i (Some M) it = (M, refl, it)

pub holds-none : (lines : List History) (wall : ℕ) → Holds lines wall None None
unfolding Holds
holds-none lines wall = tt

pub holds-some : (lines : List History) (wall i : ℕ) (M : List Leaf) → Begins lines wall i M → Holds lines wall (Some M) (Some i)
unfolding Holds
holds-some lines wall i M it = it

pub none-mapped : (lines : List History) (wall : ℕ) (f : List Leaf → List Leaf) (o : Option (List Leaf))
    → Holds lines wall o None → Holds lines wall (option_map f o) None
unfolding Holds
none-mapped lines wall f None it = tt
none-mapped lines wall f (Some M) it = absurd it

pub some-mapped : (lines new : List History) (wall i j : ℕ) (f : List Leaf → List Leaf) (o : Option (List Leaf))
    → Holds lines wall o (Some i) → ((M : List Leaf) → o ≡ Some M → Begins lines wall i M → Begins new wall j (f M))
    → Holds new wall (option_map f o) (Some j)
unfolding Holds
some-mapped lines new wall i j f None it next = absurd it
some-mapped lines new wall i j f (Some M) it next = next M refl it

fronts-held : (lines : List History) (wall n : ℕ) (o : Option (List Leaf)) (place : Option ℕ) → Holds lines wall o place
    → Holds lines wall (option_map (take n) o) place
unfolding Holds
fronts-held lines wall n None None it = tt
fronts-held lines wall n None (Some i) it = absurd it
fronts-held lines wall n (Some M) None it = absurd it
fronts-held lines wall n (Some M) (Some i) it = begins-front lines wall i n M it

no-place : (lines : List History) (wall : ℕ) (M : List Leaf) → Holds lines wall (Some M) None → ⊥
unfolding Holds
no-place lines wall M it = it

-- ---- what is in front of a record's leaves

unequal : (a b : ℕ) → (a ≡ b → ⊥) → nat_eq a b ≡ false
unequal a b other = elim (cases_Bool (nat_eq a b)) [ inl is ↦ absurd (other (eqb-true a b is)) | inr not ↦ not ]

module _ (lines : List History) (r : Took) (b s : Option (List Leaf)) where
  level : r.from ≡ r.have → front_of r (base_of r b) s ≡ base_of r b
  level e = cond-true (nat_eq r.from r.have) (base_of r b)
      (option_and_then (λ (old : List Leaf). option_map (take r.from) s) (base_of r b)) (eq-eqb r.from r.have e)

  skips : (r.from ≡ r.have → ⊥) → front_of r (base_of r b) s
      ≡ option_and_then (λ (old : List Leaf). option_map (take r.from) s) (base_of r b)
  skips e = cond-false (nat_eq r.from r.have) (base_of r b)
      (option_and_then (λ (old : List Leaf). option_map (take r.from) s) (base_of r b)) (unequal r.from r.have e)

  base-below : 0 < r.have → base_of r b ≡ b
  base-below some = cond-true (nat_lt 0 r.have) b (Some []) (lt-ltb 0 r.have some)

  base-none : r.have ≡ 0 → base_of r b ≡ Some []
  base-none none = cond-false (nat_lt 0 r.have) b (Some []) (le-ltb 0 r.have (omega (arith, none)))

  pub front-below : (place : Option ℕ) → r.from ≡ r.have → 0 < r.have → Holds lines r.wall b place
      → Holds lines r.wall (front_of r (base_of r b) s) place
  front-below place e some it =
      subst (λ (o : Option (List Leaf)). Holds lines r.wall o place) (sym (level e ∙ base-below some)) it

  pub front-start : (i : ℕ) → r.from ≡ r.have → r.have ≤ 0 → Begins lines r.wall i []
      → Holds lines r.wall (front_of r (base_of r b) s) (Some i)
  front-start i e none it =
      subst (λ (o : Option (List Leaf)). Holds lines r.wall o (Some i))
      (sym (level e ∙ base-none (let zero : r.have ≡ 0 = omega (arith, none) in zero)))
      (holds-some lines r.wall i [] it)

  pub front-beside : (place : Option ℕ) → (r.from ≡ r.have → ⊥) → r.have ≡ 0 → Holds lines r.wall s place
      → Holds lines r.wall (front_of r (base_of r b) s) place
  front-beside place e none it =
      subst (λ (o : Option (List Leaf)). Holds lines r.wall o place)
      (sym (skips e ∙ ap (option_and_then (λ (old : List Leaf). option_map (take r.from) s)) (base-none none)))
      (fronts-held lines r.wall r.from s place it)

  pub front-absent : (below : Option ℕ) → (r.from ≡ r.have → ⊥) → (r.have ≡ 0 → ⊥) → below ≡ None
      → Holds lines r.wall b below → Holds lines r.wall (front_of r (base_of r b) s) None
  front-absent below e some none it =
      let there = subst (Holds lines r.wall b) none it in
      subst (λ (o : Option (List Leaf)). Holds lines r.wall o None)
      (sym (skips e ∙ ap (option_and_then (λ (old : List Leaf). option_map (take r.from) s))
      (base-below (pos r.have some) ∙ absent b there)))
      (holds-none lines r.wall)
    where
      pos : (n : ℕ) → (n ≡ 0 → ⊥) → 0 < n
      pos zero some = absurd (some refl)
      pos (suc n) some = omega arith

      absent : (o : Option (List Leaf)) → Holds lines r.wall o None → o ≡ None
      absent None it = refl
      absent (Some M) it = absurd (no-place lines r.wall M it)

  pub front-skips : (below : Option ℕ) (place : Option ℕ) (i : ℕ) → (r.from ≡ r.have → ⊥) → (r.have ≡ 0 → ⊥) → below ≡ Some i
      → Holds lines r.wall b below → Holds lines r.wall s place → Holds lines r.wall (front_of r (base_of r b) s) place
  front-skips below place i e some is it other =
      let there = held lines r.wall i b (subst (Holds lines r.wall b) is it) in
      subst (λ (o : Option (List Leaf)). Holds lines r.wall o place)
      (sym (skips e ∙ ap (option_and_then (λ (old : List Leaf). option_map (take r.from) s))
      (base-below (pos r.have some) ∙ there.1)))
      (fronts-held lines r.wall r.from s place other)
    where
      pos : (n : ℕ) → (n ≡ 0 → ⊥) → 0 < n
      pos zero some = absurd (some refl)
      pos (suc n) some = omega arith

-- ---- the records of a kept world

-- each of these, by its place
pub all-places : {A : Type 0} (P : A → Type 0) (xs : List A) → ((i : ℕ) (x : A) → slice_get xs i ≡ Some x → P x)
    → AllByRecursion P xs
all-places P [] each = tt
all-places P (x ∷ xs) each = (each 0 x refl, all-places P xs (λ i y at. each (suc i) y at))

abbrev pub skipped : World → Took → Option Took
skipped w r = if nat_eq r.from r.have then None else vouched w r

module _ (w : World) (records : List Took) (index : IsIndex w records) (r : Took) (at : IsIn (records_of w) r) where
  pub leaves-spelled : AllByRecursion IsLeaf r.leaves
  leaves-spelled = all-places IsLeaf r.leaves (λ i l here. (leaf-shown index.d w index.kept r at i l here).is_leaf)

  pub count : r.from + length r.leaves ≡ r.size
  count = count-leaves index.d w index.kept r at

  pub prev-less : (p : Took) → prev w r ≡ Some p → (p.wall ≡ r.wall) × (p.size < r.size)
  prev-less p is = let it = (prev-smaller index.d w index.kept r p at is).0 in (it.wall, it.fewer)

  skip-is : (s : Took) → skipped w r ≡ Some s → vouched w r ≡ Some s
  skip-is s is = elim (cases_Bool (nat_eq r.from r.have)) [
    | inl level ↦ absurd (let e = sym (cond-true (nat_eq r.from r.have) None (vouched w r) level) ∙ is in cc)
    | inr skip ↦ sym (cond-false (nat_eq r.from r.have) None (vouched w r) skip) ∙ is
  ]

  pub skip-less : (s : Took) → skipped w r ≡ Some s → (s.wall ≡ r.wall) × (s.size < r.size)
  skip-less s is = let it = (vouched-smaller index.d w index.kept r s at (skip-is s is)).0 in (it.wall, it.fewer)

  -- where the record doesn't skip, what is beside it is not looked at
  same-front : (b : Option (List Leaf)) → front_of r (base_of r b) (option_and_then (story w) (skipped w r))
      ≡ front_of r (base_of r b) (option_and_then (story w) (vouched w r))
  same-front b = elim (cases_Bool (nat_eq r.from r.have)) [
    | inl level ↦
        cond-true (nat_eq r.from r.have) (base_of r b) (option_and_then (λ (old : List Leaf). option_map (take r.from) (option_and_then (story w) (skipped w r))) (base_of r b)) level
        ∙ sym (cond-true (nat_eq r.from r.have) (base_of r b) (option_and_then (λ (old : List Leaf). option_map (take r.from) (option_and_then (story w) (vouched w r))) (base_of r b)) level)
    | inr skip ↦
        ap (λ (o : Option Took). front_of r (base_of r b) (option_and_then (story w) o)) (cond-false (nat_eq r.from r.have) None (vouched w r) skip)
  ]

  pub story-stands : stands r (option_and_then (story w) (prev w r)) (option_and_then (story w) (skipped w r)) ≡ story w r
  story-stands =
      ap (option_map (λ (front : List Leaf). front ++ r.leaves)) (same-front (option_and_then (story w) (prev w r)))
      ∙ sym (unfolds index.d w index.kept r at)

  pub front-long : (M : List Leaf)
      → front_of r (base_of r (option_and_then (story w) (prev w r))) (option_and_then (story w) (skipped w r)) ≡ Some M
      → length M ≡ r.from
  front-long M is =
      let whole : story w r ≡ Some (M ++ r.leaves) = sym story-stands ∙ ap (option_map (λ (front : List Leaf). front ++ r.leaves)) is in
      let long = story-length index.d w index.kept r (M ++ r.leaves) at whole in
      let parts = length-append M r.leaves in
      let all = count in
      omega arith

grown-row : (w : World) (lines new : List History) (r : Took) (row : Row) → Grows lines new → IsRow w lines r row → IsRow w new r row
unfolding IsRow
grown-row w lines new r Unknown grows it = tt
grown-row w lines new r (Known place) grows it = grown-holds lines new grows r.wall (story w r) place it

set-same-row : {A : Type 0} (rows : List A) (i : ℕ) (row : A) → i < length rows → slice_get (set rows i row) i ≡ Some row
set-same-row rows i row less =
    let long = length-set rows i row in
    slice_get-get_or (set rows i row) i row (omega arith) ∙ ap Some (get_or-set_same rows i row row less)

set-else-row : {A : Type 0} (rows : List A) (i j : ℕ) (h x : A) → (j ≡ i → ⊥) → slice_get (set rows i h) j ≡ Some x
    → slice_get rows j ≡ Some x
set-else-row [] i j h x other at = absurd cc
set-else-row (y ∷ ys) zero zero h x other at = absurd (other refl)
set-else-row (y ∷ ys) zero (suc j) h x other at = at
set-else-row (y ∷ ys) (suc i) zero h x other at = at
set-else-row (y ∷ ys) (suc i) (suc j) h x other at = set-else-row ys i j h x (λ e. other (ap suc e)) at

-- ---- a record that is reached

pub absent-holds : (w : World) (lines : List History) (records : List Took) (place : Option ℕ) → place ≡ None
    → HoldsAt w lines (option_and_then (slice_get records) place) None
absent-holds w lines records place none wall on =
    subst (λ (o : Option ℕ). Holds lines wall (option_and_then (story w) (option_and_then (slice_get records) o)) None)
    (sym none) (holds-none lines wall)

pub present-holds : (w : World) (lines : List History) (records : List Took) (place line : Option ℕ) (i : ℕ) (r : Took)
    → place ≡ Some i → slice_get records i ≡ Some r → Holds lines r.wall (story w r) line
    → HoldsAt w lines (option_and_then (slice_get records) place) line
present-holds w lines records place line i r is there it wall on =
    let found : option_and_then (slice_get records) place ≡ Some r = ap (option_and_then (slice_get records)) is ∙ there in
    subst (λ (o : Option Took). Holds lines wall (option_and_then (story w) o) line) (sym found)
    (subst (λ (n : ℕ). Holds lines n (story w r) line) (on r found) it)

pub known-holds : (w : World) (lines : List History) (rows : List Row) (i : ℕ) (r : Took) (row : Row) (line : Option ℕ)
    → IsTable w lines rows → slice_get (records_of w) i ≡ Some r → slice_get rows i ≡ Some row → row ≡ Known line
    → Holds lines r.wall (story w r) line
unfolding IsRow
known-holds w lines rows i r row line table there at is =
    subst (IsRow w lines r) is (table.each i r row there at)

pub table-set : (w : World) (lines new : List History) (rows : List Row) (i : ℕ) (r : Took) (line : Option ℕ)
    → IsTable w lines rows → Grows lines new → AreOf w new → slice_get (records_of w) i ≡ Some r
    → Holds new r.wall (story w r) line → IsTable w new (set rows i (Known line))
unfolding IsRow
table-set w lines new rows i r line table grows owners there it = record {
  count = length-set rows i (Known line) ∙ table.count;
  each = λ k s row here at. elim (eq-or-not k i) [
    | inl same ↦
        let less : i < length rows = let n = slice_get_within (records_of w) i r there in let c = table.count in omega arith in
        let set-row = set-same-row rows i (Known line) less in
        let row-at : slice_get (set rows i (Known line)) i ≡ Some row = ap (slice_get (set rows i (Known line))) (sym same) ∙ at in
        let rec-at : slice_get (records_of w) i ≡ Some s = ap (slice_get (records_of w)) (sym same) ∙ here in
        let e : Known line ≡ row = cc in
        let f : r ≡ s = cc in
        subst (IsRow w new s) e (subst (λ (t : Took). Holds new t.wall (story w t) line) f it)
    | inr other ↦ grown-row w lines new s row grows (table.each k s row here (set-else-row rows i k (Known line) row other at))
  ];
  owners = owners;
}

-- ---- one step of the way to a record

-- the record at the place, and those that it rests on
pub record Step (w : World) (records : List Took) (fuel i : ℕ) (r : Took) : Type 0 where
  pub kept : IsIn (records_of w) r
  pub there : slice_get (records_of w) i ≡ Some r
  pub here : slice_get records i ≡ Some r
  pub some : 1 ≤ fuel
  pub size : r.size ≤ fuel

pub step : {B : Type 0} (f : B → Took) (w : World) (items : List B) (index : IsIndex w (map f items)) (place : Option ℕ) (fuel i : ℕ)
    (b : B) → place ≡ Some i → IfSome place (λ k. k < length (map f items)) → b ≡ get_or items i b
    → ((r : Took) → option_and_then (slice_get (map f items)) place ≡ Some r → r.size ≤ fuel) → Step w (map f items) fuel i (f b)
step f w items index place fuel i b is within at low =
    let many = length-map items f in
    let less : i < length (map f items) = subst (λ (o : Option ℕ). IfSome o (λ k. k < length (map f items))) is within in
    let here = item-at f items items refl i b (omega (arith, less, many)) at in
    let there = ap (λ (rs : List Took). slice_get rs i) (sym index.all) ∙ here in
    let kept : IsIn (records_of w) (f b) = record { place = i; there = there } in
    let size = low (f b) (ap (option_and_then (slice_get (map f items))) is ∙ here) in
    let parts = count w (map f items) index (f b) kept in
    let some = (facts index.d w index.kept (f b) kept).accepted.some in
    record { kept = kept; there = there; here = here; some = omega (arith, size, some); size = size }

pub prev-fuel : (w : World) (records : List Took) (index : IsIndex w records) (fuel i : ℕ) (r : Took) (place : Option ℕ)
    → Step w records fuel i r → option_and_then (slice_get records) place ≡ prev w r
    → (p : Took) → option_and_then (slice_get records) place ≡ Some p → p.size ≤ fuel - 1
prev-fuel w records index fuel i r place it is p at =
    let less = (prev-less w records index r it.kept p (sym is ∙ at)).1 in let size = it.size in omega arith

pub skip-fuel : (w : World) (records : List Took) (index : IsIndex w records) (fuel i : ℕ) (r : Took) (place : Option ℕ)
    → Step w records fuel i r → option_and_then (slice_get records) place ≡ skipped w r
    → (p : Took) → option_and_then (slice_get records) place ≡ Some p → p.size ≤ fuel - 1
skip-fuel w records index fuel i r place it is p at =
    let less = (skip-less w records index r it.kept p (sym is ∙ at)).1 in let size = it.size in omega arith

pub two-fronts : (w : World) (records : List Took) (index : IsIndex w records) (fuel i : ℕ) (r : Took) (first second : List History)
    (p s below beside : Option ℕ) → Step w records fuel i r
    → option_and_then (slice_get records) p ≡ prev w r → option_and_then (slice_get records) s ≡ skipped w r
    → HoldsAt w first (option_and_then (slice_get records) p) below → Grows first second
    → HoldsAt w second (option_and_then (slice_get records) s) beside
    → HasFront second r below beside (option_and_then (story w) (prev w r)) (option_and_then (story w) (skipped w r))
two-fronts w records index fuel i r first second p s below beside it pis sis one grows two = record {
  below_is = subst (λ (o : Option Took). Holds second r.wall (option_and_then (story w) o) below) pis
      (grown-holds first second grows r.wall (option_and_then (story w) (option_and_then (slice_get records) p)) below
      (one r.wall (λ q at. (prev-less w records index r it.kept q (sym pis ∙ at)).0)));
  beside_is = subst (λ (o : Option Took). Holds second r.wall (option_and_then (story w) o) beside) sis
      (two r.wall (λ q at. (skip-less w records index r it.kept q (sym sis ∙ at)).0));
  long = front-long w records index r it.kept;
}

pub there-at : {A : Type 0} (xs : List A) (i : ℕ) → i < length xs → (x : A) × (slice_get xs i ≡ Some x)
there-at [] i less = absurd (omega (arith, less))
there-at (x ∷ xs) zero less = (x, refl)
there-at (x ∷ xs) (suc i) less = there-at xs i (omega (arith, less))

pub known-at : (w : World) (records : List Took) (index : IsIndex w records) (lines : List History) (rows : List Row)
    (place line : Option ℕ) (i : ℕ) (row : Row) → IsTable w lines rows → place ≡ Some i
    → IfSome place (λ k. k < length records) → row ≡ get_or rows i row → row ≡ Known line
    → HoldsAt w lines (option_and_then (slice_get records) place) line
known-at w records index lines rows place line i row table is within at known =
    let less : i < length records = subst (λ (o : Option ℕ). IfSome o (λ k. k < length records)) is within in
    let all = ap length index.all in
    let count = table.count in
    let one = there-at records i less in
    let there = ap (λ (rs : List Took). slice_get rs i) (sym index.all) ∙ one.1 in
    present-holds w lines records place line i one.0 is one.1
    (known-holds w lines rows i one.0 row line table there (at-place rows i row (omega arith) at) known)

-- ---- all records

none-of : (w : World) → AreOf w []
unfolding AreOf
none-of w i line at = absurd cc

row-unknown : (w : World) (lines : List History) (r : Took) → IsRow w lines r Unknown
unfolding IsRow
row-unknown w lines r = tt

pub table-begins : (w : World) (lines : List History) (rows : List Row) → lines ≡ [] → length rows ≡ length (records_of w) → AreUnknown rows
    → IsTable w lines rows
table-begins w lines rows none many unknown = record {
  count = many;
  each = λ k r row here at. subst (IsRow w lines r) (sym (unknown k row at)) (row-unknown w lines r);
  owners = subst (AreOf w) (sym none) (none-of w);
}

abbrev pub AllHeld : World → List History → List (Option ℕ) → Type 0
AllHeld w lines places = (k : ℕ) (r : Took) (place : Option ℕ) → slice_get (records_of w) k ≡ Some r
    → slice_get places k ≡ Some place → Holds lines r.wall (story w r) place

pub none-held : (w : World) (lines : List History) (places : List (Option ℕ)) → places ≡ [] → AllHeld w lines places
none-held w lines places none k r place here at = absurd (let e = ap (λ (ps : List (Option ℕ)). slice_get ps k) (sym none) ∙ at in no-item k place e)
  where
    no-item : (k : ℕ) (place : Option ℕ) → slice_get [] k ≡ Some place → ⊥
    no-item k place e = cc

pub more-held : (w : World) (R : List Took) (lines new : List History) (old more : List (Option ℕ)) (i : ℕ) (place : Option ℕ)
    → R ≡ records_of w → length old ≡ i → more ≡ old ++ place ∷ [] → Grows lines new → AllHeld w lines old
    → HoldsAt w new (option_and_then (slice_get R) (Some i)) place → AllHeld w new more
more-held w R lines new old more i place all long is grows before here k r p at there =
    elim (place-either old (place ∷ []) k p (ap (λ (ps : List (Option ℕ)). slice_get ps k) (sym is) ∙ there)) [
      | inl front ↦ grown-holds lines new grows r.wall (story w r) p (before k r p at front)
      | inr behind ↦
          let last = only place (k - length old) p behind.1 in
          let past = behind.0 in
          let zero_is = last.0 in
          let e : k ≡ i = omega (arith, past, zero_is, long) in
          let found : slice_get R i ≡ Some r = ap (slice_get R) (sym e) ∙ ap (λ (rs : List Took). slice_get rs k) all ∙ at in
          subst (Holds new r.wall (story w r)) last.1
          (subst (λ (o : Option Took). Holds new r.wall (option_and_then (story w) o) place) found
          (here r.wall (λ s it. let same : r ≡ s = (let f = found in cc) in ap (λ (t : Took). t.wall) (sym same))))
    ]
  where
    only : (x : Option ℕ) (n : ℕ) (y : Option ℕ) → slice_get (x ∷ []) n ≡ Some y → (n ≡ 0) × (x ≡ y)
    only x zero y at = (refl, let same : x ≡ y = cc in same)
    only x (suc n) y at = absurd cc

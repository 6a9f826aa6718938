-- The histories of the records that a record's comparisons speak of.
use Rattle.std.proofs.Common.{◌≡◌, ◌∙◌, ◌⊎◌, inl, inr, ℕ, suc, true, false, ◌+◌, ◌<◌, ◌≤◌, List, [], ◌∷◌, ◌++◌, length, map, take, get_or, Option, Some, None, refl, sym, ap, subst, arith}
use Rattle.std.specs.Prelude.{IfSome, ◌&&◌, nat_lt, option_and_then, slice_get}
use Rattle.std.specs.List.{flat_map}
use Rattle.std.proofs.lemmas.List.{append-nil, length-append, length-map, take-append-le, take_all}
use Rattle.std.proofs.lemmas.Option.{slice_get_within}
use Rattle.std.proofs.lemmas.Bool.{cases_Bool, cond-true, cond-false}
use Rattle.pruned_list.specs.PrunedList.{PrunedList}
use Rattle.wall_law.specs.State.{state_of}
use Rattle.world_book.specs.Kept.{lists_of}
use Rattle.world_book.specs.Records.{is_honest}
use Rattle.dict_proof.specs.View.{list_view}
use Rattle.world_book.proofs.Leaves.{count-leaves, facts, leaf-view}
use Rattle.world_book.proofs.Records.{record-found}
use Rattle.fr_digest.specs.Digest.{Digest}
use Rattle.op_types.specs.declared.op.Leaf.{Leaf}
use Rattle.hist_proof.specs.Pruned.{cut}
use Rattle.hist_proof.specs.View.{tree_view}
use Rattle.world_book.specs.declared.took.Took.{Took}
use Rattle.world_book.specs.declared.world.World.{World}
use Rattle.world_book.specs.Records.{IsIn, records_of}
use Rattle.world_audit.specs.Comparisons.{Comparison, base, base_compared, compared, dict, dicts_compared, front_with, lists, owner_of, record_compared, seen_by, some_in, texts_of, tree_with}
use Rattle.world_audit.specs.Story.{prev, record_seen, story}
use Rattle.world_audit.proofs.Stories.{prev-smaller, story-length}
use Rattle.audit_run.specs.Compared.{Compared}
use Rattle.audit_run.specs.Fronts.{IsLong, compared_on, fronts_compared, view_on}
use Rattle.audit_run.specs.Line.{History}
use Rattle.audit_run.specs.Table.{AreOf, ArePlaces, Begins, Holds, IsIndex}
use Rattle.audit_run.proofs.Comparing.{compares, trees_cut}
use Rattle.audit_run.proofs.Owned.{at-place}
use Rattle.audit_run.proofs.Reaching.{held, there-at}
use Rattle.audit_run.proofs.Tables.{begins-within}

-- what a history begins with is its front of that length
pub begins-take : (lines : List History) (wall k : ℕ) (M : List Leaf) (h : History) (n : ℕ) → Begins lines wall k M → h ≡ get_or lines k h
    → length M ≡ n → (n ≤ length h.leaves) × (take n h.leaves ≡ M)
begins-take lines wall k M h n it is long =
    let here = at-place lines k h (begins-within lines wall k M it) is in
    let there = it.there in
    let same : it.line ≡ h = cc in
    let all : h.leaves ≡ M ++ it.rest = ap (λ (x : History). x.leaves) (sym same) ∙ it.leaves in
    let count = ap length all ∙ length-append M it.rest in (
      omega (arith, count, long),
      ap (take n) all ∙ take-append-le n M it.rest (omega (arith, long)) ∙ take_all n M (omega (arith, long)),
    )

absent-story : (lines : List History) (wall : ℕ) (o : Option (List Leaf)) → Holds lines wall o None → o ≡ None
unfolding Holds
absent-story lines wall None it = refl
absent-story lines wall (Some M) it = absurd it

-- a record at a place, and where its history stands
pub record Found (w : World) (R : List Took) (lines : List History) (o : Option Took) (i : ℕ) (q : Option ℕ) : Type 0 where
  pub s : Took
  pub here : slice_get R i ≡ Some s
  pub kept : IsIn (records_of w) s
  pub is : o ≡ Some s
  pub holds : Holds lines s.wall (story w s) q

module _ (w : World) (R : List Took) (index : IsIndex w R) (lines : List History) (places : List (Option ℕ)) (table : ArePlaces w lines places) where
  pub found-there : (place : Option ℕ) (o : Option Took) (i : ℕ) (q : Option ℕ) → place ≡ Some i → IfSome place (λ k. k < length R)
      → option_and_then (slice_get R) place ≡ o → slice_get places i ≡ Some q → Found w R lines o i q
  found-there place o i q is within found at =
      let less : i < length R = subst (λ (p : Option ℕ). IfSome p (λ k. k < length R)) is within in
      let it = there-at R i less in
      let there = ap (λ (rs : List Took). slice_get rs i) (sym index.all) ∙ it.1 in
      record {
        s = it.0;
        here = it.1;
        kept = record { place = i; there = there };
        is = sym found ∙ ap (option_and_then (slice_get R)) is ∙ it.1;
        holds = table.each i it.0 q there at;
      }

  pub line-within : (o : Option Took) (i k : ℕ) (q : Option ℕ) → Found w R lines o i q → q ≡ Some k → k < length lines
  line-within o i k q it is =
      let M = held lines it.s.wall k (story w it.s) (subst (Holds lines it.s.wall (story w it.s)) is it.holds) in
      begins-within lines it.s.wall k M.0 M.2

  -- ---- fronts

  pub no-fronts : (d : Digest) (v : ℕ) (N : List Leaf) (place : Option ℕ) → place ≡ None
      → Compared d (fronts_compared w v N (option_and_then (slice_get R) place)) None
  no-fronts d v N place none =
      subst (λ (p : Option ℕ). Compared d (fronts_compared w v N (option_and_then (slice_get R) p)) None) (sym none) ((compares d).none)

  pub no-story-fronts : (d : Digest) (v : ℕ) (N : List Leaf) (o : Option Took) (i : ℕ) (q : Option ℕ) → Found w R lines o i q → q ≡ None
      → Compared d (fronts_compared w v N o) None
  no-story-fronts d v N o i q it none =
      let no = absent-story lines it.s.wall (story w it.s) (subst (Holds lines it.s.wall (story w it.s)) none it.holds) in
      subst (λ (p : Option Took). Compared d (fronts_compared w v N p) None) (sym it.is)
      (subst (λ (m : Option (List Leaf)). Compared d (map (front_with N v) (some_in m) ++ []) None) (sym no) ((compares d).none))

  pub fronts-are : (v : ℕ) (N : List Leaf) (o : Option Took) (i k : ℕ) (q : Option ℕ) (h : History) → Found w R lines o i q → q ≡ Some k
      → h ≡ get_or lines k h → ((s : Took) → o ≡ Some s → s.size ≡ v)
      → (v ≤ length h.leaves) × (fronts_compared w v N o ≡ lists (texts_of (take v N)) (texts_of (take v h.leaves)) ∷ [])
  fronts-are v N o i k q h it is at sized =
      let M = held lines it.s.wall k (story w it.s) (subst (Holds lines it.s.wall (story w it.s)) is it.holds) in
      let long = story-length index.d w index.kept it.s M.0 it.kept M.1 ∙ sized it.s it.is in
      let both = begins-take lines it.s.wall k M.0 h v M.2 at long in (
        both.0,
        ap (fronts_compared w v N) it.is ∙ ap (λ (m : Option (List Leaf)). map (front_with N v) (some_in m) ++ []) M.1
            ∙ ap (λ (ls : List Leaf). lists (texts_of (take v N)) (texts_of ls) ∷ []) (sym both.1),
      )

  -- ---- the base

  abbrev gathered : Took → Option Took → List Comparison
  gathered r o = flat_map (λ (b : Took). flat_map (tree_with r b) (some_in (story w b))) (some_in o)

  pub no-base : (d : Digest) (r : Took) (place : Option ℕ) → place ≡ None → option_and_then (slice_get R) place ≡ base w r
      → Compared d (base_compared w r) None
  no-base d r place none is =
      subst (λ (o : Option Took). Compared d (gathered r o) None) (ap (option_and_then (slice_get R)) (sym none) ∙ is) ((compares d).none)

  pub no-story-base : (d : Digest) (r : Took) (i : ℕ) (q : Option ℕ) → Found w R lines (base w r) i q → q ≡ None
      → Compared d (base_compared w r) None
  no-story-base d r i q it none =
      let no = absent-story lines it.s.wall (story w it.s) (subst (Holds lines it.s.wall (story w it.s)) none it.holds) in
      subst (λ (o : Option Took). Compared d (gathered r o) None) (sym it.is)
      (subst (λ (m : Option (List Leaf)). Compared d (flat_map (tree_with r it.s) (some_in m) ++ []) None) (sym no) ((compares d).none))

  pub base-is : (r : Took) (i k n : ℕ) (q : Option ℕ) (h : History) (s : Took) → Found w R lines (base w r) i q → q ≡ Some k
      → h ≡ get_or lines k h → slice_get R i ≡ Some s → s.size ≡ n
      → (n ≤ length h.leaves) × (base_compared w r ≡ trees_cut (texts_of (take n h.leaves)) (cut (tree_view r.proof) r.size n))
  base-is r i k n q h s it is at there size =
      let here = it.here in
      let same : it.s ≡ s = cc in
      let sized : it.s.size ≡ n = ap (λ (t : Took). t.size) same ∙ size in
      let M = held lines it.s.wall k (story w it.s) (subst (Holds lines it.s.wall (story w it.s)) is it.holds) in
      let long = story-length index.d w index.kept it.s M.0 it.kept M.1 ∙ sized in
      let both = begins-take lines it.s.wall k M.0 h n M.2 at long in (
        both.0,
        ap (gathered r) it.is ∙ ap (λ (m : Option (List Leaf)). flat_map (tree_with r it.s) (some_in m) ++ []) M.1
            ∙ append-nil (tree_with r it.s M.0 ++ []) ∙ append-nil (tree_with r it.s M.0)
            ∙ ap (λ (m : ℕ). trees_cut (texts_of M.0) (cut (tree_view r.proof) r.size m)) sized
            ∙ ap (λ (ls : List Leaf). trees_cut (texts_of ls) (cut (tree_view r.proof) r.size n)) (sym both.1),
      )

pub found-less : {B : Type 0} (f : B → Took) (items : List B) (place : Option ℕ) (i : ℕ) → place ≡ Some i
    → IfSome place (λ k. k < length (map f items)) → i < length items
found-less f items place i is within =
    let less : i < length (map f items) = subst (λ (p : Option ℕ). IfSome p (λ k. k < length (map f items))) is within in
    let many = length-map items f in omega arith

-- ---- the comparisons over the history that is held

-- a history that goes on
pub fronts-same : (w : World) (v : ℕ) (L rest : List Leaf) (o : Option Took) → v ≤ length L
    → fronts_compared w v (L ++ rest) o ≡ fronts_compared w v L o
fronts-same w v L rest None within = refl
fronts-same w v L rest (Some s) within = by (story w s)
  where
    by : (m : Option (List Leaf)) → map (front_with (L ++ rest) v) (some_in m) ++ [] ≡ map (front_with L v) (some_in m) ++ []
    by None = refl
    by (Some M) = ap (λ (ls : List Leaf). lists (texts_of ls) (texts_of M) ∷ []) (take-append-le v L rest within)

pub dicts-same : (owner : ℕ) (L rest : List Leaf) (k : ℕ) (ps : List PrunedList) → k + length ps ≤ length L
    → dicts_compared owner (L ++ rest) k ps ≡ dicts_compared owner L k ps
unfolding dicts_compared
dicts-same owner L rest k [] within = refl
dicts-same owner L rest k (p ∷ ps) within =
    ap (λ (ls : List Leaf). dict p (state_of owner ls).entries ∷ dicts_compared owner (L ++ rest) (k + 1) ps)
    (take-append-le k L rest (omega (arith, within)))
    ∙ ap (λ cs. dict p (state_of owner (take k L)).entries ∷ cs) (dicts-same owner L rest (k + 1) ps (omega (arith, within)))

pub views-same : (w : World) (wall : ℕ) (L rest : List Leaf) (ls : List Leaf)
    → ((i : ℕ) (l : Leaf) → slice_get ls i ≡ Some l → l.op.view.size ≤ length L)
    → flat_map (view_on w wall (L ++ rest)) ls ≡ flat_map (view_on w wall L) ls
views-same w wall L rest [] each = refl
views-same w wall L rest (l ∷ ls) each =
    ap (λ cs. cs ++ flat_map (view_on w wall (L ++ rest)) ls)
    (fronts-same w l.op.view.size L rest (seen_by w wall l) (each 0 l refl))
    ∙ ap (λ cs. view_on w wall L l ++ cs) (views-same w wall L rest ls (λ i x at. each (suc i) x at))

-- the comparisons of a record that has the history L, with which the one that is held begins
pub compared-same : (w : World) (r : Took) (h : History) (L rest : List Leaf) → h.leaves ≡ L ++ rest → h.owner ≡ owner_of w r.wall
    → r.have ≤ length L → r.from + length (lists_of r) ≤ length L
    → ((i : ℕ) (l : Leaf) → slice_get r.leaves i ≡ Some l → l.op.view.size ≤ length L)
    → compared w r L ≡ compared_on w r h
unfolding compared
compared-same w r h L rest are own old shown seen =
    ap (λ cs. base_compared w r ++ cs)
    (ap (λ cs. cs ++ (dicts_compared (owner_of w r.wall) L r.from (lists_of r) ++ flat_map (view_on w r.wall L) r.leaves))
    (sym (fronts-same w r.have L rest (prev w r) old))
    ∙ ap (λ cs. fronts_compared w r.have (L ++ rest) (prev w r) ++ (cs ++ flat_map (view_on w r.wall L) r.leaves))
    (sym (dicts-same (owner_of w r.wall) L rest r.from (lists_of r) shown))
    ∙ ap (λ cs. fronts_compared w r.have (L ++ rest) (prev w r) ++ (dicts_compared (owner_of w r.wall) (L ++ rest) r.from (lists_of r) ++ cs))
    (sym (views-same w r.wall L rest r.leaves seen))
    ∙ ap (λ (o : ℕ). fronts_compared w r.have (L ++ rest) (prev w r) ++ (dicts_compared o (L ++ rest) r.from (lists_of r) ++ flat_map (view_on w r.wall (L ++ rest)) r.leaves)) (sym own)
    ∙ ap (λ (N : List Leaf). fronts_compared w r.have N (prev w r) ++ (dicts_compared h.owner N r.from (lists_of r) ++ flat_map (view_on w r.wall N) r.leaves)) (sym are))

pub seen-size : (w : World) (R : List Took) (index : IsIndex w R) (wall : ℕ) (l : Leaf) (s : Took) → seen_by w wall l ≡ Some s
    → s.size ≡ l.op.view.size
seen-size w R index wall l s is = by (cases_Bool (is_honest w l.op.author && nat_lt 0 l.op.view.size))
  where
    by : ((is_honest w l.op.author && nat_lt 0 l.op.view.size) ≡ true) ⊎ ((is_honest w l.op.author && nat_lt 0 l.op.view.size) ≡ false) → s.size ≡ l.op.view.size
    by (inl there) =
        (record-found index.d w index.kept l.op.author wall l.op.view.size s
        (sym (cond-true (is_honest w l.op.author && nat_lt 0 l.op.view.size) (record_seen w wall l) None there) ∙ is)).3
    by (inr none) =
        absurd (let e = sym (cond-false (is_honest w l.op.author && nat_lt 0 l.op.view.size) (record_seen w wall l) None none) ∙ is in cc)

pub first-at : (lines : List History) (k : ℕ) → k < length lines → (h : History) × (slice_get lines k ≡ Some h)
first-at lines k less = there-at lines k less

owners-at : (w : World) (lines : List History) → AreOf w lines → (k : ℕ) (h : History) → slice_get lines k ≡ Some h → h.owner ≡ owner_of w h.wall
unfolding AreOf
owners-at w lines own k h it = own k h it

-- ---- the comparisons of the record at a place

module _ (w : World) (R : List Took) (index : IsIndex w R) (lines : List History) (places : List (Option ℕ)) (table : ArePlaces w lines places)
    (i : ℕ) (r : Took) (q : Option ℕ) (at : slice_get R i ≡ Some r) (here : slice_get places i ≡ Some q) where
  there : slice_get (records_of w) i ≡ Some r
  there = ap (λ (rs : List Took). slice_get rs i) (sym index.all) ∙ at

  kept-there : IsIn (records_of w) r
  kept-there = record { place = i; there = there }

  pub no-record : (d : Digest) → q ≡ None → Compared d (record_compared w r) None
  no-record d none =
      let no = absent-story lines r.wall (story w r) (subst (Holds lines r.wall (story w r)) none (table.each i r q there here)) in
      subst (λ (m : Option (List Leaf)). Compared d (flat_map (compared w r) (some_in m)) None) (sym no) ((compares d).none)

  module _ (k : ℕ) (some : q ≡ Some k) where
    story-is : (M : List Leaf) × (story w r ≡ Some M) × Begins lines r.wall k M
    story-is = held lines r.wall k (story w r) (subst (Holds lines r.wall (story w r)) some (table.each i r q there here))

    pub record-within : k < length lines
    record-within = begins-within lines r.wall k story-is.0 story-is.2

    long-is : length story-is.0 ≡ r.size
    long-is = story-length index.d w index.kept r story-is.0 kept-there story-is.1

    pub record-ends : r.from + length r.dicts ≡ r.size
    record-ends =
        let parts = count-leaves index.d w index.kept r kept-there in
        let lists = (facts index.d w index.kept r kept-there).lists in omega arith

    pub record-old : (s : Took) → prev w r ≡ Some s → s.size ≡ r.have
    record-old s is = (prev-smaller index.d w index.kept r s kept-there is).1

    short-have : r.have ≤ r.size
    short-have =
        let have = (facts index.d w index.kept r kept-there).have in
        let later = (facts index.d w index.kept r kept-there).accepted.later in omega arith

    short-view : (j : ℕ) (l : Leaf) → slice_get r.leaves j ≡ Some l → l.op.view.size ≤ r.size
    short-view j l it =
        let early = leaf-view index.d w index.kept r kept-there j l it in
        let within = slice_get_within r.leaves j l it in
        let parts = count-leaves index.d w index.kept r kept-there in omega arith

    begins-at : (h : History) → slice_get lines k ≡ Some h → story-is.2.line ≡ h
    begins-at h it = let e = story-is.2.there in let same : story-is.2.line ≡ h = cc in same

    pub record-long : (h : History) → slice_get lines k ≡ Some h → IsLong r h
    record-long h it =
        let all = ap length (ap (λ (x : History). x.leaves) (sym (begins-at h it)) ∙ story-is.2.leaves) ∙ length-append story-is.0 story-is.2.rest in
        let long = long-is in
        let old = short-have in
        let ends = record-ends in
        record {
          old = omega arith;
          shown = omega arith;
          seen = λ j l there'. let low = short-view j l there' in omega arith;
        }

    pub record-is : (h : History) → slice_get lines k ≡ Some h → record_compared w r ≡ compared_on w r h
    record-is h it =
        let same = begins-at h it in
        let are = ap (λ (x : History). x.leaves) (sym same) ∙ story-is.2.leaves in
        let own = owners-at w lines table.owners k h it ∙ ap (owner_of w) (ap (λ (x : History). x.wall) (sym same) ∙ story-is.2.same_wall) in
        let long = long-is in
        let old = short-have in
        let ends = record-ends in
        let count = length-map r.dicts list_view in
        ap (λ (m : Option (List Leaf)). flat_map (compared w r) (some_in m)) story-is.1
        ∙ append-nil (compared w r story-is.0)
        ∙ compared-same w r h story-is.0 story-is.2.rest are own (omega arith) (omega arith) (λ j l there'. let low = short-view j l there' in omega arith)

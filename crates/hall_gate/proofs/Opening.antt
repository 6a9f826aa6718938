-- The steps by which the value comes into its slot.
use Rattle.std.proofs.Common.{◌≡◌, ◌≢◌, ℕ, zero, suc, ◌==◌, ◌+◌, ◌<◌, ◌≤◌, ◌⊎◌, eq-eqb, ne_eqb, List, [], ◌∷◌, length, get_or, set, sym, refl, ap, ◌∙◌, subst, inl, inr, ⊎_elim, arith}
use Rattle.std.specs.Prelude.{Some, None}
use Rattle.std.specs.List.{AllByRecursion, AllPairs, Contains}
use Rattle.std.proofs.lemmas.List.Elements.{recursion_from_All, All-contains_itself}
use mathlib.Core.Logic.{dite}
use native.Mathlib.Decide.{ℕ_discrete}
use mathlib.Core.Option as home
use mathlib.Core.Option.{some, none}
use lib.ListN.{get_elem?}
use Rattle.atomic_table.specs.Table.{step, takes, gives, Allows}
use Rattle.hall_gate.specs.declared.rule.Stage.{Stage}
use Rattle.hall_gate.specs.declared.rule.Stage.TheVariants.{Unborn, Opening, Idle}
use Rattle.hall_gate.specs.declared.rule.View.{View}
use Rattle.hall_gate.specs.Knowing.{total, one_if, charges_of, view, new_charges}
use Rattle.hall_gate.specs.Rule.{Lock, empty, opening, Charged, Knows, Kept, AreCallers, Ruled}
use Rattle.hall_gate.specs.Plays as plays
use Rattle.hall_gate.specs.Plays.{undealt, dealt, noted, joined}
use Rattle.hall_gate.proofs.Totals.{only}
use Rattle.fr_bytes.proofs.HistoryLaws.{begins_itself}

abbrev IsEmpty : Stage → Type 0
IsEmpty (Unborn l) = Unit {0}
IsEmpty _ = ⊥

abbrev IsOpening : Stage → Type 0
IsOpening (Opening l) = Unit {0}
IsOpening _ = ⊥

only_place : {A : Type 0} (x : A) (i : ℕ) (v : A) → get_elem? (x ∷ []) i ≡ some v → i ≡ 0
only_place x zero v e = refl
only_place x (suc i) v e = absurd (home.some-ne-none v (sym e))

-- no caller is there twice
count_other : (c : ℕ) (xs : List ℕ) → ((i : ℕ) → i < length xs → get_or xs i c ≢ c) → total (λ x. one_if (x == c)) xs ≡ 0
count_other c [] other = refl
count_other c (x ∷ xs) other = let rest = count_other c xs (λ i lt. other (suc i) (omega arith)) in
    let first : one_if (x == c) ≡ 0 = ap one_if (ne_eqb x c (other 0 (omega arith))) in omega arith

counted_once : (c : ℕ) (xs : List ℕ) → AllPairs (λ a b. a ≢ b) xs → total (λ x. one_if (x == c)) xs ≤ 1
counted_once c [] apart = omega arith
counted_once c (x ∷ xs) apart = dite (ℕ_discrete x c)
    (λ is. let rest = count_other c xs (λ i lt e. apart 0 (suc i) c (omega arith) (omega arith) (is ∙ sym e)) in
    let first : one_if (x == c) ≡ 1 = ap one_if (eq-eqb x c is) in omega arith)
    (λ ne. let rest = counted_once c xs (λ i j d below within. apart (suc i) (suc j) d (omega arith) (omega arith)) in
    let first : one_if (x == c) ≡ 0 = ap one_if (ne_eqb x c ne) in omega arith)

module _ {F : Type 0} (E : Type 0) where
  length-new : (f : F) (xs : List ℕ) → length (new_charges {E = E} f xs) ≡ length xs
  length-new f [] = refl
  length-new f (x ∷ xs) = ap suc (length-new f xs)

  charges_of-new : (f : F) (c : ℕ) (xs : List ℕ) → charges_of c (new_charges {E = E} f xs) ≡ total (λ x. one_if (x == c)) xs
  charges_of-new f c [] = refl
  charges_of-new f c (x ∷ xs) = ap (λ (n : ℕ). one_if (x == c) + n) (charges_of-new f c xs)

module _ {F E : Type 0} where
  all_new : (caller : E → ℕ) (callers : List ℕ) (f : F) (xs : List ℕ) → AllByRecursion (Contains callers) xs → AllByRecursion (Charged caller callers f []) (new_charges f xs)
  all_new caller callers f [] all = tt
  all_new caller callers f (x ∷ xs) all = (record { listed = all.0; same = refl; begins = begins_itself []; mine = refl }, all_new caller callers f xs all.1)

module _ {T F E : Type 0} (valid : T → Type 0) (fixed : T → F) (entries : T → List E) (legal : F → List E → Type 0) (caller : E → ℕ) (callers : List ℕ) where
  abbrev Rule : Lock T F E → Type 0
  Rule = Ruled valid fixed entries legal caller callers

  -- The slot is empty, and is taken.
  pub opens : (slots id : ℕ) → Allows Rule slots id (view (Unborn callers) [] [], []) 0 (λ n. n) (plays.opens (step slots 0 0 0 none) (view (Unborn callers) [] [], []))
  opens slots id s rule _ at small =
      let v : View F E = view (Unborn callers) [] [] in let w : View F E = view (Opening callers) [] [] in
      let empty_yet : AreCallers callers × (s ≡ empty callers) = ⊎_elim
      (λ (r : Kept valid fixed entries legal caller callers s). absurd (r.knows id v at).staged)
      (λ (b : AreCallers callers × ((s ≡ empty callers) ⊎ (s ≡ opening callers))). (
        b.0,
        ⊎_elim (λ (e : s ≡ empty callers). e)
            (λ (e : s ≡ opening callers). absurd (subst (λ (u : View F E). IsOpening u.stage) (only w id v (ap (λ (z : Lock T F E). get_elem? z.views id) (sym e) ∙ at)) tt)) b.1,
      )) rule in
      let is = empty_yet.1 in
      let zeroth : id ≡ 0 = only_place v id v (ap (λ (z : Lock T F E). get_elem? z.views id) (sym is) ∙ at) in (
        w,
        takes 0 None,
        ap (λ (z : Lock T F E). get_elem? z.homes 0) is,
        inr (
          empty_yet.0,
          inr ((λ i. record { words = set (is i).words 0 (get_or (is i).words 0 0); homes = set (is i).homes 0 none; views = set (is i).views id w })
              ∙ (λ i. record { words = 0 ∷ 0 ∷ []; homes = none ∷ []; views = set (v ∷ []) (zeroth i) w })),
        ),
        refl,
      )

  made : AreCallers callers → (x : T) → valid x → entries x ≡ [] → legal (fixed x) (entries x) → Kept valid fixed entries legal caller callers record { words = 0 ∷ 0 ∷ []; homes = some (Some x) ∷ []; views = view Idle (new_charges (fixed x) callers) [] ∷ [] }
  made are x good all law = record {
    fixed_part = fixed x;
    history = [];
    out = 0;
    words = refl;
    few = are.few;
    shared = omega (arith, length-new E (fixed x) callers);
    single = λ c. let once = counted_once c callers are.apart in omega (arith, charges_of-new E (fixed x) c callers);
    counted = refl;
    apart = λ t. omega arith;
    knows = λ j v there. subst (Knows caller callers (fixed x) [] 0) (only _ j v there)
        record { charged = all_new caller callers (fixed x) callers (recursion_from_All (Contains callers) callers (All-contains_itself callers)); heard = tt; staged = tt };
    known = tt;
    lawful = subst (legal (fixed x)) all law;
    place = inl record { value = x; there = refl; is = record { good = good; same = refl; all = all } };
  }

  -- The slot is given back with the value in it.
  pub fills : (slots id : ℕ) (x : T) → valid x → entries x ≡ [] → legal (fixed x) (entries x)
      → Allows Rule slots id (view (Opening callers) [] [], (0, Some x) ∷ []) 0 (λ n. n) (plays.fills fixed (step slots 0 0 0 none) (view (Opening callers) [] [], (0, Some x) ∷ []))
  fills slots id x good all law s rule _ at small =
      let v : View F E = view (Opening callers) [] [] in let w : View F E = view Idle (new_charges (fixed x) callers) [] in
      let opening_yet : AreCallers callers × (s ≡ opening callers) = ⊎_elim
      (λ (r : Kept valid fixed entries legal caller callers s). absurd (r.knows id v at).staged)
      (λ (b : AreCallers callers × ((s ≡ empty callers) ⊎ (s ≡ opening callers))). (
        b.0,
        ⊎_elim
            (λ (e : s ≡ empty callers). absurd (subst (λ (u : View F E). IsEmpty u.stage) (only (view (Unborn callers) [] []) id v (ap (λ (z : Lock T F E). get_elem? z.views id) (sym e) ∙ at)) tt))
            (λ (e : s ≡ opening callers). e) b.1,
      )) rule in
      let is = opening_yet.1 in
      let zeroth : id ≡ 0 = only_place v id v (ap (λ (z : Lock T F E). get_elem? z.views id) (sym is) ∙ at) in
      let same : record { words = set s.words 0 (get_or s.words 0 0); homes = set s.homes 0 (some (Some x)); views = set s.views id w } ≡ record { words = 0 ∷ 0 ∷ []; homes = some (Some x) ∷ []; views = w ∷ [] } =
      (λ i. record { words = set (is i).words 0 (get_or (is i).words 0 0); homes = set (is i).homes 0 (some (Some x)); views = set (is i).views id w })
      ∙ (λ i. record { words = 0 ∷ 0 ∷ []; homes = some (Some x) ∷ []; views = set (v ∷ []) (zeroth i) w }) in (
        w,
        gives,
        tt,
        inl (subst (Kept valid fixed entries legal caller callers) (sym same) (made opening_yet.0 x good all law)),
        refl,
      )

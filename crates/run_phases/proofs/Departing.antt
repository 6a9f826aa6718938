-- Lists that grow by what one lane more had.
use Rattle.std.proofs.Common.{◌≡◌, ◌∙◌, ◌+◌, List, [], ◌∷◌, ◌++◌, length, length-append, map, refl, sym, ap, append_assoc, arith}
use Rattle.std.proofs.lemmas.List.{append-nil, map-append}
use Rattle.std.specs.Iterator.{Yields}
use Rattle.std.specs.Vec.Iter.{into_iter_items, into_iter_len, into_iter_steps}
use Rattle.std.specs.declared.vec.IntoIter.{IntoIter}
use Rattle.script_form.specs.declared.outcome.Outcome.{Outcome}
use Rattle.session_run.specs.declared.lane.Lane.{Lane}
use Rattle.run_phases.specs.Phases.{outcomes_in}

pub grown : {A B : Type 0} (f : A → B) (new mid old : List B) (ys : List A) (x : A) → new ≡ mid ++ f x ∷ []
    → mid ≡ old ++ map f ys → new ≡ old ++ map f (ys ++ x ∷ [])
grown {B = B} f new mid old ys x e before =
    e ∙ ap (λ (l : List B). l ++ f x ∷ []) before ∙ append_assoc old (map f ys) (f x ∷ [])
    ∙ ap (λ (l : List B). old ++ l) (sym (map-append f ys (x ∷ [])))

pub made : {A B : Type 0} (f : A → B) (new mid : List B) (ys : List A) (x : A) → new ≡ mid ++ f x ∷ []
    → mid ≡ map f ys → new ≡ map f (ys ++ x ∷ [])
made {B = B} f new mid ys x e before =
    e ∙ ap (λ (l : List B). l ++ f x ∷ []) before ∙ sym (map-append f ys (x ∷ []))

-- what a vector has given, and what it still has, is all of it
given-front : {X A : Type 0} (s : IntoIter X A) (xs : List X) (t : IntoIter X A) → Yields into_iter_steps s xs t
    → into_iter_items s ≡ xs ++ into_iter_items t
given-front s [] t y = ap into_iter_items y
given-front {X} s (x ∷ xs) t y = y.1.0 ∙ ap (λ (ys : List X). x ∷ ys) (given-front y.0 xs t y.2)

given-long : {X A : Type 0} (s : IntoIter X A) (xs : List X) (t : IntoIter X A) → Yields into_iter_steps s xs t
    → into_iter_len s ≡ length xs + into_iter_len t
given-long s [] t y = let e = ap into_iter_len y in omega (e, arith)
given-long s (x ∷ xs) t y =
    let gone = y.1.1 in
    let rest = given-long y.0 xs t y.2 in
    omega (gone, rest, arith)

none-left : {A : Type 0} (xs : List A) → length xs ≡ 0 → xs ≡ []
none-left [] none = refl
none-left (x ∷ xs) none = absurd (omega (none, arith))

pub all-given : {X A : Type 0} (all : List X) (s : IntoIter X A) (xs : List X) (t : IntoIter X A)
    → into_iter_items s ≡ all → into_iter_len s ≡ length all → Yields into_iter_steps s xs t → into_iter_len t ≡ 0
    → xs ≡ all
all-given {X} all s xs t is long y end =
    let front = given-front s xs t y in
    let count = given-long s xs t y in
    let sum = length-append xs (into_iter_items t) in
    let same : length all ≡ length (xs ++ into_iter_items t) = ap length (sym is ∙ front) in
    let none = none-left (into_iter_items t) (omega (long, count, end, sum, same, arith)) in
    sym (append-nil xs) ∙ ap (λ (l : List X). xs ++ l) (sym none) ∙ sym front ∙ is

module _ {D W : Type 0} where
  outcomes-append : (ys : List (Lane D W)) (x : Lane D W)
      → outcomes_in (ys ++ x ∷ []) ≡ outcomes_in ys ++ x.session.outcomes
  outcomes-append [] x = append-nil x.session.outcomes
  outcomes-append (y ∷ ys) x =
      ap (λ (l : List Outcome). y.session.outcomes ++ l) (outcomes-append ys x)
      ∙ sym (append_assoc y.session.outcomes (outcomes_in ys) x.session.outcomes)

  pub told-more : (new mid old : List Outcome) (ys : List (Lane D W)) (x : Lane D W) → new ≡ mid ++ x.session.outcomes
      → mid ≡ old ++ outcomes_in ys → new ≡ old ++ outcomes_in (ys ++ x ∷ [])
  told-more new mid old ys x e before =
      e ∙ ap (λ (l : List Outcome). l ++ x.session.outcomes) before
      ∙ append_assoc old (outcomes_in ys) x.session.outcomes
      ∙ ap (λ (l : List Outcome). old ++ l) (sym (outcomes-append ys x))

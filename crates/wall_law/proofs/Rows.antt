-- Refusals by rows: none is told exactly where no row applies.
use Rattle.std.proofs.Common.{◌≡◌, Bool, true, false, ◌||◌, List, [], ◌∷◌, Option, Some, None, refl}
use Rattle.std.specs.Prelude.{is_none}
use Rattle.std.specs.Option.{option_map}
use Rattle.wall_law.specs.Rows.{row, first_of}

pub row-off : {R : Type 0} (holds : Bool) (refusal : R) → row holds refusal ≡ None → holds ≡ false
row-off true refusal e = absurd cc
row-off false refusal e = refl

pub off-row : {R : Type 0} (holds : Bool) (refusal : R) → holds ≡ false → row holds refusal ≡ None
off-row true refusal e = absurd cc
off-row false refusal e = refl

pub both-none : {R : Type 0} (r : Option R) (rows : List (Option R)) → first_of (r ∷ rows) ≡ None
    → (r ≡ None) × (first_of rows ≡ None)
both-none None rows e = (refl, e)
both-none (Some x) rows e = absurd cc

pub none-both : {R : Type 0} (r : Option R) (rows : List (Option R)) → r ≡ None → first_of rows ≡ None
    → first_of (r ∷ rows) ≡ None
none-both None rows a e = e
none-both (Some x) rows a e = absurd cc

pub or-off : (a b : Bool) → (a || b) ≡ false → (a ≡ false) × (b ≡ false)
or-off true b e = absurd cc
or-off false b e = (refl, e)

pub off-or : (a b : Bool) → a ≡ false → b ≡ false → (a || b) ≡ false
off-or true b e f = absurd cc
off-or false b e f = f

pub some-of : {A : Type 0} (x : Option A) → is_none x ≡ false → (a : A) × (x ≡ Some a)
some-of None e = absurd cc
some-of (Some a) e = (a, refl)

pub map-none : {A B : Type 0} (f : A → B) (x : Option A) → option_map f x ≡ None → x ≡ None
map-none f None e = refl
map-none f (Some a) e = absurd cc

-- no row applies
abbrev pub AllNone : {R : Type 0} → List (Option R) → Type 0
AllNone [] = Unit {0}
AllNone (r ∷ rows) = (r ≡ None) × AllNone rows

pub all-none : {R : Type 0} (rows : List (Option R)) → first_of rows ≡ None → AllNone rows
all-none [] e = tt
all-none (r ∷ rows) e = let both = both-none r rows e in (both.0, all-none rows both.1)

pub none-all : {R : Type 0} (rows : List (Option R)) → AllNone rows → first_of rows ≡ None
none-all [] each = refl
none-all (r ∷ rows) each = none-both r rows each.0 (none-all rows each.1)

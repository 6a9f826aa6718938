-- Refusals by rows: each row tells its refusal where its condition holds, and the first that applies counts.
use Rattle.std.specs.Prelude.{Bool, List, [], ◌∷◌, Option, Some, None, if◌then◌else◌}
use Rattle.std.specs.Option.{option_or}

-- a row: its refusal, where its condition holds
abbrev pub row : {R : Type 0} → Bool → R → Option R
row holds refusal = if holds then Some refusal else None

-- the first row that applies
abbrev pub first_of : {R : Type 0} → List (Option R) → Option R
first_of [] = None
first_of (r ∷ rows) = option_or r (first_of rows)

-- Which positions are to be shown: those from one on, and those listed.
use Rattle.std.specs.Prelude.{ℕ, Bool, ◌||◌, List, nat_eq, nat_le}
use Rattle.std.specs.List.{list_any}

abbrev pub is_wanted : ℕ → List ℕ → ℕ → Bool
is_wanted from positions k = nat_le from k || list_any (nat_eq k) positions

-- A count of 64 bits that goes up by one where it can has risen, and never falls.
use Rattle.std.proofs.Common.{ℕ, ◌-◌, ◌^◌, arith, inl, inr}
use Rattle.std.proofs.lemmas.Bool.{cases_lt}
use Rattle.fr_edges.specs.Faults.{Rose}
use Rattle.fr_edges.specs.Memory.{one_more}

pub one_more_rose : (n : ℕ) → Rose n (one_more n)
one_more_rose n =
    elim (cases_lt n (2 ^ 64 - 1)) [
      | inl lt ↦ inl (omega arith)
      | inr le ↦ inr (omega arith)
    ]

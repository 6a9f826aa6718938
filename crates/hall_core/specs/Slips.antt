-- Calls as they are handed in.
use Rattle.std.specs.Prelude.{ℕ}
use Rattle.hall_core.specs.declared.ask.Ask.{Ask}

-- who calls, and what is asked
pub record Slip : Type 0 where
  pub caller : ℕ
  pub ask : Ask

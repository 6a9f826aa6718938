-- The rows and the pairs of the tables.
use Rattle.std.proofs.Common.{◌≡◌, ◌<◌, ℕ, Some, None, refl, lit<, arith}
use Rattle.lms_params.specs.declared.pair.OtsRow.{OtsRow}
use Rattle.lms_params.specs.declared.pair.Pair.{Pair}
use Rattle.lms_params.specs.Parameters.{IsListed, IsOtsRow, ots_row, ots_row_at, pair_at}

pub row_1 : IsOtsRow 1 1 265 7
row_1 = (0, lit< tt, refl)

pub row_2 : IsOtsRow 2 2 133 6
row_2 = (1, lit< tt, refl)

pub row_3 : IsOtsRow 3 4 67 4
row_3 = (2, lit< tt, refl)

pub row_4 : IsOtsRow 4 8 34 0
row_4 = (3, lit< tt, refl)

pub ruleset listed_rows = (row_1, row_2, row_3, row_4)

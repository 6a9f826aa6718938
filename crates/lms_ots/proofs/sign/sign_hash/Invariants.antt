use Rattle.std.proofs.Common.{◌≡◌, ◌+◌, ◌*◌, ◌++◌, take}
use Rattle.std.specs.List.{flat_map, range_with_len}
use Rattle.lms_params.specs.Parameters.{ots_row}
use Rattle.lms_ots.specs.Digits.{u32str}
use Rattle.lms_ots.specs.OneTime.{signed_element}
use Rattle.lms_ots.proofs.sign.sign_hash.Given as goal

abbrev pub invariant-loop-i : goal.invariant-loop-i
invariant-loop-i g l = record {
  leaf : take 20 l.input ≡ l.id ++ u32str l.q;
  written : take (36 + 32 * l.i) l.out ≡ take 36 l.initial.out ++ flat_map (signed_element (ots_row g.row.CODE g.row.W g.row.P g.row.LS) l.id l.q l.private l.hash) (range_with_len 0 l.i);
}

use Rattle.std.proofs.Common.{◌≡◌, ◌++◌, take}
use Rattle.std.specs.List.{flat_map, range_with_len}
use Rattle.sha2.specs.Hashers.{Holds256}
use Rattle.lms_params.specs.Parameters.{ots_row}
use Rattle.lms_ots.specs.Digits.{u16str, u32str}
use Rattle.lms_ots.specs.OneTime.{public_element}
use Rattle.lms_ots.proofs.sign.ots_public.Given as goal

abbrev pub invariant-loop-i : goal.invariant-loop-i
invariant-loop-i g l = record {
  leaf : take 20 l.input ≡ l.id ++ u32str l.q;
  held : Holds256 l.hasher (l.id ++ u32str l.q ++ u16str 0x8080 ++ flat_map (public_element (ots_row g.row.CODE g.row.W g.row.P g.row.LS) l.id l.q l.private) (range_with_len 0 l.i));
}

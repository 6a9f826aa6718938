use Rattle.std.proofs.Common.{◌≡◌, ◌+◌, ◌-◌, ◌*◌, ◌/◌, ◌^◌, ◌≤◌, ◌<◌, ◌++◌, take}
use Rattle.std.specs.List.{flat_map, range_with_len}
use Rattle.lms_tree.specs.Signer.{sibling_in}
use Rattle.lms_tree.proofs.nodes.write_path.Given as goal

abbrev pub invariant-loop-j : goal.invariant-loop-j
invariant-loop-j l = record {
  placed : l.number ≡ (l.index + 2 ^ l.fn.pair.lms.h) / 2 ^ l.j;
  least : 2 ^ (l.fn.pair.lms.h - l.j) ≤ l.number;
  most : l.number < 2 * 2 ^ (l.fn.pair.lms.h - l.j);
  written : take (l.at + 32 * l.j) l.out ≡ take l.at l.initial.out ++ flat_map (sibling_in l.nodes (l.index + 2 ^ l.fn.pair.lms.h)) (range_with_len 0 l.j);
}

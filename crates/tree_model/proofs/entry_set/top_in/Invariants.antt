use Rattle.std.proofs.Common.{◌≡◌, drop, Some}
use Rattle.std.specs.Prelude.{slice_get}
use Rattle.tree_model.specs.AccessList.{priority_hash, greatest, top_of}
use Rattle.tree_model.proofs.entry_set.top_in.Given as goal

abbrev pub invariant-loop-i : goal.invariant-loop-i
invariant-loop-i l = record {
  at : slice_get l.entries l.place ≡ Some l.top;
  hash : l.top_hash ≡ priority_hash l.top.user;
  so_far : top_of l.entries ≡ Some (greatest l.top (drop l.i l.entries));
}

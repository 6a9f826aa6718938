use Rattle.std.proofs.Common.{◌≡◌, ◌++◌, length, map}
use Rattle.std.specs.List.{AllByRecursion}
use Rattle.std.specs.Vec.Iter.{into_iter_items, into_iter_len}
use Rattle.client_core.specs.Clients.{IsStart, opening_side}
use Rattle.client_core.specs.Sides.{IsSide, sides_view}
use Rattle.client_core.proofs.client.making.opening_sides.Given as goal

abbrev pub invariant-loop-start : goal.invariant-loop-start
invariant-loop-start l = record {
  done : sides_view l.sides.items ++ map (opening_side l.user) (into_iter_items l.start-iterator)
      ≡ map (opening_side l.user) (into_iter_items l.initial.start-iterator);
  sides : AllByRecursion IsSide (sides_view l.sides.items);
  starts : AllByRecursion (IsStart l.user) (into_iter_items l.start-iterator);
  left : into_iter_len l.start-iterator ≡ length (into_iter_items l.start-iterator);
}

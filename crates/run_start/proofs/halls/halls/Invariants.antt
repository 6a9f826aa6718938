use Rattle.std.proofs.Common.{◌≡◌, ◌++◌, [], length, map}
use Rattle.std.specs.List.{All, AllByRecursion}
use Rattle.std.specs.Vec.Iter.{into_iter_items, into_iter_len}
use Rattle.hall_core.specs.Standing as standing
use Rattle.run_start.specs.Parties.{IsWallParty, facts_of}
use Rattle.run_start.proofs.halls.halls.Given as goal

abbrev pub invariant-loop-party : goal.invariant-loop-party
invariant-loop-party g l = record {
  done : map (λ (hall : standing.Hall). hall.facts) l.halls.items
      ++ map (facts_of l.script l.keys) (into_iter_items l.party-iterator)
      ≡ map (facts_of l.script l.keys) (into_iter_items l.initial.party-iterator);
  fresh : All (λ (hall : standing.Hall). hall.entries ≡ []) l.halls.items;
  each : AllByRecursion (IsWallParty l.script) (into_iter_items l.party-iterator);
  left : into_iter_len l.party-iterator ≡ length (into_iter_items l.party-iterator);
}

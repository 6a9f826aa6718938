use Rattle.std.proofs.Common.{◌≡◌, ◌++◌, length, map}
use Rattle.std.specs.List.{AllByRecursion}
use Rattle.std.specs.Vec.Iter.{into_iter_items, into_iter_len}
use Rattle.client_core.specs.Clients.{client_view}
use Rattle.run_start.specs.Parties.{IsUserParty, client_of}
use Rattle.run_start.proofs.clients.clients.Given as goal

abbrev pub invariant-loop-party : goal.invariant-loop-party
invariant-loop-party g l = record {
  done : map client_view l.clients.items ++ map (client_of l.script l.shared) (into_iter_items l.party-iterator)
      ≡ map (client_of l.script l.shared) (into_iter_items l.initial.party-iterator);
  each : AllByRecursion (IsUserParty l.script) (into_iter_items l.party-iterator);
  left : into_iter_len l.party-iterator ≡ length (into_iter_items l.party-iterator);
}

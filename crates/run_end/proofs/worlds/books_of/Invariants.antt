use Rattle.std.proofs.Common.{◌≡◌, ◌++◌, length, map}
use Rattle.std.specs.List.{AllByRecursion}
use Rattle.std.specs.Vec.Iter.{into_iter_items, into_iter_len}
use Rattle.run_end.specs.Ends.{HasEnded, book_in}
use Rattle.run_end.proofs.worlds.books_of.Given as goal

abbrev pub invariant-loop-client : goal.invariant-loop-client
invariant-loop-client g l = record {
  split : l.yielded ++ into_iter_items l.client-iterator ≡ into_iter_items l.initial.client-iterator;
  count : into_iter_len l.client-iterator ≡ length (into_iter_items l.client-iterator);
  books_are : l.books ≡ map book_in l.yielded;
  ended : AllByRecursion (HasEnded g.D.Digester.digest_of) l.yielded;
}

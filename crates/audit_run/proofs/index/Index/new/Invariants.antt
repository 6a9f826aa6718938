use Rattle.std.proofs.Common.{◌≡◌, map, take}
use Rattle.std.specs.List.{flat_map}
use Rattle.world_book.specs.declared.book.UserBook.{UserBook}
use Rattle.audit_run.proofs.index.Index.new.Given as goal

abbrev pub invariant-loop-book : goal.invariant-loop-book
invariant-loop-book l =
    map (λ r. r.now) l.records.items ≡ flat_map (λ (b : UserBook). b.took) (take l.book-index l.book-items)

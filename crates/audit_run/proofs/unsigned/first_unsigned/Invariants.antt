use Rattle.std.proofs.Common.{drop}
use Rattle.world_book.specs.declared.book.UserBook.{UserBook}
use Rattle.audit_run.specs.Unsigned.{IsSearched, leaves_of}
use Rattle.audit_run.proofs.Searching.{Rest}
use Rattle.audit_run.proofs.unsigned.first_unsigned.Given as goal

abbrev pub invariant-loop-book : goal.invariant-loop-book
invariant-loop-book l =
    Rest (IsSearched l.world) (λ (b : UserBook). leaves_of b.took) (drop l.book-index l.book-items) l.book-items

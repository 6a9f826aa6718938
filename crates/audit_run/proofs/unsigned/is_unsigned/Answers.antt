use Rattle.std.proofs.Common.{◌∙◌, List, sym, ap, subst}
use Rattle.std.specs.Prelude.{not}
use Rattle.world_book.specs.declared.took.Signed.{Signed}
use Rattle.world_book.specs.Records.{IsIn, book_of}
use Rattle.audit_run.proofs.Owned.{a-book, find-there, is-not, not-signed}
use Rattle.audit_run.proofs.unsigned.is_unsigned.Goals as goal

pub returns-then-not-book-clause-unsigned : goal.returns-then-not-book-clause-unsigned
returns-then-not-book-clause-unsigned c =
    let found = find-there (λ b. b.now) c.find_book.result c.in-Some.book
    (book_of c.args.world.now c.args.leaf.now.op.author) c.find_book.ensures c.in-Some.is in
    λ yes. (
      a-book c.args.world.now c.args.leaf.now.op.author c.in-Some.book.now found ∙ ap not c.if-not-book.true,
      not-signed c.args.world.now c.args.leaf.now.op.author c.args.leaf.now.op c.in-Some.book.now found
          (λ s at. c.is_among.ensures.none (is-not c.is_among.result yes) s
          (subst (λ (xs : List Signed). IsIn xs s) (sym c.as_slice.ensures) at)),
    )

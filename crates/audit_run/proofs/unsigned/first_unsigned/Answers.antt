use Rattle.std.proofs.Common.{◌∙◌, None, sym, subst}
use Rattle.std.specs.Option.{option_map}
use Rattle.world_book.specs.declared.book.UserBook.{UserBook}
use Rattle.audit_run.specs.Unsigned.{IsSearched, leaves_of}
use Rattle.audit_run.proofs.Owned.{searched, world-searched}
use Rattle.audit_run.proofs.Searching.{goes-on, is-over, some-map, stops}
use Rattle.audit_run.proofs.unsigned.first_unsigned.Goals as goal

pub returns-then-is_some : goal.returns-then-is_some
returns-then-is_some c =
    world-searched c.args.world.now c.as_slice-book-items.result.now (option_map (λ l. l.now) c.unsigned_among-leaf.result)
    c.as_slice-book-items.ensures
    (stops (IsSearched c.args.world.now) (searched c.args.world.now) (λ (b : UserBook). leaves_of b.took) c.as_slice-book-items.result.now
    c.loop-book.book-index c.book-item.result
    (option_map (λ l. l.now) c.unsigned_among-leaf.result) c.loop-book-test.true c.book-item.is c.loop-book.invariant
    (subst (λ xs. IsSearched c.args.world.now (leaves_of xs) (option_map (λ l. l.now) c.unsigned_among-leaf.result)) c.as_slice.ensures c.unsigned_among-leaf.ensures)
    (some-map (λ l. l.now) c.unsigned_among-leaf.result ∙ sym c.is_some.ensures ∙ c.if-is_some.true))

pub loop-book-preserved : goal.loop-book-preserved
loop-book-preserved c =
    goes-on (IsSearched c.args.world.now) (searched c.args.world.now) (λ (b : UserBook). leaves_of b.took) c.as_slice-book-items.result.now
    c.loop-book.book-index c.book-item.result
    (option_map (λ l. l.now) c.unsigned_among-leaf.result) c.loop-book-test.true c.book-item.is c.loop-book.invariant
    (subst (λ xs. IsSearched c.args.world.now (leaves_of xs) (option_map (λ l. l.now) c.unsigned_among-leaf.result)) c.as_slice.ensures c.unsigned_among-leaf.ensures)
    (some-map (λ l. l.now) c.unsigned_among-leaf.result ∙ sym c.is_some.ensures ∙ c.if-is_some.false)

pub returns : goal.returns
returns c =
    world-searched c.args.world.now c.as_slice-book-items.result.now None c.as_slice-book-items.ensures
    (is-over (IsSearched c.args.world.now) (searched c.args.world.now) (λ (b : UserBook). leaves_of b.took) c.as_slice-book-items.result.now
    c.loop-book.book-index c.loop-book-test.false c.loop-book.invariant)

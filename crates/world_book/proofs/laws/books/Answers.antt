use Rattle.world_book.proofs.Books.{signed-kept, took-kept, world-kept}
use Rattle.world_book.proofs.laws.books.Goals as goal

pub returns-clause-took : goal.returns-clause-took
returns-clause-took c = took-kept

pub returns-clause-signed : goal.returns-clause-signed
returns-clause-signed c = signed-kept

pub returns-clause-world : goal.returns-clause-world
returns-clause-world c = world-kept

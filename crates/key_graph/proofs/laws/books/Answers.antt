use Rattle.key_graph.proofs.Books.{books}
use Rattle.key_graph.proofs.laws.books.Goals as goal

pub returns : goal.returns
returns c = books

use Rattle.world_book.proofs.Spelled.{spelled-leaves}
use Rattle.world_book.proofs.laws.spellings.Goals as goal

pub returns : goal.returns
returns c = spelled-leaves

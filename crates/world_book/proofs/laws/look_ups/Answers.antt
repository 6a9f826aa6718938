use Rattle.world_book.proofs.Records.{record-found, record-honest, record-self}
use Rattle.world_book.proofs.laws.look_ups.Goals as goal

pub returns-clause-found : goal.returns-clause-found
returns-clause-found c = record-self

pub returns-clause-only : goal.returns-clause-only
returns-clause-only c = record-found

pub returns-clause-honest : goal.returns-clause-honest
returns-clause-honest c = record-honest

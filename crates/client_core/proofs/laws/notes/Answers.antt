use Rattle.client_core.proofs.Notes.{kept-among}
use Rattle.client_core.proofs.laws.notes.Goals as goal

pub returns : goal.returns
returns c = kept-among

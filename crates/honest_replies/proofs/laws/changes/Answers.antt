use Rattle.honest_replies.proofs.Changes.{epoch-counts, keys-taken}
use Rattle.honest_replies.proofs.laws.changes.Goals as goal

pub returns-clause-taken : goal.returns-clause-taken
returns-clause-taken c = keys-taken

pub returns-clause-epoch : goal.returns-clause-epoch
returns-clause-epoch c = epoch-counts

use Rattle.signed_ops.proofs.Signatures.{signed_iff, unsigned_by}
use Rattle.signed_ops.proofs.laws.signatures.Goals as goal

pub returns-clause-decides : goal.returns-clause-decides
returns-clause-decides c = signed_iff

pub returns-clause-unsigned : goal.returns-clause-unsigned
returns-clause-unsigned c = unsigned_by

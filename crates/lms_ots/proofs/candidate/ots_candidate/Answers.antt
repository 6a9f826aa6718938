use Rattle.std.proofs.Common.{◌≡◌, Ok, ap, slice_range}
use Rattle.lms_params.specs.Parameters.{ots_row}
use Rattle.lms_ots.specs.OneTime.{candidate_key, message_hash}
use Rattle.lms_ots.proofs.candidate.ots_candidate.Goals as goal

pub returns-clause-key : goal.returns-clause-key
unfolding candidate_key
returns-clause-key g c =
    let row = ots_row g.row.CODE g.row.W g.row.P g.row.LS in
    let id = c.args.id.now in
    let q = c.args.q in
    let sig = c.args.sig.now in
    let hash : c.message_hash-hash.result ≡ message_hash id q (slice_range sig 4 36) c.args.message.now = c.message_hash-hash.ensures in
    let key : c.candidate_of.result ≡ candidate_key row id q c.args.message.now sig = rw hash at c.candidate_of.ensures in
    λ _ _. ap Ok key

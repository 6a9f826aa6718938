use Rattle.lms_params.specs.Parameters.{ots_row}
use Rattle.lms_ots.proofs.Signed.{candidate_signed}
use Rattle.lms_ots.proofs.law.signature_law.Goals as goal

pub returns : goal.returns
returns g c =
    candidate_signed (ots_row g.row.CODE g.row.W g.row.P g.row.LS) c.args.id.now c.args.q c.args.private.now c.args.message.now

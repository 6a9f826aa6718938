use Rattle.std.proofs.Common.{subst}
use Rattle.fr_bytes.specs.Bytes.{IsBytes}
use Rattle.signed_ops.proofs.Signatures.{short_enough}
use Rattle.hall_core.proofs.signing.sign.Goals as goal

pub returns-in-Ok-clause-short : goal.returns-in-Ok-clause-short
returns-in-Ok-clause-short c =
    let signer = c.args.signer.now in (
      short_enough signer.private signer.id signer.pair c.args.message.now c.in-Ok.sig c.left.ensures.listed
          c.in-Ok.ensures.valid,
      subst IsBytes c.as_slice.ensures c.slices_of_bytes.ensures,
    )

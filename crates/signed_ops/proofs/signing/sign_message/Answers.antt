use Rattle.std.proofs.Common.{subst}
use Rattle.fr_bytes.specs.Bytes.{IsBytes}
use Rattle.signed_ops.proofs.Signatures.{short_enough}
use Rattle.signed_ops.proofs.signing.sign_message.Goals as goal

pub returns-clause-short : goal.returns-clause-short
returns-clause-short c = (short_enough c.args.signer.now.private c.args.signer.now.id c.args.signer.now.pair c.as_slice.result.now c.in_ok-sig.sig c.left.ensures.listed c.in_ok-sig.ensures.valid, subst IsBytes c.as_slice-2.ensures c.slices_of_bytes.ensures)

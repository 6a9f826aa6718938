use Rattle.lms_tree.proofs.SigningLaw.{listed, signed_valid}
use Rattle.lms_tree.proofs.law.signing_law.Goals as goal

pub returns : goal.returns
returns c =
    signed_valid c.args.private.now c.args.id.now c.args.pair c.args.index c.args.message.now
    (listed c.args.pair c.requires.listed) c.requires.leaf

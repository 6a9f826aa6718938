use Rattle.std.proofs.Common.{◌≡◌, ◌++◌, length, take, slice_range, sym, ap, ◌∙◌, arith}
use Rattle.lms_tree.specs.Valid.{key_bytes}
use Rattle.lms_ots.specs.Digits.{number_at}
use Rattle.lms_tree.proofs.Strings.{key_read}
use Rattle.lms_tree.proofs.key.PublicKey.read.Goals as goal

pub returns-clause-spelled : goal.returns-clause-spelled
returns-clause-spelled c =
    let bytes = c.args.bytes.now in
    let lms : c.in-Some.pair.lms.code ≡ number_at bytes 0 = c.in-Some.ensures.own.0 ∙ c.number_at.ensures in
    let ots : c.in-Some.pair.ots.code ≡ number_at bytes 4 = c.in-Some.ensures.own.1 ∙ c.number_at-2.ensures in
    let spelled = key_read bytes c.in-Some.pair (omega arith) (λ i. omega (arith, c.type_inv.bytes i)) lms ots in
    rw (c.copy_from_slice.ensures.after, c.copy_from_slice-2.ensures.after) spelled

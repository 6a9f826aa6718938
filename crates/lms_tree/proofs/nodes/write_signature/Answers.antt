use Rattle.std.proofs.Common.{◌≡◌, ◌+◌, ◌++◌, take, arith}
use Rattle.lms_ots.specs.Digits.{u32str}
use Rattle.lms_ots.specs.OneTime.{one_time_signature}
use Rattle.lms_tree.proofs.Written.{signature_written}
use Rattle.lms_tree.proofs.nodes.write_signature.Goals as goal

pub returns : goal.returns
unfolding u32str
returns c =
    let pair = c.args.pair in
    let number : c.to_be_bytes.result ≡ u32str c.args.index = c.to_be_bytes.ensures in
    let code : c.to_be_bytes-2.result ≡ u32str pair.lms.code = c.to_be_bytes-2.ensures in
    let first : take 4 c.write_at.new.out ≡ u32str c.args.index = rw number at c.write_at.ensures.through in
    let third : take (4 + pair.ots.sig_len + 4) c.write_at-2.new.out ≡ take (4 + pair.ots.sig_len) c.write_one_time.new.out ++ u32str pair.lms.code =
    rw code at c.write_at-2.ensures.through in
    signature_written c.args.private.now c.args.id.now pair c.args.index c.args.message.now c.args.nodes.now c.requires.tree c.requires.leaf
    c.write_at.new.out c.write_one_time.new.out c.write_at-2.new.out c.write_path.new.out
    first c.write_one_time.ensures.through third c.write_path.ensures (omega arith)

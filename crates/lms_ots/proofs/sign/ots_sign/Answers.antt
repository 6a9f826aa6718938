use Rattle.std.proofs.Common.{◌≡◌, ◌++◌, take, ◌∙◌}
use Rattle.lms_params.specs.Parameters.{ots_row}
use Rattle.lms_ots.specs.Digits.{u32str}
use Rattle.lms_ots.specs.OneTime.{derived}
use Rattle.lms_ots.proofs.Elements.{derived_is, signature_is}
use Rattle.lms_ots.proofs.sign.ots_sign.Goals as goal

pub returns : goal.returns
unfolding u32str
returns g c =
    let row = ots_row g.row.CODE g.row.W g.row.P g.row.LS in
    let id = c.args.id.now in
    let q = c.args.q in
    let seed = c.args.private.now in
    let made = c.element-randomizer.result.now in
    let code : c.to_be_bytes.result ≡ u32str g.row.CODE = c.to_be_bytes.ensures in
    let first : take 4 c.write_at.new.out ≡ c.to_be_bytes.result = rw code (rw code at c.write_at.ensures.through) in
    let randomizer : made ≡ derived id q 0xfffd seed =
    c.element-randomizer.ensures.value
    ∙ derived_is id q 0xfffd c.input_of-input.result c.derive.new.input c.derive.new.input
    c.input_of-input.ensures c.derive.ensures.name seed c.derive.ensures.element in
    let second : take 36 c.write_at-2.new.out ≡ take 4 c.write_at.new.out ++ made =
    rw c.element-randomizer.ensures.long at c.write_at-2.ensures.through in
    signature_is row id q seed c.args.message.now c.to_be_bytes.result made c.message_hash-hash.result
    c.write_at.new.out c.write_at-2.new.out c.sign_hash.new.out
    code randomizer c.message_hash-hash.ensures first second c.sign_hash.ensures

use Rattle.std.proofs.Common.{◌≡◌, ◌+◌, ◌-◌, ◌*◌, ◌++◌, take, drop, length, arith, ◌∙◌, ap, get_or}
use Rattle.lms_params.specs.Parameters.{ots_row}
use Rattle.lms_ots.specs.Digits.{digit}
use Rattle.lms_ots.specs.OneTime.{signed_element}
use Rattle.lms_ots.proofs.Elements.{signed_is}
use Rattle.lms_ots.proofs.Ranges.{head_more}
use Rattle.lms_ots.proofs.Rows.{digit_read, row_small}
use Rattle.lms_ots.proofs.sign.sign_hash.Goals as goal

pub overflow_cast-i : goal.overflow_cast-i
overflow_cast-i g c =
    let few = row_small g.row.CODE g.row.W g.row.P g.row.LS c.requires.row in omega arith

pub loop-i-preserved : goal.loop-i-preserved
loop-i-preserved g c =
    let was = c.loop-i.invariant in
    let row = ots_row g.row.CODE g.row.W g.row.P g.row.LS in
    let id = c.args.id.now in
    let q = c.args.q in
    let i = c.loop-i.i in
    let seed = c.args.private.now in
    let hash = c.args.hash.now in
    let at : get_or c.digits-digits.result i 0 ≡ digit row hash i =
    digit_read row hash c.digits-digits.result i c.digits-digits.ensures (omega arith) in
    let all : get_or c.digits-digits.result i 0 - 0 ≡ digit row hash i = omega arith in
    let element : drop 23 c.run_chain.new.input ≡ signed_element row id q seed hash i =
    signed_is id q i c.loop-i.input c.derive.new.input c.run_chain.new.input was.leaf c.derive.ensures.name
    row seed hash (get_or c.digits-digits.result i 0 - 0) all c.derive.ensures.element c.run_chain.ensures.element in
    let given : c.element.result.now ≡ signed_element row id q seed hash i =
    rw (← element) c.element.ensures.value in
    let next : (36 + 32 * i) + length c.element.result.now ≡ 36 + 32 * (i + 1) = omega (arith, c.element.ensures.long) in
    let through : take (36 + 32 * (i + 1)) c.write_at.new.out ≡ take (36 + 32 * i) c.loop-i.out ++ signed_element row id q seed hash i =
    rw (next, given) at c.write_at.ensures.through in
    record {
      leaf = c.run_chain.ensures.leaf ∙ (c.derive.ensures.leaf ∙ was.leaf);
      written = through ∙ (ap (λ xs. xs ++ signed_element row id q seed hash i) was.written
          ∙ head_more (take 36 c.args.out.now) (signed_element row id q seed hash) i);
    }

use Rattle.std.proofs.Common.{◌≡◌, ◌-◌, ◌^◌, ◌≤◌, ◌++◌, drop, arith, ◌∙◌, get_or}
use Rattle.std.specs.List.{flat_map, range_with_len}
use Rattle.lms_params.specs.Parameters.{ots_row}
use Rattle.lms_ots.specs.Digits.{digit, u16str, u32str}
use Rattle.lms_ots.specs.OneTime.{candidate_element, element_at, public_of}
use Rattle.lms_ots.proofs.Elements.{candidate_is}
use Rattle.lms_ots.proofs.Ranges.{head_more}
use Rattle.lms_ots.proofs.Rows.{digit_bound, digit_read, row_width}
use Rattle.lms_ots.proofs.candidate.candidate_of.Goals as goal

pub top_digit-requires : goal.top_digit-requires
top_digit-requires g c = row_width g.row.CODE g.row.W g.row.P g.row.LS c.requires.row

pub run_chain-requires : goal.run_chain-requires
run_chain-requires g c =
    let row = ots_row g.row.CODE g.row.W g.row.P g.row.LS in
    let hash = c.args.hash.now in
    let i = c.loop-i.i in
    let at : get_or c.digits-digits.result i 0 ≡ digit row hash i =
    digit_read row hash c.digits-digits.result i c.digits-digits.ensures (omega arith) in
    let top : c.top_digit.result ≡ 2 ^ g.row.W - 1 = c.top_digit.ensures in
    let bound : digit row hash i ≤ 2 ^ g.row.W - 1 = digit_bound row hash i in
    omega arith

pub loop-i-preserved : goal.loop-i-preserved
unfolding element_at
loop-i-preserved g c =
    let was = c.loop-i.invariant in
    let row = ots_row g.row.CODE g.row.W g.row.P g.row.LS in
    let id = c.args.id.now in
    let q = c.args.q in
    let i = c.loop-i.i in
    let sig = c.args.sig.now in
    let hash = c.args.hash.now in
    let at : get_or c.digits-digits.result i 0 ≡ digit row hash i =
    digit_read row hash c.digits-digits.result i c.digits-digits.ensures (omega arith) in
    let top : c.top_digit.result ≡ 2 ^ g.row.W - 1 = c.top_digit.ensures in
    let all : c.top_digit.result - get_or c.digits-digits.result i 0 ≡ 2 ^ g.row.W - 1 - digit row hash i = omega arith in
    let element : drop 23 c.run_chain.new.input ≡ candidate_element row id q hash sig i =
    candidate_is id q i c.loop-i.input c.start_chain.new.input c.run_chain.new.input was.leaf c.start_chain.ensures.name
    row hash sig _ _ at all c.start_chain.ensures.element c.run_chain.ensures.element in
    let given : c.element.result.now ≡ candidate_element row id q hash sig i =
    rw (← element) c.element.ensures.value in
    let head = id ++ u32str q ++ u16str 0x8080 in
    let held = c.update.ensures (head ++ flat_map (candidate_element row id q hash sig) (range_with_len 0 i)) was.held in
    record {
      leaf = c.run_chain.ensures.leaf ∙ (c.start_chain.ensures.leaf ∙ was.leaf);
      held = rw (← head_more head (candidate_element row id q hash sig) i, ← given) held;
    }

pub returns : goal.returns
unfolding public_of
returns g c =
    let e : c.loop-i.i ≡ g.row.P = omega arith in
    c.finalize.ensures _ (rw e at c.loop-i.invariant.held)

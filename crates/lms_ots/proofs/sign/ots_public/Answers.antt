use Rattle.std.proofs.Common.{◌≡◌, ◌-◌, ◌^◌, ◌++◌, drop, arith, ◌∙◌}
use Rattle.std.specs.List.{flat_map, range_with_len}
use Rattle.lms_params.specs.Parameters.{ots_row}
use Rattle.lms_ots.specs.Digits.{u16str, u32str}
use Rattle.lms_ots.specs.OneTime.{one_time_public, public_element, public_of}
use Rattle.lms_ots.proofs.Elements.{public_is}
use Rattle.lms_ots.proofs.Ranges.{head_more}
use Rattle.lms_ots.proofs.Rows.{row_width}
use Rattle.lms_ots.proofs.sign.ots_public.Goals as goal

pub top_digit-requires : goal.top_digit-requires
top_digit-requires g c = row_width g.row.CODE g.row.W g.row.P g.row.LS c.requires.row

pub loop-i-preserved : goal.loop-i-preserved
loop-i-preserved g c =
    let was = c.loop-i.invariant in
    let row = ots_row g.row.CODE g.row.W g.row.P g.row.LS in
    let id = c.args.id.now in
    let q = c.args.q in
    let i = c.loop-i.i in
    let seed = c.args.private.now in
    let top : c.top_digit.result ≡ 2 ^ g.row.W - 1 = c.top_digit.ensures in
    let all : c.top_digit.result - 0 ≡ 2 ^ g.row.W - 1 = omega arith in
    let element : drop 23 c.run_chain.new.input ≡ public_element row id q seed i =
    public_is id q i c.loop-i.input c.derive.new.input c.run_chain.new.input was.leaf c.derive.ensures.name
    row seed (c.top_digit.result - 0) all c.derive.ensures.element c.run_chain.ensures.element in
    let given : c.element.result.now ≡ public_element row id q seed i =
    rw (← element) c.element.ensures.value in
    let head = id ++ u32str q ++ u16str 0x8080 in
    let held = c.update.ensures (head ++ flat_map (public_element row id q seed) (range_with_len 0 i)) was.held in
    record {
      leaf = c.run_chain.ensures.leaf ∙ (c.derive.ensures.leaf ∙ was.leaf);
      held = rw (← head_more head (public_element row id q seed) i, ← given) held;
    }

pub returns : goal.returns
unfolding one_time_public public_of
returns g c =
    let e : c.loop-i.i ≡ g.row.P = omega arith in
    c.finalize.ensures _ (rw e at c.loop-i.invariant.held)

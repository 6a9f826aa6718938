use Rattle.std.proofs.Common.{Vec, Global}
use Rattle.std.proofs.lemmas.Result.{err_from_is_err_and}
use Rattle.fr_bytes.specs.Reading.{times_at}
use Rattle.op_types.specs.declared.kind.Wrap.{Wrap}
use Rattle.op_types.specs.Reading.{wrap_at}
use Rattle.fr_bytes.proofs.Parts.{times-goes_on, times-ends, times-is_done}
use Rattle.op_types.proofs.reading.wraps_times.Goals as goal

pub returns-in_err-wrap : goal.returns-in_err-wrap
returns-in_err-wrap c =
    let p = err_from_is_err_and c.from_residual.result c.from_residual.ensures.1 in
    rw (p.1, p.2)
    (times-ends wrap_at (λ (w : Wrap). w) (λ (ws : Vec Wrap Global). ws.items) c.in_err-wrap.field-0.0 c.loop.wraps.items c.args.count c.loop.counter c.loop.cur c.wrap_at.new.cur _ (times_at wrap_at c.args.count c.args.cur.now) c.loop-test.true c.in_err-wrap.ensures c.loop.invariant)

pub loop-preserved : goal.loop-preserved
loop-preserved c =
    rw c.in_ok-push.ensures.items
    (times-goes_on wrap_at c.loop.wraps.items c.args.count c.loop.counter c.loop.cur c.in_ok-wrap.wrap c.wrap_at.new.cur (times_at wrap_at c.args.count c.args.cur.now) c.loop-test.true c.in_ok-wrap.ensures c.loop.invariant)

pub returns : goal.returns
returns c = times-is_done wrap_at c.loop.wraps.items c.args.count c.loop.counter c.loop.cur (times_at wrap_at c.args.count c.args.cur.now) c.loop-test.false c.loop.invariant

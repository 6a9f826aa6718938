use Rattle.std.proofs.Common.{◌∙◌, sym, map}
use Rattle.audit_run.proofs.Records.{found-at, item-at, none-at, none-more, none-yet, past-all, item-within}
use Rattle.audit_run.proofs.index.Index.find.Goals as goal

pub loop-i-init : goal.loop-i-init
loop-i-init c = none-yet c.args.user c.args.wall c.args.size (map (λ r. r.now) c.args.self.now.records.items)

pub returns-then-is_at-clause-is : goal.returns-then-is_at-clause-is
returns-then-is_at-clause-is c =
    found-at c.args.self.now.world.now (map (λ r. r.now) c.args.self.now.records.items) c.requires c.args.user c.args.wall
    c.args.size c.loop-i.i c.r-item.result.now
    (item-at (λ r. r.now) c.args.self.now.records.items c.deref-r-items.result.now c.deref-r-items.ensures.value c.loop-i.i c.r-item.result
    c.loop-i-test.true c.r-item.is)
    (sym c.is_at.ensures ∙ c.if-is_at.true)

pub loop-i-preserved : goal.loop-i-preserved
loop-i-preserved c =
    none-more c.args.user c.args.wall c.args.size (map (λ r. r.now) c.args.self.now.records.items) c.loop-i.i
    c.r-item.result.now
    (item-at (λ r. r.now) c.args.self.now.records.items c.deref-r-items.result.now c.deref-r-items.ensures.value c.loop-i.i c.r-item.result
    c.loop-i-test.true c.r-item.is)
    (sym c.is_at.ensures ∙ c.if-is_at.false) c.loop-i.invariant

pub returns-clause-is : goal.returns-clause-is
returns-clause-is c =
    none-at c.args.self.now.world.now (map (λ r. r.now) c.args.self.now.records.items) c.requires c.args.user c.args.wall
    c.args.size c.loop-i.i
    (past-all (λ r. r.now) c.args.self.now.records.items c.deref-r-items.result.now c.deref-r-items.ensures.value c.loop-i.i
    c.loop-i-test.false)
    c.loop-i.invariant

pub returns-then-is_at-clause-within : goal.returns-then-is_at-clause-within
returns-then-is_at-clause-within c =
    item-within (λ r. r.now) c.args.self.now.records.items c.deref-r-items.result.now c.deref-r-items.ensures.value c.loop-i.i
    c.loop-i-test.true

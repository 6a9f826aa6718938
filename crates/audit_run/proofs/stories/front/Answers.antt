use Rattle.audit_run.proofs.Reaching.{front-absent, front-below, front-beside, front-skips, front-start}
use Rattle.audit_run.proofs.Tables.{grows-same}
use Rattle.audit_run.proofs.stories.front.Goals as goal

pub returns-then-r-gt0-clause-holds : goal.returns-then-r-gt0-clause-holds
returns-then-r-gt0-clause-holds g c b s below beside =
    front-below c.args.lines.now.items c.args.r.now b s c.args.below c.if-r.true c.if-r-gt0.true below

pub returns-then-r-gt0-clause-grows : goal.returns-then-r-gt0-clause-grows
returns-then-r-gt0-clause-grows g c = grows-same c.args.lines.now.items

pub returns-then-r-clause-holds : goal.returns-then-r-clause-holds
returns-then-r-clause-holds g c b s below beside =
    front-start c.start.new.lines.items c.args.r.now b s c.in_ok-start.field-0 c.if-r.true c.if-r-gt0.false
    c.in_ok-start.ensures.begins

pub returns-then-r-eq0-clause-holds : goal.returns-then-r-eq0-clause-holds
returns-then-r-eq0-clause-holds g c b s below beside =
    front-beside c.args.lines.now.items c.args.r.now b s c.args.beside c.if-r.false c.if-r-eq0.true beside

pub returns-then-r-eq0-clause-grows : goal.returns-then-r-eq0-clause-grows
returns-then-r-eq0-clause-grows g c = grows-same c.args.lines.now.items

pub returns-in-None-clause-holds : goal.returns-in-None-clause-holds
returns-in-None-clause-holds g c b s below beside =
    front-absent c.args.lines.now.items c.args.r.now b s c.args.below c.if-r.false c.if-r-eq0.false c.in-None.is below

pub returns-in-None-clause-grows : goal.returns-in-None-clause-grows
returns-in-None-clause-grows g c = grows-same c.args.lines.now.items

pub returns-in-Some-clause-holds : goal.returns-in-Some-clause-holds
returns-in-Some-clause-holds g c b s below beside =
    front-skips c.args.lines.now.items c.args.r.now b s c.args.below c.args.beside c.in-Some.field-0 c.if-r.false
    c.if-r-eq0.false c.in-Some.is below beside

pub returns-in-Some-clause-grows : goal.returns-in-Some-clause-grows
returns-in-Some-clause-grows g c = grows-same c.args.lines.now.items

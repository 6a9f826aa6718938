use Rattle.std.proofs.Common.{◌∙◌, [], ap, sym}
use Rattle.audit_run.specs.Line.{History}
use Rattle.world_audit.specs.Comparisons.{owner_of}
use Rattle.audit_run.proofs.Tables.{begins-push, grows-push, grows-same, owners-push}
use Rattle.audit_run.proofs.stories.start.Goals as goal

pub returns-then-wall-clause-grows : goal.returns-then-wall-clause-grows
returns-then-wall-clause-grows g c = grows-same c.args.lines.now.items

pub returns-clause-begins : goal.returns-clause-begins
returns-clause-begins g c =
    begins-push c.args.lines.now.items c.push.new.self.items c.in_ok-line.line c.len-place.result c.args.wall []
    c.in_ok-push.ensures.items (c.len-place.ensures ∙ c.args.lines.now.ok.0)
    (ap (λ (h : History). h.wall) c.in_ok-line.ensures) (ap (λ (h : History). h.leaves) c.in_ok-line.ensures)

pub returns-clause-grows : goal.returns-clause-grows
returns-clause-grows g c =
    grows-push c.args.lines.now.items c.push.new.self.items c.in_ok-line.line c.in_ok-push.ensures.items

pub returns-clause-owners : goal.returns-clause-owners
returns-clause-owners g c =
    owners-push c.args.world.now c.args.lines.now.items c.push.new.self.items c.in_ok-line.line c.in_ok-push.ensures.items
    (ap (λ (h : History). h.owner) c.in_ok-line.ensures ∙ c.owner_of.ensures
    ∙ ap (λ (h : History). owner_of c.args.world.now h.wall) (sym c.in_ok-line.ensures)) c.requires

use Rattle.std.proofs.Common.{◌≡◌, ◌∙◌, length}
use Rattle.audit_run.proofs.Tables.{branch-begins, branch-owners, grows-push}
use Rattle.audit_run.proofs.stories.branch.Goals as goal

pub returns-clause-begins : goal.returns-clause-begins
returns-clause-begins g c =
    let end : c.len-place.result ≡ length c.args.lines.now.items =
    c.len-place.ensures ∙ c.args.lines.now.ok.0 in
    branch-begins c.args.lines.now.items c.push-2.new.self.items c.args.i c.args.k c.len-place.result c.index.result.now
    c.in_ok-line.line c.push.new.self c.args.leaf.now c.requires.within c.index.ensures c.in_ok-line.ensures
    c.in_ok-push.ensures.added c.in_ok-push-2.ensures.items end

pub returns-clause-grows : goal.returns-clause-grows
returns-clause-grows g c =
    grows-push c.args.lines.now.items c.push-2.new.self.items c.push.new.self c.in_ok-push-2.ensures.items

pub returns-clause-owners : goal.returns-clause-owners
returns-clause-owners g c w before =
    branch-owners w c.args.lines.now.items c.push-2.new.self.items c.args.i c.args.k c.index.result.now
    c.in_ok-line.line c.push.new.self c.args.leaf.now c.requires.within c.index.ensures c.in_ok-line.ensures
    c.in_ok-push.ensures.added c.in_ok-push-2.ensures.items before

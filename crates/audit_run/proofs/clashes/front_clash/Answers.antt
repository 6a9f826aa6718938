use Rattle.std.proofs.Common.{ap, take}
use Rattle.audit_run.specs.Line.{History}
use Rattle.world_audit.specs.Comparisons.{texts_of}
use Rattle.audit_run.proofs.Comparing.{lists-written, root-lists, same-compared}
use Rattle.audit_run.proofs.clashes.front_clash.Goals as goal

pub returns-then-is_same : goal.returns-then-is_same
returns-then-is_same g c =
    same-compared g.D.Digester.digest_of (texts_of (take c.args.v c.args.a.now.leaves)) (texts_of (take c.args.v c.args.b.now.leaves))
    (ap (λ (h : History). texts_of (take c.args.v h.leaves)) (c.requires.same c.if-is_same.true))

pub list_clash-requires-clause-some : goal.list_clash-requires-clause-some
list_clash-requires-clause-some g c =
    (root-lists g.D.Digester.digest_of (texts_of (take c.args.v c.args.a.now.leaves)) (texts_of (take c.args.v c.args.b.now.leaves))
    c.in_ok-left.left c.in_ok-right.right c.requires.ready c.in_ok-left.ensures c.in_ok-right.ensures).0

pub list_clash-requires-clause-lengths : goal.list_clash-requires-clause-lengths
list_clash-requires-clause-lengths g c =
    (root-lists g.D.Digester.digest_of (texts_of (take c.args.v c.args.a.now.leaves)) (texts_of (take c.args.v c.args.b.now.leaves))
    c.in_ok-left.left c.in_ok-right.right c.requires.ready c.in_ok-left.ensures c.in_ok-right.ensures).1

pub list_clash-requires-clause-roots : goal.list_clash-requires-clause-roots
list_clash-requires-clause-roots g c =
    (root-lists g.D.Digester.digest_of (texts_of (take c.args.v c.args.a.now.leaves)) (texts_of (take c.args.v c.args.b.now.leaves))
    c.in_ok-left.left c.in_ok-right.right c.requires.ready c.in_ok-left.ensures c.in_ok-right.ensures).2

pub returns : goal.returns
returns g c =
    lists-written g.D.Digester.digest_of (texts_of (take c.args.v c.args.a.now.leaves)) (texts_of (take c.args.v c.args.b.now.leaves))
    c.in_ok-left.left c.in_ok-right.right c.in_ok-clash.clash c.in_ok-left.ensures c.in_ok-right.ensures
    c.in_ok-clash.ensures.value c.in_ok-clash.ensures.none.0

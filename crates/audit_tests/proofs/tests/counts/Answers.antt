use Rattle.audit_tests.proofs.tests.counts.Goals as goal

pub audit-requires : goal.audit-requires
audit-requires g c = c.no_world-world.ensures g.D.Digester.digest_of

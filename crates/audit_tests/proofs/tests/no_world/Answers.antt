use Rattle.audit_tests.proofs.Nobody.{nobody-kept}
use Rattle.audit_tests.proofs.tests.no_world.Goals as goal

pub returns : goal.returns
returns c d = nobody-kept d (record { users = c.empty.result; walls = c.empty-2.result }) c.empty.ensures c.empty-2.ensures

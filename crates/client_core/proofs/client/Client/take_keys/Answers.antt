use Rattle.std.proofs.Common.{sym, subst}
use Rattle.std.specs.List.{AllByRecursion}
use Rattle.client_core.specs.Keys.{IsNumbered}
use Rattle.client_core.proofs.Heard.{keys-numbered}
use Rattle.client_core.proofs.client.Client.take_keys.Goals as goal

pub relearn-requires-clause-changes : goal.relearn-requires-clause-changes
relearn-requires-clause-changes g c = subst (AllByRecursion IsNumbered) (sym c.as_slice.ensures)
    (keys-numbered g.D.Digester.digest_of c.side.result.now.known c.args.bytes.now c.in_ok-changes.changes
    c.slices_of_bytes.ensures c.in_ok-changes.ensures)

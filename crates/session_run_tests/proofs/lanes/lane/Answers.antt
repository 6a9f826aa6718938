use Rattle.std.proofs.Common.{refl, rules}
use Rattle.sha2.specs.Sha256.{sha256}
use Rattle.session_run_tests.proofs.Opening.{ready}
use Rattle.session_run_tests.proofs.lanes.lane.Goals as goal

pub returns : goal.returns
returns g c =
    ready sha256 c.args.server.now _ c.args.part.user c.args.part.place.wall c.requires.seats
    (search rules) c.in_ok-client.ensures c.in_ok-commands.ensures c.requires.listed (search rules) refl

use Rattle.hall_core.proofs.Playing.{play_from-append}
use Rattle.hall_core.proofs.CallLaws.{legal-iff, turns_from-append}
use Rattle.hall_core.proofs.laws.plays.Goals as goal

pub returns : goal.returns
returns g c = record {
  leaves = play_from-append g.D.Digester.digest_of;
  turns = turns_from-append g.D.Digester.digest_of;
  legal = legal-iff g.D.Digester.digest_of;
}

use Rattle.hall_core.proofs.CallLaws.{front-grows, left-grows, play-grows, turns-end, turns-grow}
use Rattle.hall_core.proofs.laws.growth.Goals as goal

pub returns : goal.returns
returns g c = record {
  answer = left-grows g.D.Digester.digest_of;
  calls = play-grows g.D.Digester.digest_of;
  front = front-grows g.D.Digester.digest_of;
  turns = turns-grow g.D.Digester.digest_of;
  end = turns-end g.D.Digester.digest_of;
}

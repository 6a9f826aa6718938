use Rattle.std.proofs.lemmas.Result.{IfOk-weaker}
use Rattle.hall_core.specs.Snapshots.{Stands}
use Rattle.hall_replies.specs.Kept.{IsOfHonest}
use Rattle.hall_server_tests.proofs.walls.seen.Goals as goal

pub returns : goal.returns
returns g c =
    let d = g.D.Digester.digest_of in
    let hall = c.args.hall.now in
    IfOk-weaker c.seen.result (Stands d hall.facts hall.leaves) (IsOfHonest d)
    (λ snapshot stands. record {
      facts = hall.facts;
      leaves = hall.leaves;
      stands = stands;
      honest = c.honesty.ensures.play hall.facts hall.leaves hall.entries c.seen.ensures.kept;
    })
    c.seen.ensures.stands

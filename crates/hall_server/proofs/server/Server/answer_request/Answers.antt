use Rattle.std.proofs.lemmas.Result.{IfOk-weaker}
use Rattle.hall_server.specs.Answers.{AnswersRequest, AnswersTurn}
use Rattle.hall_server.specs.Seating.{walls_of}
use Rattle.hall_server.specs.Sights.{sight_at, user_of}
use Rattle.hall_server.proofs.Requests.{answered_turn}
use Rattle.hall_server.proofs.server.Server.answer_request.Goals as goal

pub returns-in-Ok-clause-answers : goal.returns-in-Ok-clause-answers
returns-in-Ok-clause-answers g c =
    let d = g.D.Digester.digest_of in
    let user = user_of c.args.seats.now in
    let walls = walls_of c.args.self.now in
    let before = sight_at c.args.seats.now in
    let now = sight_at c.answer_ask.new.seats in
    let request = c.args.request.now in
    let first = rw c.wall_in-wall.ensures at c.in-Some.ensures.found in
    IfOk-weaker c.answer_ask.result (AnswersTurn d user before now request c.in-Ok.ask)
    (AnswersRequest d user walls before now request)
    (λ bytes it. answered_turn d user walls before now request bytes c.in-Some.place c.in-Ok.ask first c.in-Ok.ensures.found
    it) c.answer_ask.ensures.answers

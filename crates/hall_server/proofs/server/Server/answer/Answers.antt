use Rattle.std.proofs.lemmas.Result.{IfOk-weaker}
use Rattle.hall_server.specs.Answers.{Answers, AnswersRequest}
use Rattle.hall_server.specs.Seating.{walls_of}
use Rattle.hall_server.specs.Sights.{sight_at, user_of}
use Rattle.hall_server.proofs.Requests.{answers_read}
use Rattle.hall_server.proofs.server.Server.answer.Goals as goal

pub returns-in-Ok-clause-answers : goal.returns-in-Ok-clause-answers
returns-in-Ok-clause-answers g c =
    let d = g.D.Digester.digest_of in
    let user = user_of c.args.seats.now in
    let walls = walls_of c.args.self.now in
    let before = sight_at c.args.seats.now in
    let now = sight_at c.answer_request.new.seats in
    let request = c.in-Ok.request in
    IfOk-weaker c.answer_request.result (AnswersRequest d user walls before now request)
    (Answers d user walls before now c.args.request.now)
    (λ bytes it. answers_read d user walls before now request bytes c.args.request.now c.in-Ok.ensures.found it)
    c.answer_request.ensures.answers

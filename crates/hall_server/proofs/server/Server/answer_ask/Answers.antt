use Rattle.std.proofs.lemmas.Result.{IfOk-weaker}
use Rattle.hall_server.specs.Answers.{AnswersTurn}
use Rattle.hall_server.specs.HonestReplies.{Replies, wall_in}
use Rattle.hall_server.specs.Sights.{sight_at, user_of}
use Rattle.hall_server.proofs.Requests.{answers_turn, left_honest, left_shown}
use Rattle.hall_server.proofs.server.Server.answer_ask.Goals as goal

pub returns-clause-answers : goal.returns-clause-answers
returns-clause-answers g c =
    let d = g.D.Digester.digest_of in
    let user = user_of c.args.seats.now in
    let before = sight_at c.args.seats.now in
    let now = sight_at c.take_turn.new.seats in
    let request = c.args.request.now in
    let answer = c.in_ok-answer.answer in
    let it = rw c.wall_in-wall.ensures at c.in_ok-answer.ensures.turned in
    IfOk-weaker c.reply.result (Replies d (before (wall_in request)).facts request it.turn.left answer)
    (AnswersTurn d user before now request c.args.ask)
    (λ bytes replies. answers_turn d user before now request c.args.ask answer it bytes replies)
    (c.reply.ensures (before (wall_in request)).facts it.turn.left
    (left_shown d user before now request c.args.ask answer it c.snapshot.result.now
    (rw c.wall_in-wall.ensures at c.snapshot.ensures.stands))
    (left_honest d user before now request c.args.ask answer it))

use Rattle.std.proofs.Common.{◌∙◌, ap}
use Rattle.script_form.specs.declared.outcome.CommandEnd.{CommandEnd}
use Rattle.hall_server.specs.Sights.{sight_at, user_of}
use Rattle.session_laws.specs.Doing.{outcome_at}
use Rattle.session_run.specs.Views.{client_of}
use Rattle.session_run.proofs.Telling.{told-by}
use Rattle.session_run.proofs.command.tell.Goals as goal

pub returns-clause-told : goal.returns-clause-told
returns-clause-told g c t found =
    told-by g.D.Digester.digest_of (user_of c.args.seats.now) c.args.place (client_of c.args.client.now)
    (client_of c.keys_behind.new.client) (sight_at c.args.seats.now) (sight_at c.keys_behind.new.seats)
    (g.W.Wire.view c.args.wire.now) (g.W.Wire.view c.keys_behind.new.wire) c.args.wall t c.args.news.now
    c.in_ok-keys.keys c.in_ok-shown.shown c.outcome.result found (c.in_ok-keys.ensures.keys t found)
    (λ s e. c.in_ok-shown.ensures c.args.wall s e c.requires.news)
    (c.outcome.ensures
    ∙ ap (λ (end : CommandEnd). outcome_at c.args.place end c.in_ok-shown.shown c.in_ok-keys.keys) c.end_of.ensures)

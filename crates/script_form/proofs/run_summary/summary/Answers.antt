use Rattle.script_form.proofs.Tallies.{add_up}
use Rattle.script_form.proofs.run_summary.summary.Goals as goal

pub returns-in_err-put_summary-clause-counts : goal.returns-in_err-put_summary-clause-counts
returns-in_err-put_summary-clause-counts c = add_up c.args.run.now.commands

pub returns-clause-counts : goal.returns-clause-counts
returns-clause-counts c = add_up c.args.run.now.commands

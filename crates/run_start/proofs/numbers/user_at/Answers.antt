use Rattle.std.proofs.Common.{ℕ, sym, ap, ◌∙◌}
use Rattle.std.specs.Prelude.{Option, unwrap_or}
use Rattle.script_read.specs.declared.script.ScriptUser.{ScriptUser}
use Rattle.run_start.specs.Numbers.{no_user, the_user}
use Rattle.run_start.proofs.Listing.{none-listed}
use Rattle.run_start.proofs.numbers.user_at.Goals as goal

pub unreachable-requires : goal.unreachable-requires
unreachable-requires c =
    none-listed (λ (x : ScriptUser). x.user) c.args.script.now.users c.args.number c.requires (sym c.in_default.ensures)

pub returns : goal.returns
unfolding the_user
returns c = ap (λ (o : Option ScriptUser). unwrap_or o no_user) c.in-Some.ensures

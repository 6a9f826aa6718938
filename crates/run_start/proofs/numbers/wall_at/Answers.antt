use Rattle.std.proofs.Common.{ℕ, sym, ap, ◌∙◌}
use Rattle.std.specs.Prelude.{Option, unwrap_or}
use Rattle.script_read.specs.declared.script.ScriptWall.{ScriptWall}
use Rattle.run_start.specs.Numbers.{no_wall, the_wall}
use Rattle.run_start.proofs.Listing.{none-listed}
use Rattle.run_start.proofs.numbers.wall_at.Goals as goal

pub unreachable-requires : goal.unreachable-requires
unreachable-requires c =
    none-listed (λ (x : ScriptWall). x.wall) c.args.script.now.walls c.args.number c.requires (sym c.in_default.ensures)

pub returns : goal.returns
unfolding the_wall
returns c = ap (λ (o : Option ScriptWall). unwrap_or o no_wall) c.in-Some.ensures

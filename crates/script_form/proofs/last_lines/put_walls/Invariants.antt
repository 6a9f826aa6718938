use Rattle.std.proofs.Common.{◌≡◌, ◌++◌, drop}
use Rattle.std.specs.List.{flat_map}
use Rattle.std.specs.String.{string_bytes}
use Rattle.script_form.specs.Report.{wall_line}
use Rattle.script_form.proofs.last_lines.put_walls.Given as goal

-- the text so far and that of the walls that are left
abbrev pub invariant-loop-wall : goal.invariant-loop-wall
invariant-loop-wall l = string_bytes l.out
    ++ flat_map wall_line (drop l.wall-index l.walls) ≡ string_bytes l.initial.out ++ flat_map wall_line l.walls

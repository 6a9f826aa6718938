use Rattle.std.proofs.Common.{◌≡◌, ◌++◌, drop}
use Rattle.std.specs.List.{flat_map}
use Rattle.std.specs.String.{string_bytes}
use Rattle.script_form.specs.Summary.{size_line}
use Rattle.script_form.proofs.last_lines.put_sizes.Given as goal

-- the text so far and that of the walls that are left
abbrev pub invariant-loop-wall : goal.invariant-loop-wall
invariant-loop-wall l = string_bytes l.out
    ++ flat_map size_line (drop l.wall-index l.walls) ≡ string_bytes l.initial.out ++ flat_map size_line l.walls

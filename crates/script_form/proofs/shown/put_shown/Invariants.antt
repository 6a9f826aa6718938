use Rattle.std.proofs.Common.{◌≡◌, ◌++◌, drop}
use Rattle.std.specs.List.{flat_map}
use Rattle.std.specs.String.{string_bytes}
use Rattle.script_form.specs.Report.{shown_line}
use Rattle.script_form.proofs.shown.put_shown.Given as goal

-- the text so far and that of the lines that are left
abbrev pub invariant-loop-shown : goal.invariant-loop-shown
invariant-loop-shown l = string_bytes l.out
    ++ flat_map shown_line (drop l.shown-index l.lines) ≡ string_bytes l.initial.out ++ flat_map shown_line l.lines

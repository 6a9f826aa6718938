use Rattle.std.proofs.Common.{◌≡◌, ◌-◌, ◌<◌, ◌^◌, ℕ, map}
use Rattle.std.specs.Prelude.{IfOk}
use Rattle.std.specs.List.{range_with_len}
use Rattle.script_form.proofs.numbered.numbered.Given as goal

-- what was made is of the numbers so far
abbrev pub invariant-loop-x : goal.invariant-loop-x
invariant-loop-x g l =
    (f : ℕ → g.row.T.Denot)
    → ((x : _) (r : _) → x < 2 ^ 32 → goal.F-post g l.make x r → IfOk r (λ t. t ≡ f x))
    → l.made.items ≡ map f (range_with_len l.first (l.x - l.first))

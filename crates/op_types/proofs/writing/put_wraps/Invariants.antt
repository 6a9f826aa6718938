use Rattle.std.proofs.Common.{◌≡◌, ◌++◌, ◌∷◌, length, take}
use Rattle.std.specs.List.{flat_map}
use Rattle.op_types.specs.Spelling.{wrap_text}
use Rattle.op_types.proofs.writing.put_wraps.Given as goal

abbrev pub invariant-loop-wrap : goal.invariant-loop-wrap
invariant-loop-wrap l = l.out.items ≡ l.fn.out.items ++ (length l.wraps ∷ flat_map wrap_text (take l.wrap-index l.wraps))

-- What is left to ask of a position, and what is told before it.
use Rattle.std.specs.Prelude.{not, ◌∷◌, [], Option, is_none}
use Rattle.op_types.specs.declared.op.Leaf.{Leaf}
use Rattle.wall_law.specs.declared.refusal.PositionRefusal.{PositionRefusal}
use Rattle.wall_law.specs.declared.refusal.PositionRefusal.TheVariants as refusals
use Rattle.wall_law.specs.Lawful.{Told as Tells}
use Rattle.wall_law.specs.Position.{Finding, is_told}
use Rattle.wall_law.specs.Rows.{row, first_of}
use Rattle.check_core.specs.declared.told.Told.{Told}

abbrev pub told_view : Told → Tells
told_view t = record { list = t.list; epoch = t.epoch }

-- what stands in the way where the signature, the list, its look-ups and the law don't
unfoldable pub refusal_behind : Tells → Leaf → Finding → Option PositionRefusal
refusal_behind before leaf f = first_of (
    row (is_none f.after) refusals.BadDictProof
    ∷ row (not f.seen) refusals.BadView
    ∷ row (not (is_told before leaf f.after)) refusals.WrongAfter
    ∷ [])

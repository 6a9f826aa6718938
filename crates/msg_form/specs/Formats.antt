-- What stands behind the tag of each message, as one format each.
use Rattle.std.specs.Prelude.{ℕ, ◌-◌, Bool, List, [], ◌∷◌, nat_lt, ◌==◌, if◌then◌else◌}
use Rattle.std.specs.Int.{w32, w64}
use Rattle.fr_bytes.specs.Bytes.{Text}
use Rattle.fr_bytes.specs.Reading.{Reader, as_at}
use Rattle.fr_bytes.specs.Format.{Format, format}
use Rattle.fr_bytes.specs.Parts.{number, number_within, byte_within, byte_within_at, counted_bytes, both, times, optional}
use Rattle.op_types.specs.declared.limits.TheConstants.{VIEW_SIZE_MAX}
use Rattle.op_types.specs.declared.view.View.{View}
use Rattle.op_types.specs.Formats.{view_format}
use Rattle.msg_form.specs.declared.causes.TheConstants.{WRONG_WALL, BAD_REQUEST}
use Rattle.msg_form.specs.Causes.{greatest_detail}

-- ---- parts

-- a byte that is 0 or 1
unfoldable pub flag_at : Reader Bool
flag_at = as_at (λ n. n == 1) (byte_within_at 0 1)

abbrev pub flag : Format Bool
flag = format (λ b. Unit {0}) (λ b. (if b then 1 else 0) ∷ []) flag_at

-- a tree, and as many lists as positions are shown: nothing where none is
abbrev pub shown : ℕ → Format (Text × List Text)
shown count = optional (nat_lt 0 count) ([], []) (both counted_bytes (λ tree. times count counted_bytes))

-- ---- requests

-- a wall, how many positions the client has, and whether all that follow are asked for
abbrev pub look : Format (ℕ × (ℕ × Bool))
look = both (number w32) (λ wall. both (number w64) (λ have. flag))

-- a wall, how many positions the client has, and the bytes of an operation
abbrev pub append : Format (ℕ × (ℕ × Text))
append = both (number w32) (λ wall. both (number w64) (λ have. counted_bytes))

-- a wall, and how many positions the client has
abbrev pub keys : Format (ℕ × ℕ)
keys = both (number w32) (λ wall. number w64)

-- ---- replies

-- a wall, a view of it, the first position that is shown, and what is shown from there to the view's size
abbrev pub show : Format (ℕ × (View × (ℕ × (Text × List Text))))
show = both (number w32) (λ wall. both (view_format wall) (λ view. both (number_within w64 0 view.size) (λ from. shown (view.size - from))))

-- a wall, a cause, and its detail
abbrev pub refused : Format (ℕ × (ℕ × ℕ))
refused = both (number w32) (λ wall. both (byte_within WRONG_WALL BAD_REQUEST) (λ cause. number_within w64 0 (greatest_detail cause)))

-- a wall, a size, and the bytes of a tree
abbrev pub key_ops : Format (ℕ × (ℕ × Text))
key_ops = both (number w32) (λ wall. both (number_within w64 1 VIEW_SIZE_MAX) (λ size. counted_bytes))

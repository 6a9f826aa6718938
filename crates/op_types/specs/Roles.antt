-- What a role allows.
use Rattle.std.specs.Prelude.{ℕ, Bool, ◌||◌, nat_eq}
use Rattle.op_types.specs.declared.roles.TheConstants.{READER, WRITER, OWNER}

-- whether a user of this role may add operations
abbrev pub may_write : ℕ → Bool
may_write role = nat_eq role WRITER || nat_eq role OWNER

-- whether an admission may give this role
abbrev pub may_be_given : ℕ → Bool
may_be_given role = nat_eq role READER || nat_eq role WRITER

-- Wishes of the program, as the plain client has them.
use Rattle.std.specs.Prelude.{◌≡◌, true}
use Rattle.op_types.specs.Roles.{may_be_given}
use Rattle.client_core.specs.declared.wish.Wish.{Wish as Told}
use Rattle.client_core.specs.declared.wish.Wish.TheVariants as told
use Rattle.client_core.specs.Asking.{Wish, adds, drops}

abbrev pub wish_view : Told → Wish
wish_view (told.Adds user role) = adds user role
wish_view (told.Drops user) = drops user

-- a role that an admission may give
abbrev pub IsWish : Wish → Type 0
IsWish (adds user role) = may_be_given role ≡ true
IsWish (drops user) = Unit {0}

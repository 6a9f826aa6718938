use Rattle.std.proofs.Common.{◌≡◌, ℕ, map, take}
use Rattle.lms_tree.specs.Valid.{Key}
use Rattle.audit_worlds.proofs.wall.keys_of.Given as goal

abbrev pub invariant-loop-user : goal.invariant-loop-user
invariant-loop-user l = map (λ (p : ℕ × Key). p.0) l.keys.items ≡ take l.user-index l.users

-- Users and walls.
use Rattle.std.proofs.Common.{◌≡◌, false, List, [], ◌∷◌, ◌++◌}
use Rattle.std.specs.Prelude.{codes}
use Rattle.std.specs.List.{All, IsDistinct}
use Rattle.std.proofs.lemmas.List.Elements.{All-nil}
use Rattle.serde_json.specs.Data.{Data}
use Rattle.serde_json.specs.Find.{as_bool}
use Rattle.script_read.specs.declared.refusal.ScriptRefusal.TheVariants.{Field}
use Rattle.script_read.specs.declared.script.ScriptUser.{ScriptUser}
use Rattle.script_read.specs.declared.script.ScriptWall.{ScriptWall}
use Rattle.script_read.specs.Refusal.{◌>>=◌}
use Rattle.script_read.specs.Fields.{hexadecimal, an_object, key, limited, list_within, no_further}
use Rattle.script_read.specs.Elements.{each}
use Rattle.script_read.specs.Users.{has_user, user_of}
use Rattle.script_read.specs.Walls.{has_wall, wall_of}
use Rattle.script_read.specs.Script.{users_of, walls_of}
use Rattle.script_read.specs.Limits.{IsUser, IsWall, AreUsers, AreWalls, same_user, same_wall}
use Rattle.script_read.proofs.Holding.{Holds, gives, after, skip, weaker, limited_at, passing, ranged}
use Rattle.script_read.proofs.Added.{All_more, distinct_more, distinct_none, listed_at}

-- ---- users

abbrev IsFresh : List ScriptUser → ScriptUser → Type 0
IsFresh before u = IsUser u × (has_user before u.user ≡ false)

user_holds : (before : List ScriptUser) (d : Data) → Holds (IsFresh before) (user_of before d)
unfolding user_of
user_holds before d =
    skip (an_object (codes "users") d) (λ o.
    ranged (codes "user") 1 65535 o (λ user number.
    passing (Field (codes "user")) (has_user before user) (λ u fresh.
    skip (key (codes "private") (hexadecimal 32) o) (λ private.
    skip (key (codes "id") (hexadecimal 16) o) (λ id.
    ranged (codes "lms") 5 6 o (λ lms tall.
    ranged (codes "ots") 1 4 o (λ ots wide.
    skip (key (codes "secret") (hexadecimal 32) o) (λ secret.
    skip (key (codes "rogue") as_bool o) (λ rogue.
    skip (no_further 7 o) (λ only.
    gives (IsFresh before)
    (record { user = user; private = private; id = id; lms = lms; ots = ots; secret = secret; rogue = rogue })
    (record { number = number; lms = tall; ots = wide }, fresh)))))))))))

abbrev UsersSoFar : List ScriptUser → Type 0
UsersSoFar users = All IsUser users × IsDistinct same_user users

one_user_more : (before : List ScriptUser) (d : Data) → UsersSoFar before
    → Holds (λ u. UsersSoFar (before ++ u ∷ [])) (user_of before d)
one_user_more before d so_far =
    weaker (user_of before d) (user_holds before d)
    (λ u h. (All_more IsUser before u so_far.0 h.0, distinct_more same_user before u so_far.1 h.1))

pub users_hold : (o : Data) → Holds AreUsers (users_of o)
unfolding users_of
users_hold o =
    weaker (list_within (codes "users") 1 32 o >>= λ ds. each user_of [] ds)
    (listed_at user_of UsersSoFar (codes "users") 1 32 o (All-nil IsUser, distinct_none same_user) one_user_more)
    (λ users h. record { few = h.0; all = h.1.0; distinct = h.1.1 })

-- ---- walls

abbrev IsFreshWall : List ScriptWall → ScriptWall → Type 0
IsFreshWall before w = IsWall w × (has_wall before w.wall ≡ false)

wall_holds : (before : List ScriptWall) (d : Data) → Holds (IsFreshWall before) (wall_of before d)
unfolding wall_of
wall_holds before d =
    skip (an_object (codes "walls") d) (λ o.
    ranged (codes "wall") 1 65535 o (λ wall number.
    passing (Field (codes "wall")) (has_wall before wall) (λ u fresh.
    ranged (codes "owner") 1 65535 o (λ owner owned.
    after (limited (codes "f") 0 31 o) (limited_at (codes "f") 0 31 o) (λ f few.
    after (limited (codes "depth") 1 6 o) (limited_at (codes "depth") 1 6 o) (λ depth deep.
    skip (key (codes "master") (hexadecimal 32) o) (λ master.
    skip (key (codes "private") (hexadecimal 32) o) (λ private.
    skip (key (codes "id") (hexadecimal 16) o) (λ id.
    ranged (codes "ots") 1 4 o (λ ots wide.
    skip (no_further 8 o) (λ only.
    gives (IsFreshWall before)
    (record { wall = wall; owner = owner; f = f; depth = depth; master = master; private = private; id = id; ots = ots })
    (record { number = number; owner = owned; f = few.1; depth = deep; ots = wide }, fresh))))))))))))

abbrev WallsSoFar : List ScriptWall → Type 0
WallsSoFar walls = All IsWall walls × IsDistinct same_wall walls

one_wall_more : (before : List ScriptWall) (d : Data) → WallsSoFar before
    → Holds (λ w. WallsSoFar (before ++ w ∷ [])) (wall_of before d)
one_wall_more before d so_far =
    weaker (wall_of before d) (wall_holds before d)
    (λ w h. (All_more IsWall before w so_far.0 h.0, distinct_more same_wall before w so_far.1 h.1))

pub walls_hold : (o : Data) → Holds AreWalls (walls_of o)
unfolding walls_of
walls_hold o =
    weaker (list_within (codes "walls") 1 8 o >>= λ ds. each wall_of [] ds)
    (listed_at wall_of WallsSoFar (codes "walls") 1 8 o (All-nil IsWall, distinct_none same_wall) one_wall_more)
    (λ walls h. record { few = h.0; all = h.1.0; distinct = h.1.1 })

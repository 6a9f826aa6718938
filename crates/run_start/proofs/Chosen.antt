-- What is known of the users and the walls of listed numbers.
use Rattle.std.proofs.Common.{◌≡◌, ℕ, ◌≤◌}
use Rattle.std.proofs.lemmas.List.Elements.{recursion_from_All}
use Rattle.script_read.specs.declared.script.Script.{Script}
use Rattle.script_read.specs.declared.script.ScriptUser.{ScriptUser}
use Rattle.script_read.specs.declared.script.ScriptWall.{ScriptWall}
use Rattle.script_read.specs.Limits.{IsListedUser, IsListedWall, IsScript, IsUser, IsWall}
use Rattle.script_read.specs.Writes.{signatures, writes}
use Rattle.run_start.specs.Numbers.{no_user, no_wall, the_user, the_wall}
use Rattle.run_start.proofs.Listing.{found}

-- the user has the number, and keeps to the limits
pub record IsKnownUser (script : Script) (n : ℕ) : Type 0 where
  pub number : (the_user script n).user ≡ n
  pub ranges : IsUser (the_user script n)
  pub signed : writes script (the_user script n).user ≤ signatures (the_user script n).lms

pub known-user : (script : Script) → IsScript script → (n : ℕ) → IsListedUser script n → IsKnownUser script n
unfolding the_user
known-user script s n listed =
    let all = recursion_from_All IsUser script.users s.users.all in
    let few = recursion_from_All (λ (u : ScriptUser). writes script u.user ≤ signatures u.lms) script.users s.signed in
    let one = found (λ (u : ScriptUser). u.user) IsUser no_user script.users n listed all in
    record {
      number = one.1;
      ranges = one.0;
      signed =
          (found (λ (u : ScriptUser). u.user) (λ (u : ScriptUser). writes script u.user ≤ signatures u.lms) no_user
          script.users n listed few).0;
    }

-- and so has the wall
pub record IsKnownWall (script : Script) (n : ℕ) : Type 0 where
  pub number : (the_wall script n).wall ≡ n
  pub ranges : IsWall (the_wall script n)

pub known-wall : (script : Script) → IsScript script → (n : ℕ) → IsListedWall script n → IsKnownWall script n
unfolding the_wall
known-wall script s n listed =
    let one = found (λ (w : ScriptWall). w.wall) IsWall no_wall script.walls n listed
    (recursion_from_All IsWall script.walls s.walls.all) in
    record { number = one.1; ranges = one.0 }

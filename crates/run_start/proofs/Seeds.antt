-- What is made of users' and walls' seeds.
use Rattle.std.proofs.Common.{◌≡◌, ℕ, List, [], ◌∷◌, lit≤, map, refl, ap}
use Rattle.std.specs.List.{All, AllByRecursion}
use Rattle.std.proofs.lemmas.List.Elements.{All-from_recursion, recursion_from_All}
use Rattle.script_read.specs.declared.script.Script.{Script}
use Rattle.script_read.specs.Limits.{IsListedUser, IsListedWall, IsScript}
use Rattle.run_start.specs.declared.keys.Party.{Party}
use Rattle.run_start.specs.Parties.{IsSeed, party_of, user_party, user_seed, wall_party, wall_seed}
use Rattle.run_start.proofs.Chosen.{known-user, known-wall}

module _ (script : Script) where
  pub user-parties : (users : List ℕ) → map party_of (map (user_seed script) users) ≡ map (user_party script) users
  user-parties [] = refl
  user-parties (n ∷ users) = ap (λ (ps : List Party). user_party script n ∷ ps) (user-parties users)

  pub wall-parties : (walls : List ℕ) → map party_of (map (wall_seed script) walls) ≡ map (wall_party script) walls
  wall-parties [] = refl
  wall-parties (n ∷ walls) = ap (λ (ps : List Party). wall_party script n ∷ ps) (wall-parties walls)

module _ (script : Script) (s : IsScript script) where
  each-user : (users : List ℕ) → AllByRecursion (IsListedUser script) users
      → AllByRecursion IsSeed (map (user_seed script) users)
  each-user [] all = tt
  each-user (n ∷ users) all =
      let known = known-user script s n all.0 in
      (record { lms = known.ranges.lms; ots = known.ranges.ots }, each-user users all.1)

  pub user-seeds : (users : List ℕ) → All (IsListedUser script) users → All IsSeed (map (user_seed script) users)
  user-seeds users all =
      All-from_recursion IsSeed (map (user_seed script) users)
      (each-user users (recursion_from_All (IsListedUser script) users all))

  each-wall : (walls : List ℕ) → AllByRecursion (IsListedWall script) walls
      → AllByRecursion IsSeed (map (wall_seed script) walls)
  each-wall [] all = tt
  each-wall (n ∷ walls) all =
      (record { lms = (lit≤ tt, lit≤ tt); ots = (known-wall script s n all.0).ranges.ots }, each-wall walls all.1)

  pub wall-seeds : (walls : List ℕ) → All (IsListedWall script) walls → All IsSeed (map (wall_seed script) walls)
  wall-seeds walls all =
      All-from_recursion IsSeed (map (wall_seed script) walls)
      (each-wall walls (recursion_from_All (IsListedWall script) walls all))

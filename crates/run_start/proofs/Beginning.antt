-- What the users and the walls with their signers are made into.
use Rattle.std.proofs.Common.{◌≡◌, ◌∙◌, ℕ, List, [], ◌∷◌, map, refl, ap, sym, subst}
use Rattle.std.specs.List.{All, AllByRecursion}
use Rattle.std.proofs.lemmas.List.Elements.{All-from_recursion, recursion_from_All}
use Rattle.lms_tree.specs.Valid.{Key}
use Rattle.hall_core.specs.declared.facts.WallFacts.{WallFacts}
use Rattle.hall_core.specs.Standing as standing
use Rattle.hall_server.specs.Seating.{opened}
use Rattle.hall_server.specs.Sights.{Sight}
use Rattle.client_core.specs.Clients.{ClientView}
use Rattle.world_book.specs.declared.world.WallNote.{WallNote}
use Rattle.script_read.specs.declared.script.Script.{Script}
use Rattle.script_read.specs.Limits.{IsListedUser, IsListedWall, IsScript}
use Rattle.run_start.specs.declared.keys.Parties.{Parties}
use Rattle.run_start.specs.declared.keys.Party.{Party}
use Rattle.run_start.specs.declared.shared.Shared.{Shared}
use Rattle.run_start.specs.Begins.{opening_sights, sight_of}
use Rattle.run_start.specs.Clients.{client_at, opening_client, secrets_in, shared_in}
use Rattle.run_start.specs.Keys.{facts_at, keys_in, note_at, notes_in}
use Rattle.run_start.specs.Parties.{AreParties, HasListedWall, HasShared, IsShared, IsUserParty, IsWallParty, client_of, facts_of, listed_key, note_of, user_party, wall_party}

module _ (script : Script) where
  each-user : (users : List ℕ) → AllByRecursion (IsListedUser script) users
      → AllByRecursion (IsUserParty script) (map (user_party script) users)
  each-user [] all = tt
  each-user (n ∷ users) all = (record { listed = all.0; made = refl }, each-user users all.1)

  each-wall : (walls : List ℕ) → AllByRecursion (IsListedWall script) walls
      → AllByRecursion (IsWallParty script) (map (wall_party script) walls)
  each-wall [] all = tt
  each-wall (n ∷ walls) all = (record { listed = all.0; made = refl }, each-wall walls all.1)

  pub users-are : (parties : Parties) → AreParties script parties
      → AllByRecursion (IsUserParty script) parties.users.items
  users-are parties p =
      subst (AllByRecursion (IsUserParty script)) (sym p.users_are)
      (each-user parties.numbers.items (recursion_from_All (IsListedUser script) parties.numbers.items p.all_users.each))

  pub walls-are : (parties : Parties) → AreParties script parties
      → AllByRecursion (IsWallParty script) parties.walls.items
  walls-are parties p =
      subst (AllByRecursion (IsWallParty script)) (sym p.walls_are)
      (each-wall p.walls (recursion_from_All (IsListedWall script) p.walls p.all_walls.each))

  pub all-walls-are : (parties : Parties) → AreParties script parties → All (IsWallParty script) parties.walls.items
  all-walls-are parties p = All-from_recursion (IsWallParty script) parties.walls.items (walls-are parties p)

  -- ---- what is shared

  keys-are : (users : List ℕ) → map listed_key (map (user_party script) users) ≡ keys_in script users
  keys-are [] = refl
  keys-are (n ∷ users) = ap (λ (ks : List (ℕ × Key)). listed_key (user_party script n) ∷ ks) (keys-are users)

  notes-are : (walls : List ℕ) → map (note_of script) (map (wall_party script) walls) ≡ notes_in script walls
  notes-are [] = refl
  notes-are (n ∷ walls) = ap (λ (ns : List WallNote). note_at script n ∷ ns) (notes-are walls)

  pub has-shared : (parties : Parties) → AreParties script parties → (shared : Shared)
      → shared.keys ≡ map listed_key parties.users.items → shared.secrets ≡ secrets_in script parties.numbers.items
      → shared.notes ≡ map (note_of script) parties.walls.items → HasShared script parties shared
  has-shared parties p shared keys secrets notes walls are =
      let k = keys ∙ ap (map listed_key) p.users_are ∙ keys-are parties.numbers.items in
      let n = notes ∙ ap (map (note_of script)) are ∙ notes-are walls in
      λ i. record { keys = k i; secrets = secrets i; notes = n i }

  pub is-shared : (parties : Parties) → AreParties script parties → (shared : Shared)
      → HasShared script parties shared → IsShared script shared
  is-shared parties p shared has = record {
    users = parties.numbers.items;
    walls = p.walls;
    all_users = p.all_users;
    all_walls = p.all_walls;
    made = has p.walls p.walls_are;
  }

  listed-walls : (walls : List ℕ) → AllByRecursion (IsListedWall script) walls
      → AllByRecursion (HasListedWall script) (notes_in script walls)
  listed-walls [] all = tt
  listed-walls (n ∷ walls) all = (all.0, listed-walls walls all.1)

  -- the walls of the notes are listed
  pub shared-walls : (shared : Shared) → IsShared script shared → All (HasListedWall script) shared.notes
  shared-walls shared sh =
      subst (λ (s : Shared). All (HasListedWall script) s.notes) (sym sh.made)
      (All-from_recursion (HasListedWall script) (notes_in script sh.walls)
      (listed-walls sh.walls (recursion_from_All (IsListedWall script) sh.walls sh.all_walls.each)))

  -- ---- clients

  of-parties : (shared : Shared) (users : List ℕ)
      → map (client_of script shared) (map (user_party script) users) ≡ map (client_at script shared) users
  of-parties shared [] = refl
  of-parties shared (n ∷ users) =
      ap (λ (cs : List ClientView). client_at script shared n ∷ cs) (of-parties shared users)

  pub clients-are : (parties : Parties) (p : AreParties script parties) (shared : Shared)
      → HasShared script parties shared → (clients : List ClientView)
      → clients ≡ map (client_of script shared) parties.users.items
      → clients ≡ map (opening_client script parties.numbers.items p.walls) parties.numbers.items
  clients-are parties p shared has clients are =
      are
      ∙ ap (map (client_of script shared)) p.users_are
      ∙ of-parties shared parties.numbers.items
      ∙ ap (λ (s : Shared). map (client_at script s) parties.numbers.items) (has p.walls p.walls_are)

  -- ---- halls

  of-walls : (keys : List (ℕ × Key)) (walls : List ℕ)
      → map (facts_of script keys) (map (wall_party script) walls) ≡ map (facts_at script keys) walls
  of-walls keys [] = refl
  of-walls keys (n ∷ walls) = ap (λ (fs : List WallFacts). facts_at script keys n ∷ fs) (of-walls keys walls)

  pub facts-are : (parties : Parties) (p : AreParties script parties) (shared : Shared)
      → HasShared script parties shared → (facts : List WallFacts)
      → facts ≡ map (facts_of script shared.keys) parties.walls.items
      → facts ≡ map (facts_at script (keys_in script parties.numbers.items)) p.walls
  facts-are parties p shared has facts are =
      are
      ∙ ap (map (facts_of script shared.keys)) p.walls_are
      ∙ of-walls shared.keys p.walls
      ∙ ap (λ (s : Shared). map (facts_at script s.keys) p.walls) (has p.walls p.walls_are)

  numbers-of : (keys : List (ℕ × Key)) (walls : List ℕ)
      → map (λ (f : WallFacts). f.wall) (map (facts_at script keys) walls) ≡ walls
  numbers-of keys [] = refl
  numbers-of keys (n ∷ walls) = ap (λ (ns : List ℕ). n ∷ ns) (numbers-of keys walls)

  of-halls : (halls : List standing.Hall)
      → map (λ (h : standing.Hall). h.facts.wall) halls
      ≡ map (λ (f : WallFacts). f.wall) (map (λ (h : standing.Hall). h.facts) halls)
  of-halls [] = refl
  of-halls (h ∷ halls) = ap (λ (ns : List ℕ). h.facts.wall ∷ ns) (of-halls halls)

  pub hall-walls : (keys : List (ℕ × Key)) (walls : List ℕ) (halls : List standing.Hall)
      → map (λ (h : standing.Hall). h.facts) halls ≡ map (facts_at script keys) walls
      → map (λ (h : standing.Hall). h.facts.wall) halls ≡ walls
  hall-walls keys walls halls are =
      of-halls halls ∙ ap (map (λ (f : WallFacts). f.wall)) are ∙ numbers-of keys walls

  sights-of : (halls : List standing.Hall)
      → map opened halls ≡ map sight_of (map (λ (h : standing.Hall). h.facts) halls)
  sights-of [] = refl
  sights-of (h ∷ halls) = ap (λ (ss : List Sight). opened h ∷ ss) (sights-of halls)

  sights-at : (keys : List (ℕ × Key)) (walls : List ℕ)
      → map sight_of (map (facts_at script keys) walls) ≡ map (λ (n : ℕ). sight_of (facts_at script keys n)) walls
  sights-at keys [] = refl
  sights-at keys (n ∷ walls) = ap (λ (ss : List Sight). sight_of (facts_at script keys n) ∷ ss) (sights-at keys walls)

  pub hall-sights : (users walls : List ℕ) (halls : List standing.Hall)
      → map (λ (h : standing.Hall). h.facts) halls ≡ map (facts_at script (keys_in script users)) walls
      → map opened halls ≡ opening_sights script users walls
  hall-sights users walls halls are =
      sights-of halls ∙ ap (map sight_of) are ∙ sights-at (keys_in script users) walls

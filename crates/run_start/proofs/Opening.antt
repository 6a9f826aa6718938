-- What users' clients begin with is what a client may begin with.
use Rattle.std.proofs.Common.{◌≡◌, ◌≢◌, ◌∙◌, ℕ, zero, suc, ◌<◌, ◌≤◌, Bool, true, false, List, [], ◌∷◌, length, map, get_or, Some, None, refl, ap, sym, subst, inl, inr, arith}
use Rattle.std.specs.Prelude.{find, is_some, nat_eq, if◌then◌else◌}
use Rattle.std.specs.List.{All, AllByRecursion, AllPairs, Contains, IsDistinct}
use Rattle.std.proofs.lemmas.Bool.{cases_Bool, eqb-true, eq-eqb}
use Rattle.std.proofs.lemmas.Bool.Decides.{Decides-eqb}
use Rattle.std.proofs.lemmas.List.Elements.{recursion_from_All}
use Rattle.std.proofs.lemmas.Map.Made.{IsDistinct-from_AllPairs}
use Rattle.std.proofs.lemmas.Option.{slice_get-get_or}
use Rattle.lms_tree.specs.Valid.{Key}
use Rattle.signed_ops.specs.Signed.{key_of}
use Rattle.world_book.specs.Records.{Rise}
use Rattle.client_core.specs.declared.start.Owned.{Owned}
use Rattle.client_core.specs.declared.start.SideStart.{SideStart}
use Rattle.client_core.specs.Clients.{AreStarts, IsStart}
use Rattle.script_read.specs.declared.script.Script.{Script}
use Rattle.script_read.specs.declared.script.ScriptUser.{ScriptUser}
use Rattle.script_read.specs.Limits.{IsListedUser, IsListedWall, IsScript}
use Rattle.run_start.specs.declared.shared.Shared.{Shared}
use Rattle.run_start.specs.Clients.{owned_of, shared_in, start_on, starts_of}
use Rattle.run_start.specs.Keys.{keys_in, note_at, user_key}
use Rattle.run_start.specs.Numbers.{Lists, the_user, the_wall}
use Rattle.run_start.specs.Parties.{IsShared}
use Rattle.run_start.proofs.Chosen.{IsKnownUser, IsKnownWall, known-user, known-wall}

-- ---- rising numbers

pub apart-rising : (xs : List ℕ) → Rise xs → AllPairs (λ (m n : ℕ). m ≢ n) xs
apart-rising xs rise i j d less within is =
    let lt : get_or xs i d < get_or xs j d =
    rise i j (get_or xs i d) (get_or xs j d) less (slice_get-get_or xs i d (omega arith)) (slice_get-get_or xs j d within) in
    omega (arith, is)

-- ---- keys

-- a listed user is found among the users with their keys
pub own-key : (script : Script) (users : List ℕ) (n : ℕ) → Contains users n
    → key_of (keys_in script users) n ≡ Some (user_key script n)
own-key script users n there = at users there.0 there.1 there.2
  where
    at : (xs : List ℕ) (k : ℕ) → k < length xs → get_or xs k n ≡ n → key_of (keys_in script xs) n
        ≡ Some (user_key script n)
    at [] k less is = absurd (omega arith)
    at (x ∷ xs) zero less is = rw (eq-eqb x n is) (ap (λ (m : ℕ). Some (user_key script m)) is)
    at (x ∷ xs) (suc k) less is = elim (cases_Bool (nat_eq x n)) [
      | inl here ↦ rw here (ap (λ (m : ℕ). Some (user_key script m)) (eqb-true x n here))
      | inr other ↦ rw other (at xs k (omega arith) is)
    ]

-- ---- one side

owned-there : (b : Bool) (o : Owned) → is_some (if b then Some o else None) ≡ b
owned-there true o = refl
owned-there false o = refl

one-start : (script : Script) (shared : Shared) (n w : ℕ) → IsKnownUser script n → IsKnownWall script w
    → IsStart n (start_on script shared (the_user script n) (note_at script w))
one-start script shared n w user wall = record {
  size = refl;
  epoch = refl;
  few = wall.ranges.f;
  depth = wall.ranges.depth;
  owned =
      owned-there (nat_eq (the_user script n).user (the_wall script w).owner) (owned_of (the_wall script w) shared)
      ∙ ap (λ (m : ℕ). nat_eq m (the_wall script w).owner) user.number;
}

-- ---- all sides

module _ (script : Script) (s : IsScript script) (users : List ℕ) (n : ℕ) (listed : IsListedUser script n) where
  abbrev starts-on : Shared → List ℕ → List SideStart
  starts-on shared walls = map (start_on script shared (the_user script n)) (map (note_at script) walls)

  each-start : (shared : Shared) (walls : List ℕ) → AllByRecursion (IsListedWall script) walls
      → AllByRecursion (IsStart n) (starts-on shared walls)
  each-start shared [] all = tt
  each-start shared (w ∷ walls) all = (
    one-start script shared n w (known-user script s n listed) (known-wall script s w all.0),
    each-start shared walls
        all.1,
  )

  walls-of : (shared : Shared) (walls : List ℕ) → map (λ (t : SideStart). t.known.wall) (starts-on shared walls) ≡ walls
  walls-of shared [] = refl
  walls-of shared (w ∷ walls) = ap (λ (ws : List ℕ). w ∷ ws) (walls-of shared walls)

  same-keys : (shared : Shared) (walls : List ℕ)
      → AllByRecursion (λ (t : SideStart). t.known.users ≡ shared.keys) (starts-on shared walls)
  same-keys shared [] = tt
  same-keys shared (w ∷ walls) = (refl, same-keys shared walls)

pub starts-are : (script : Script) → IsScript script → (shared : Shared) → IsShared script shared → (n : ℕ)
    → IsListedUser script n → AreStarts n (user_key script n) (starts_of script shared (the_user script n))
starts-are script s shared sh n listed =
    let all = shared_in script sh.users sh.walls in
    subst (λ (x : Shared). AreStarts n (user_key script n) (starts_of script x (the_user script n))) (sym sh.made)
    (record {
      each =
          each-start script s sh.users n listed all sh.walls (recursion_from_All (IsListedWall script) sh.walls
          sh.all_walls.each);
      walls =
          subst (IsDistinct nat_eq) (sym (walls-of script s sh.users n listed all sh.walls))
          (IsDistinct-from_AllPairs Decides-eqb sh.walls (apart-rising sh.walls sh.all_walls.rise));
      keys = keys_in script sh.users;
      same = same-keys script s sh.users n listed all sh.walls;
      own = own-key script sh.users n (sh.all_users.all n listed);
    })

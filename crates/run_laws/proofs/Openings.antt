-- What each user's client begins with follows each wall of which there is nothing yet.
use Rattle.std.proofs.Common.{◌≡◌, ◌∙◌, ◌⊎◌, inl, inr, ℕ, suc, Bool, List, [], ◌∷◌, map, Option, Some, None, refl, sym, ap, eq-eqb, ne_eqb, arith}
use Rattle.std.specs.Prelude.{slice_get, if◌then◌else◌}
use Rattle.std.proofs.lemmas.Bool.{cases_eq}
use Rattle.fr_digest.specs.Digest.{Digest}
use Rattle.world_book.specs.declared.world.WallNote.{WallNote}
use Rattle.world_book.specs.Records.{note_of}
use Rattle.client_core.specs.declared.start.Owned.{Owned}
use Rattle.client_core.specs.Clients.{opening_keys, opening_side}
use Rattle.client_core.specs.Keys.{fresh}
use Rattle.client_core.specs.Sides.{SideView, place_of, side_of}
use Rattle.script_read.specs.declared.script.Script.{Script}
use Rattle.script_read.specs.Limits.{IsScript}
use Rattle.script_read.specs.Users.{has_user}
use Rattle.script_read.specs.Walls.{has_wall}
use Rattle.session_laws.specs.Doing.{plain}
use Rattle.session_laws.specs.Histories.{IsUser}
use Rattle.run_start.specs.Clients.{opening_client, owned_by, shared_in, start_on}
use Rattle.run_start.specs.Keys.{facts_at, keys_in, note_at, notes_in}
use Rattle.run_start.specs.Numbers.{Lists, the_user, the_wall}
use Rattle.run_script.proofs.Opening.{sides-are}
use Rattle.run_laws.specs.Following.{KeepsUp}

-- ---- notes

-- a noted wall is one of the script's, and its note tells of it
pub noted-at : (script : Script) (ws : List ℕ) (wall : ℕ) (note : WallNote)
    → note_of (notes_in script ws) wall ≡ Some note → IsUser ws wall × (note_at script wall ≡ note)
noted-at script [] wall note e = absurd cc
noted-at script (w ∷ ws) wall note e = elim (cases_eq w wall) [
  | inl is ↦
      let first : Some (note_at script w) ≡ Some note =
      sym (ap (λ (b : Bool). if b then Some (note_at script w) else note_of (notes_in script ws) wall)
      (eq-eqb w wall is)) ∙ e in
      (inl is, ap (note_at script) (sym is) ∙ cc)
  | inr ne ↦
      let rest = noted-at script ws wall note
      (sym (ap (λ (b : Bool). if b then Some (note_at script w) else note_of (notes_in script ws) wall)
      (ne_eqb w wall ne)) ∙ e) in
      (inr rest.0, rest.1)
]

pub has-note : (script : Script) (ws : List ℕ) (wall : ℕ) → IsUser ws wall
    → note_of (notes_in script ws) wall ≡ Some (note_at script wall)
has-note script [] wall none = absurd none
has-note script (w ∷ ws) wall there = elim (cases_eq w wall) [
  | inl is ↦
      ap (λ (b : Bool). if b then Some (note_at script w) else note_of (notes_in script ws) wall) (eq-eqb w wall is)
      ∙ ap (λ (v : ℕ). Some (note_at script v)) is
  | inr ne ↦
      ap (λ (b : Bool). if b then Some (note_at script w) else note_of (notes_in script ws) wall) (ne_eqb w wall ne)
      ∙ has-note script ws wall (other there ne)
]
  where
    other : (w ≡ wall) ⊎ IsUser ws wall → (w ≡ wall → ⊥) → IsUser ws wall
    other (inl is) ne = absurd (ne is)
    other (inr rest) ne = rest

-- ---- sides

module _ (f : ℕ → SideView) (own : (w : ℕ) → (f w).known.wall ≡ w) where
  pub side-there : (ws : List ℕ) (wall : ℕ) → IsUser ws wall → side_of wall (map f ws) ≡ Some (f wall)
  side-there [] wall none = absurd none
  side-there (w ∷ ws) wall there = elim (cases_eq w wall) [
    | inl is ↦
        ap (λ (b : Bool). slice_get (map f (w ∷ ws)) (if b then 0 else suc (place_of wall (map f ws))))
        (eq-eqb (f w).known.wall wall (own w ∙ is)) ∙ ap (λ (v : ℕ). Some (f v)) is
    | inr ne ↦
        ap (λ (b : Bool). slice_get (map f (w ∷ ws)) (if b then 0 else suc (place_of wall (map f ws))))
        (ne_eqb (f w).known.wall wall (λ same. ne (sym (own w) ∙ same)))
        ∙ side-there ws wall (other there ne)
  ]
    where
      other : (w ≡ wall) ⊎ IsUser ws wall → (w ≡ wall → ⊥) → IsUser ws wall
      other (inl is) ne = absurd (ne is)
      other (inr rest) ne = rest

pub fresh-open : (user wall depth : ℕ) (secret : List ℕ) (o : Option Owned)
    → opening_keys user wall depth secret o ≡ fresh (opening_keys user wall depth secret o)
fresh-open user wall depth secret None = refl
fresh-open user wall depth secret (Some owned) = refl

module _ (d : Digest) (s : Script) (is : IsScript s) (users walls : List ℕ)
    (all_users : Lists (has_user s.users) users) (all_walls : Lists (has_wall s.walls) walls) where
  -- what a user's client begins with on a wall
  abbrev pub side-on : ℕ → ℕ → SideView
  side-on n w = opening_side n (start_on s (shared_in s users walls) (the_user s n) (note_at s w))

  pub keeps-open : (n wall : ℕ) → IsUser walls wall
      → KeepsUp d (facts_at s (keys_in s users) wall) [] (plain (opening_client s users walls n))
  keeps-open n wall there = record {
    side = side-on n wall;
    found = ap (side_of wall) (sides-are s is users walls all_users all_walls n)
        ∙ side-there (side-on n) (λ w. refl) walls wall there;
    follows = record {
      accepted = record {
        knows = record { wall = refl; owner = refl; f = refl; server = refl; users = refl };
        within = omega arith;
        root_is = λ some. absurd (omega (some, arith));
        epoch_is = refl;
      };
      held = fresh-open n wall (the_wall s wall).depth (the_user s n).secret
          (owned_by s (shared_in s users walls) (the_user s n) (note_at s wall));
    };
    records = tt;
  }

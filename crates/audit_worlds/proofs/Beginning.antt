-- The users' clients begin together.
use Rattle.std.proofs.Common.{◌≡◌, ◌∙◌, ℕ, zero, suc, ◌<◌, List, [], ◌∷◌, length, map, Some, sym, subst, arith}
use Rattle.std.specs.Prelude.{slice_get}
use Rattle.std.specs.List.{AllByRecursion}
use Rattle.lms_tree.specs.Valid.{Key}
use Rattle.world_book.specs.declared.world.WallNote.{WallNote}
use Rattle.world_book.specs.Records.{Rise, note_of}
use Rattle.client_core.specs.declared.side.Side.{Side}
use Rattle.client_core.specs.Clients.{Standing}
use Rattle.client_core.specs.Keeping.{notes_of}
use Rattle.client_core.specs.Sides.{sides_view}
use Rattle.run_end.specs.Ends.{AreTogether, IsAmong, user_in}
use Rattle.audit_worlds.specs.Clients.{Knows}

-- ---- numbers that rise

abbrev AreAbove : ℕ → List ℕ → Type 0
AreAbove m ns = AllByRecursion (λ (n : ℕ). m < n) ns

above-at : (m : ℕ) (ns : List ℕ) (j n : ℕ) → AreAbove m ns → slice_get ns j ≡ Some n → m < n
above-at m [] j n above at = absurd cc
above-at m (x ∷ ns) zero n above at = let e : x ≡ n = cc in subst (λ (k : ℕ). m < k) e above.0
above-at m (x ∷ ns) (suc j) n above at = above-at m ns j n above.1 at

rise-none : Rise []
rise-none i j m n less at there = absurd cc

rise-more : (x : ℕ) (ns : List ℕ) → AreAbove x ns → Rise ns → Rise (x ∷ ns)
rise-more x ns above rise zero zero m n less at there = absurd (omega (arith, less))
rise-more x ns above rise zero (suc j) m n less at there =
    let e : x ≡ m = cc in subst (λ (k : ℕ). k < n) e (above-at x ns j n above there)
rise-more x ns above rise (suc i) zero m n less at there = absurd (omega (arith, less))
rise-more x ns above rise (suc i) (suc j) m n less at there = rise i j m n (omega (arith, less)) at there

four-rise : Rise (1 ∷ 2 ∷ 3 ∷ 4 ∷ [])
four-rise = rise-more 1 (2 ∷ 3 ∷ 4 ∷ []) (omega arith, (omega arith, (omega arith, tt)))
    (rise-more 2 (3 ∷ 4 ∷ []) (omega arith, (omega arith, tt))
    (rise-more 3 (4 ∷ []) (omega arith, tt) (rise-more 4 [] tt rise-none)))

-- ---- clients

some-side : (sides : List Side) (note : WallNote) → notes_of (sides_view sides) ≡ note ∷ [] → 0 < length sides
some-side [] note e = absurd cc
some-side (s ∷ sides) note e = omega arith

knows-among : (note : WallNote) (keys : List (ℕ × Key)) (c : Standing) → Knows note keys c → IsAmong (note ∷ []) keys c
knows-among note keys c knows = record {
  some = some-side c.sides note knows.notes;
  users_are = knows.users;
  noted = λ wall n found. subst (λ (ns : List WallNote). note_of ns wall ≡ Some n) knows.notes found;
}

know-among : (note : WallNote) (keys : List (ℕ × Key)) (cs : List Standing) → AllByRecursion (Knows note keys) cs
    → AllByRecursion (IsAmong (note ∷ []) keys) cs
know-among note keys [] know = tt
know-among note keys (c ∷ cs) know = (knows-among note keys c know.0, know-among note keys cs know.1)

-- Clients of these users, who know one wall and these keys.
pub begin_together : (note : WallNote) (keys : List (ℕ × Key)) (cs : List Standing)
    → map (λ (p : ℕ × Key). p.0) keys ≡ 1 ∷ 2 ∷ 3 ∷ 4 ∷ [] → map user_in cs ≡ 1 ∷ 2 ∷ 3 ∷ 4 ∷ []
    → AllByRecursion (Knows note keys) cs → AreTogether (note ∷ []) cs
begin_together note keys cs listed users know = record {
  users = subst Rise (sym users) four-rise;
  walls = rise-more note.wall [] tt rise-none;
  keys = keys;
  listed = listed ∙ sym users;
  each = know-among note keys cs know;
}

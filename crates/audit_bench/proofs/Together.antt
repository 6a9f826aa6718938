-- The clients of users 1 and 2 begin together.
use Rattle.std.proofs.Common.{◌≡◌, ◌∙◌, ℕ, zero, suc, ◌<◌, List, [], ◌∷◌, length, map, Some, sym, subst, arith}
use Rattle.lms_tree.specs.Valid.{Key}
use Rattle.world_book.specs.declared.world.WallNote.{WallNote}
use Rattle.world_book.specs.Records.{Rise, note_of}
use Rattle.client_core.specs.declared.side.Side.{Side}
use Rattle.client_core.specs.Clients.{Standing}
use Rattle.client_core.specs.Keeping.{notes_of}
use Rattle.client_core.specs.Sides.{sides_view}
use Rattle.run_end.specs.Ends.{AreTogether, IsAmong, user_in}
use Rattle.audit_worlds.specs.Clients.{Knows}

rise-one : (x : ℕ) → Rise (x ∷ [])
rise-one x zero zero m n less at there = absurd (omega (arith, less))
rise-one x zero (suc j) m n less at there = absurd cc
rise-one x (suc i) j m n less at there = absurd cc

rise-two : (x y : ℕ) → x < y → Rise (x ∷ y ∷ [])
rise-two x y above zero zero m n less at there = absurd (omega (arith, less))
rise-two x y above zero (suc zero) m n less at there =
    let low : x ≡ m = cc in
    let high : y ≡ n = cc in
    subst (λ (k : ℕ). k < n) low (subst (λ (k : ℕ). x < k) high above)
rise-two x y above zero (suc (suc j)) m n less at there = absurd cc
rise-two x y above (suc i) zero m n less at there = absurd (omega (arith, less))
rise-two x y above (suc zero) (suc zero) m n less at there = absurd (omega (arith, less))
rise-two x y above (suc zero) (suc (suc j)) m n less at there = absurd cc
rise-two x y above (suc (suc i)) (suc j) m n less at there = absurd cc

some-side : (sides : List Side) (note : WallNote) → notes_of (sides_view sides) ≡ note ∷ [] → 0 < length sides
some-side [] note e = absurd cc
some-side (s ∷ sides) note e = omega arith

knows-among : (note : WallNote) (keys : List (ℕ × Key)) (c : Standing) → Knows note keys c → IsAmong (note ∷ []) keys c
knows-among note keys c knows = record {
  some = some-side c.sides note knows.notes;
  users_are = knows.users;
  noted = λ wall n found. subst (λ (ns : List WallNote). note_of ns wall ≡ Some n) knows.notes found;
}

users-are : (writer reader : Standing) → user_in writer ≡ 1 → user_in reader ≡ 2
    → map user_in (writer ∷ reader ∷ []) ≡ 1 ∷ 2 ∷ []
users-are writer reader first second = cc

-- Clients of these two users, who know one wall and these keys.
pub begin_together : (note : WallNote) (keys : List (ℕ × Key)) (writer reader : Standing)
    → map (λ (p : ℕ × Key). p.0) keys ≡ 1 ∷ 2 ∷ [] → user_in writer ≡ 1 → user_in reader ≡ 2
    → Knows note keys writer → Knows note keys reader → AreTogether (note ∷ []) (writer ∷ reader ∷ [])
begin_together note keys writer reader listed first second knows knows' = record {
  users = rise-two writer.book.user reader.book.user (omega (arith, first, second));
  walls = rise-one note.wall;
  keys = keys;
  listed = listed ∙ sym (users-are writer reader first second);
  each = (knows-among note keys writer knows, (knows-among note keys reader knows', tt));
}

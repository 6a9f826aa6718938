-- A side of a wall stays where what the sides know of their walls does.
use Rattle.std.proofs.Common.{◌≡◌, ◌∙◌, ℕ, suc, List, [], ◌∷◌, length, refl, sym, ap, subst, arith}
use Rattle.std.specs.Prelude.{nat_eq, if◌then◌else◌, Result, Ok, Err, IfOk, OnOk}
use Rattle.world_book.specs.declared.world.WallNote.{WallNote}
use Rattle.client_core.specs.declared.sent.Sent.{Sent}
use Rattle.client_core.specs.Keeping.{notes_of}
use Rattle.client_core.specs.Sides.{HasSide, SideView, place_of}

-- the place of a wall among these notes; without it, behind all
abbrev place_in : ℕ → List WallNote → ℕ
place_in wall [] = 0
place_in wall (n ∷ notes) = if nat_eq n.wall wall then 0 else suc (place_in wall notes)

place-noted : (wall : ℕ) (sides : List SideView) → place_of wall sides ≡ place_in wall (notes_of sides)
place-noted wall [] = refl
place-noted wall (s ∷ sides) =
    ap (λ (n : ℕ). if nat_eq s.known.wall wall then 0 else suc n) (place-noted wall sides)

many-noted : (sides : List SideView) → length sides ≡ length (notes_of sides)
many-noted [] = refl
many-noted (s ∷ sides) = ap suc (many-noted sides)

pub side-stays : (wall : ℕ) (before after : List SideView) → notes_of after ≡ notes_of before → HasSide wall before
    → HasSide wall after
side-stays wall before after same has =
    let place : place_of wall after ≡ place_of wall before =
    place-noted wall after ∙ ap (place_in wall) same ∙ sym (place-noted wall before) in
    let many : length after ≡ length before = many-noted after ∙ ap length same ∙ sym (many-noted before) in
    omega (arith, place, many, has)

pub where-ok : {T E : Type 0} {A : Type 0} (r : Result T E) → A → OnOk r A
where-ok (Ok x) a = a
where-ok (Err e) a = tt

-- What goes to wall 1 goes to a wall with a side.
pub goes-to-side : {E : Type 0} (r : Result Sent E) (sent : Sent) (sides : List SideView)
    → IfOk r (λ (s : Sent). s ≡ sent) → OnOk r (sent.wall ≡ 1) → HasSide 1 sides
    → IfOk r (λ (s : Sent). HasSide s.wall sides)
goes-to-side (Ok s) sent sides same wall has =
    subst (λ (w : ℕ). HasSide w sides) (sym (ap (λ (x : Sent). x.wall) same ∙ wall)) has
goes-to-side (Err e) sent sides same wall has = tt

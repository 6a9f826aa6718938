-- Wires of one kind: their views are alike.
use Rattle.std.proofs.Common.{◌≡◌, List, [], ◌∷◌, length, map, replicate, refl, ap}

pub all_alike : {X Y : Type 0} (y : Y) (xs : List X) → map (λ (x : X). y) xs ≡ replicate (length xs) y
all_alike y [] = refl
all_alike {Y = Y} y (x ∷ xs) = ap (λ (ys : List Y). y ∷ ys) (all_alike y xs)

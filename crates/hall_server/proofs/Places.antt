-- Seats and snapshots by their places, and what is known by walls' numbers.
use Rattle.std.proofs.Common.{◌≡◌, ◌≢◌, ◌∙◌, ℕ, zero, suc, ◌<◌, List, [], ◌∷◌, length, get_or, set, cond, refl, sym, ap, arith, slice_index_or, inl, inr}
use Rattle.std.specs.Prelude.{nat_eq}
use Rattle.std.specs.List.{AllZip, Contains}
use Rattle.std.proofs.lemmas.Bool.{cases_eq, eq-eqb, ne_eqb}
use Rattle.hall_core.specs.declared.snapshot.Snapshot.{Snapshot}
use Rattle.hall_server.specs.Seating.{IsFirst}
use Rattle.hall_server.specs.Sights.{HallSeat, Sight, sight_in, sight_of, sights_in, walls_in}

-- ---- by place

module _ {A B : Type 0} (R : A → B → Type 0) where
  -- another pair at a place
  pub zip_both_set : (xs : List A) (ys : List B) (k : ℕ) (x : A) (y : B) → AllZip R xs ys → R x y
      → AllZip R (set xs k x) (set ys k y)
  zip_both_set [] [] k x y zip one = tt
  zip_both_set [] (b ∷ ys) k x y zip one = absurd zip
  zip_both_set (a ∷ xs) [] k x y zip one = absurd zip
  zip_both_set (a ∷ xs) (b ∷ ys) zero x y zip one = (one, zip.1)
  zip_both_set (a ∷ xs) (b ∷ ys) (suc k) x y zip one = (zip.0, zip_both_set xs ys k x y zip.1 one)

pub set_same : {A : Type 0} (xs : List A) (k : ℕ) (x : A) → x ≡ get_or xs k x → set xs k x ≡ xs
set_same [] k x same = refl
set_same (y ∷ xs) zero x same = ap (λ z. z ∷ xs) same
set_same (y ∷ xs) (suc k) x same = ap (λ zs. y ∷ zs) (set_same xs k x same)

module _ {D : Type 0} where
  pub sights_set : (seats : List (HallSeat D)) (shots : List (Snapshot D)) (k : ℕ) (seat : HallSeat D) (shot : Snapshot D)
      → length shots ≡ length seats
      → sights_in (set seats k seat) (set shots k shot) ≡ set (sights_in seats shots) k (sight_of seat shot)
  sights_set [] [] k seat shot many = refl
  sights_set [] (y ∷ shots) k seat shot many = absurd (omega arith)
  sights_set (x ∷ seats) [] k seat shot many = absurd (omega arith)
  sights_set (x ∷ seats) (y ∷ shots) zero seat shot many = refl
  sights_set (x ∷ seats) (y ∷ shots) (suc k) seat shot many =
      ap (λ ss. sight_of x y ∷ ss) (sights_set seats shots k seat shot (omega arith))

  pub sights_at : (seats : List (HallSeat D)) (shots : List (Snapshot D)) (k : ℕ) (seat : HallSeat D) (shot : Snapshot D)
      (d : Sight) → length shots ≡ length seats → k < length seats
      → get_or (sights_in seats shots) k d ≡ sight_of (get_or seats k seat) (get_or shots k shot)
  sights_at [] shots k seat shot d many below = absurd (omega arith)
  sights_at (x ∷ seats) [] k seat shot d many below = absurd (omega arith)
  sights_at (x ∷ seats) (y ∷ shots) zero seat shot d many below = refl
  sights_at (x ∷ seats) (y ∷ shots) (suc k) seat shot d many below =
      sights_at seats shots k seat shot d (omega arith) (omega arith)

  pub length-sights : (seats : List (HallSeat D)) (shots : List (Snapshot D)) → length shots ≡ length seats
      → length (sights_in seats shots) ≡ length seats
  length-sights [] [] many = refl
  length-sights [] (y ∷ shots) many = absurd (omega arith)
  length-sights (x ∷ seats) [] many = absurd (omega arith)
  length-sights (x ∷ seats) (y ∷ shots) many = ap suc (length-sights seats shots (omega arith))

-- ---- by number

first_here : (walls : List ℕ) (wall w : ℕ) → IsFirst (w ∷ walls) wall zero → w ≡ wall
first_here walls wall w first = first.here 0

first_past : (walls : List ℕ) (wall w k : ℕ) → IsFirst (w ∷ walls) wall (suc k) → w ≢ wall
first_past walls wall w k first = first.before 0 0 (omega arith)

first_rest : (walls : List ℕ) (wall w k : ℕ) → IsFirst (w ∷ walls) wall (suc k) → IsFirst walls wall k
first_rest walls wall w k first = record {
  within = let within = first.within in omega arith;
  here = λ d. first.here d;
  before = λ j d less. first.before (suc j) d (omega arith);
}

pub sight_first : (sights : List Sight) (wall k : ℕ) (d : Sight) → IsFirst (walls_in sights) wall k
    → sight_in sights wall ≡ get_or sights k d
sight_first [] wall k d first = absurd (let within = first.within in omega arith)
sight_first (s ∷ sights) wall zero d first =
    rw (eq-eqb s.facts.wall wall (first_here (walls_in sights) wall s.facts.wall first)) refl
sight_first (s ∷ sights) wall (suc k) d first =
    rw (ne_eqb s.facts.wall wall (first_past (walls_in sights) wall s.facts.wall k first))
    (sight_first sights wall k d (first_rest (walls_in sights) wall s.facts.wall k first))

pub sight_set : (sights : List Sight) (wall k : ℕ) (s : Sight) → IsFirst (walls_in sights) wall k → s.facts.wall ≡ wall
    → sight_in (set sights k s) wall ≡ s
sight_set [] wall k s first same = absurd (let within = first.within in omega arith)
sight_set (x ∷ sights) wall zero s first same = rw (eq-eqb s.facts.wall wall same) refl
sight_set (x ∷ sights) wall (suc k) s first same =
    rw (ne_eqb x.facts.wall wall (first_past (walls_in sights) wall x.facts.wall k first))
    (sight_set sights wall k s (first_rest (walls_in sights) wall x.facts.wall k first) same)

pub sight_else : (sights : List Sight) (wall k : ℕ) (s : Sight) (other : ℕ) → IsFirst (walls_in sights) wall k
    → s.facts.wall ≡ wall → other ≢ wall → sight_in (set sights k s) other ≡ sight_in sights other
sight_else [] wall k s other first same apart = refl
sight_else (x ∷ sights) wall zero s other first same apart =
    rw (
      ne_eqb s.facts.wall other (λ e. apart (sym e ∙ same)),
      ne_eqb x.facts.wall other (λ e. apart (sym e ∙ first_here (walls_in sights) wall x.facts.wall first)),
    ) refl
sight_else (x ∷ sights) wall (suc k) s other first same apart =
    ap (λ rest. cond (nat_eq x.facts.wall other) x rest)
    (sight_else sights wall k s other (first_rest (walls_in sights) wall x.facts.wall k first) same apart)

pub walls_set : (sights : List Sight) (wall k : ℕ) (s : Sight) → IsFirst (walls_in sights) wall k → s.facts.wall ≡ wall
    → walls_in (set sights k s) ≡ walls_in sights
walls_set [] wall k s first same = refl
walls_set (x ∷ sights) wall zero s first same =
    ap (λ w. w ∷ walls_in sights) (same ∙ sym (first_here (walls_in sights) wall x.facts.wall first))
walls_set (x ∷ sights) wall (suc k) s first same =
    ap (λ ws. x.facts.wall ∷ ws) (walls_set sights wall k s (first_rest (walls_in sights) wall x.facts.wall k first) same)

listed_later : (walls : List ℕ) (w wall k : ℕ) → k < length (w ∷ walls) → slice_index_or (w ∷ walls) k wall ≡ wall
    → w ≢ wall → Contains walls wall
listed_later walls w wall zero within at apart = absurd (apart at)
listed_later walls w wall (suc k) within at apart = (k, omega arith, at)

-- what is known of a wall that is listed is of that wall
pub sight_listed : (sights : List Sight) (wall : ℕ) → Contains (walls_in sights) wall
    → (sight_in sights wall).facts.wall ≡ wall
sight_listed [] wall listed = absurd (let within = listed.1 in omega arith)
sight_listed (s ∷ sights) wall listed = elim (cases_eq s.facts.wall wall) [
  | inl same ↦ rw (eq-eqb s.facts.wall wall same) same
  | inr apart ↦ rw (ne_eqb s.facts.wall wall apart) (sight_listed sights wall
      (listed_later (walls_in sights) s.facts.wall wall listed.0 listed.1 listed.2 apart))
]

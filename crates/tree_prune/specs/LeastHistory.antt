-- The pruned tree of a list that shows marked positions and gives the roots of listed versions, and hides all that
-- it may. h is the digest of a part, by its height and its texts.
use Rattle.std.specs.Prelude.{ℕ, zero, suc, ◌-◌, ◌^◌, Bool, true, false, ◌&&◌, ◌||◌, List, [], ◌∷◌, ◌++◌, length, map, take, drop, replicate, Option, None, Some, nat_eq, nat_lt, slice_index_or, if◌then◌else◌}
use Rattle.std.specs.List.{list_any}
use Rattle.fr_bytes.specs.Bytes.{Text}
use Rattle.hist_proof.specs.Pruned.{Tree, hidden, leaf, node, single}
use Rattle.hist_proof.specs.Shown.{shown}

-- one of the marks is set
abbrev pub any : List Bool → Bool
any marks = list_any (λ mark. mark) marks

-- one of the versions ends within n positions, and at neither end of them
abbrev pub inside : ℕ → List ℕ → Bool
inside n versions = list_any (λ v. nat_lt 0 v && nat_lt v n) versions

-- The least pruned tree of height j over the texts, of which those at the set marks are shown: a part is hidden
-- exactly where none of its marks is set and no version ends within it. Versions are counted from its first text.
unfoldable pub least : (ℕ → List Text → Text) → ℕ → List Text → List Bool → List ℕ → Tree
least h zero texts marks versions =
    if any marks then leaf (slice_index_or texts 0 []) else hidden (h zero texts)
least h (suc j) texts marks versions =
    if any marks || inside (length texts) versions
    then (if nat_lt (2 ^ j) (length texts)
    then node (least h j (take (2 ^ j) texts) (take (2 ^ j) marks) versions)
    (least h j (drop (2 ^ j) texts) (drop (2 ^ j) marks) (map (λ v. v - 2 ^ j) versions))
    else single (least h j texts marks versions))
    else hidden (h (suc j) texts)

-- ---- marks

-- f of each of the n numbers from `first` on
abbrev pub numbered : {A : Type 0} → (ℕ → A) → ℕ → ℕ → List A
numbered f first zero = []
numbered f first (suc n) = f first ∷ numbered f (suc first) n

-- a mark for each of n positions, set from a on
abbrev pub from_on : ℕ → ℕ → List Bool
from_on a n = replicate a false ++ replicate (n - a) true

-- a mark for each of n positions, set where the position is listed
abbrev pub listed : List ℕ → ℕ → List Bool
listed positions n = numbered (λ k. list_any (nat_eq k) positions) 0 n

-- ---- what is shown

-- the text at each position of a pruned tree of size n, where it is shown
abbrev pub slots : Tree → ℕ → List (Option Text)
slots p n = numbered (shown p n) 0 n

-- the texts, where their marks are set
abbrev pub marked : List Text → List Bool → List (Option Text)
marked [] marks = []
marked (t ∷ texts) [] = None ∷ marked texts []
marked (t ∷ texts) (mark ∷ marks) = (if mark then Some t else None) ∷ marked texts marks

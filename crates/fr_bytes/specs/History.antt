-- Histories: lists of entries, each of which has a caller; what a reader who saw a front of one knows of the whole.
use Rattle.std.specs.Prelude.{◌≡◌, ℕ, ◌==◌, List, [], ◌∷◌, ◌++◌, fold, if◌then◌else◌}
use Rattle.std.specs.List.{filter, scan, flat_map, All, Contains}

-- the list `all` begins with the list `front`
pub record Begins {E : Type 0} (front all : List E) : Type 0 where
  pub more : List E
  pub whole : all ≡ front ++ more

module _ {E : Type 0} (caller : E → ℕ) where
  -- the entries of the caller c, in their order
  abbrev pub own : ℕ → List E → List E
  own c entries = filter (λ e. caller e == c) entries

-- a caller's turn: its entry, and what the entries up to and with it lead to
pub record Turn (E L : Type 0) : Type 0 where
  pub call : E
  pub left : L

module _ {E L : Type 0} (caller : E → ℕ) (next : L → E → L) where
  abbrev pub turn_of : ℕ → L → E → List (Turn E L)
  turn_of c before e = if caller e == c then record { call = e; left = next before e } ∷ [] else []

  -- The turns of the caller c in the entries, in their order, where `next` leads from one entry to the
  -- next and `start` is what there was before all of them.
  abbrev pub turns : L → ℕ → List E → List (Turn E L)
  turns start c entries = flat_map (λ one. one) (scan next (turn_of c) start entries)

-- A front that grows by entries of others and then by one of its own caller's has one turn more, and the
-- turns that it had.
abbrev pub TurnsGrow : {E : Type 0} → (E → ℕ) → (L : Type 0) → Type 0
TurnsGrow {E} caller L =
    (next : L → E → L) (start : L) (c : ℕ) (front others : List E) (e : E)
    → own caller c others ≡ []
    → caller e ≡ c
    → turns caller next start c (front ++ others ++ e ∷ [])
    ≡ turns caller next start c front
    ++ record { call = e; left = fold next start (front ++ others ++ e ∷ []) } ∷ []

-- Who has no more entries than those in a front has no more turns than in the front.
abbrev pub TurnsStay : {E : Type 0} → (E → ℕ) → (L : Type 0) → Type 0
TurnsStay {E} caller L =
    (next : L → E → L) (start : L) (c : ℕ) (front history : List E)
    → Begins front history
    → own caller c history ≡ own caller c front
    → turns caller next start c history ≡ turns caller next start c front

-- A front is the whole history where it has all of the history's entries of each caller, and the history
-- has none of anyone else.
abbrev pub IsWhole : {E : Type 0} → (E → ℕ) → Type 0
IsWhole {E} caller =
    (callers : List ℕ) (front history : List E)
    → Begins front history
    → ((c : ℕ) → Contains callers c → own caller c history ≡ own caller c front)
    → All (λ e. Contains callers (caller e)) history
    → history ≡ front

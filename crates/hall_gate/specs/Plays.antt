-- What each step on the lock tells the seat that makes it.
use Rattle.std.specs.Prelude.{◌≡◌, ◌≢◌, ℕ, List, [], ◌∷◌, ◌++◌, map, Option, Some, None}
use Rattle.std.specs.List.{AllByRecursion}
use Rattle.atomic_table.specs.Table.{Me, Step}
use Rattle.hall_gate.specs.declared.rule.Charge.{Charge}
use Rattle.hall_gate.specs.declared.rule.Stage.{Stage}
use Rattle.hall_gate.specs.declared.rule.Stage.TheVariants.{Unborn, Opening, Idle, Waiting}
use Rattle.hall_gate.specs.declared.rule.View.{View}
use Rattle.fr_bytes.specs.History.{Begins, own}
use Rattle.hall_gate.specs.Knowing.{view, idle, holding, has_front, new_charges}
use Rattle.hall_gate.specs.Rule.{Is}

-- a seat's view and the slots that it holds
abbrev pub Held : Type 0 → Type 0 → Type 0 → Type 0
Held T F E = Me (Option T) (View F E)

module _ {T F E : Type 0} where
  -- a seat of the charge k that makes no call
  abbrev pub seated : Charge F E → Held T F E
  seated k = (idle k, [])

  -- The empty slot is taken, so that the value can be put in.
  abbrev pub opens_at : Stage → Held T F E → Type 0
  opens_at (Unborn callers) m' = m' ≡ (view (Opening callers) [] [], (0, None) ∷ [])
  opens_at _ m' = Unit {0}

  abbrev pub opens : Step (Option T) → Held T F E → ℕ → Held T F E → Type 0
  opens st m n m' = opens_at m.0.stage m'

  -- Draw: the seat has the ticket that it found.
  abbrev pub draws : Step (Option T) → Held T F E → ℕ → Held T F E → Type 0
  draws st m n m' = m' ≡ (view (Waiting n) m.0.charges m.0.heard, m.1)

module _ {T F E : Type 0} (fixed : T → F) where
  -- The slot is given back with the value in it, and the seat has a charge for each caller.
  abbrev pub fills_at : Stage → List (ℕ × Option T) → Held T F E → Type 0
  fills_at (Opening callers) ((i, Some x) ∷ slots) m' = m' ≡ (view Idle (new_charges (fixed x) callers) [], slots)
  fills_at _ _ m' = Unit {0}

  abbrev pub fills : Step (Option T) → Held T F E → ℕ → Held T F E → Type 0
  fills st m n m' = fills_at m.0.stage m.1 m'

module _ {T F E : Type 0} (valid : T → Type 0) (fixed : T → F) (entries : T → List E) (caller : E → ℕ) where
  -- the seat of the charge k has the turn, holds the value, and has seen its entries: more than before, but none of its own caller
  pub record GetsTurn (k : Charge F E) (t : ℕ) (m' : Held T F E) : Type 0 where
    pub value : T
    pub front : List E
    pub seat : m' ≡ (holding t (has_front k front), (0, Some value) ∷ [])
    pub is : Is valid fixed entries k.fixed front value
    pub begins : Begins k.front front
    pub mine : own caller k.caller front ≡ own caller k.caller k.front

  -- Wait: the seat has the turn where its ticket is served, and nothing changes where it is not.
  abbrev pub waits_at : Stage → List (Charge F E) → Held T F E → ℕ → Held T F E → Type 0
  waits_at (Waiting t) (k ∷ ks) m n m' = (n ≡ t → GetsTurn k t m') × (n ≢ t → m' ≡ m)
  waits_at _ _ m n m' = Unit {0}

  abbrev pub waits : Step (Option T) → Held T F E → ℕ → Held T F E → Type 0
  waits st m n m' = waits_at m.0.stage m.0.charges m n m'

module _ {T F E : Type 0} (entries : T → List E) where
  -- Serve: the slot is given back, and the seat has seen what is in it.
  abbrev pub serves_at : List (Charge F E) → List (ℕ × Option T) → Held T F E → Type 0
  serves_at (k ∷ ks) ((i, Some x) ∷ slots) m' = m' ≡ (idle (has_front k (entries x)), slots)
  serves_at _ _ m' = Unit {0}

  abbrev pub serves : Step (Option T) → Held T F E → ℕ → Held T F E → Type 0
  serves st m n m' = serves_at m.0.charges m.1 m'

module _ {T F E : Type 0} (legal : F → List E → Type 0) (caller : E → ℕ) where
  -- the seat has seen the history, which begins with each front that it had seen or heard of, and has no new entry of its own caller
  pub record Meets (k : Charge F E) (heard : List (List E)) (m m' : Held T F E) : Type 0 where
    pub front : List E
    pub seat : m' ≡ (idle (has_front k front), m.1)
    pub begins : Begins k.front front
    pub told : AllByRecursion (λ other. Begins other front) heard
    pub mine : own caller k.caller front ≡ own caller k.caller k.front
    pub lawful : legal k.fixed front

  -- Meet: the history is looked at.
  abbrev pub meets_at : List (Charge F E) → Held T F E → Held T F E → Type 0
  meets_at (k ∷ ks) m m' = Meets k m.0.heard m m'
  meets_at [] m m' = Unit {0}

  abbrev pub meets : Step (Option T) → Held T F E → ℕ → Held T F E → Type 0
  meets st m n m' = meets_at m.0.charges m m'

module _ {F E : Type 0} where
  abbrev first_of : List (Charge F E) → List (Charge F E)
  first_of [] = []
  first_of (k ∷ ks) = k ∷ []

  abbrev rest_of : List (Charge F E) → List (Charge F E)
  rest_of [] = []
  rest_of (k ∷ ks) = ks

  -- Split, for a new seat: the first charge goes to it.
  abbrev pub undealt : View F E → View F E
  undealt v = view v.stage (rest_of v.charges) v.heard

  abbrev pub dealt : View F E → View F E
  dealt v = view Idle (first_of v.charges) []

  -- Split, for a note: the new view has only heard of the fronts, and the seat stays as it is.
  abbrev pub noted : View F E → View F E
  noted v = view Idle [] (map (λ k. k.front) v.charges)

  -- Join: the seat has the charges of both, and has heard what both had heard.
  abbrev pub joined : View F E → View F E → View F E
  joined v w = view v.stage (w.charges ++ v.charges) (v.heard ++ w.heard)

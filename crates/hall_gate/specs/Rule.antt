-- The rule of the lock, over plain lists of words, values at home and views. Word 0 is the next ticket to be drawn, word 1 the ticket that is served.
use Rattle.std.specs.Prelude.{◌≡◌, ℕ, ◌+◌, ◌%◌, ◌^◌, ◌<◌, ◌≤◌, ◌≢◌, ◌⊎◌, List, [], ◌∷◌, length, Option, Some, None}
use Rattle.std.specs.List.{AllByRecursion, AllPairs, Contains}
use mathlib.Core.Option as home
use lib.ListN.{get_elem?}
use Rattle.atomic_table.specs.Table.{State}
use Rattle.hall_gate.specs.declared.rule.Charge.{Charge}
use Rattle.hall_gate.specs.declared.rule.Stage.{Stage}
use Rattle.hall_gate.specs.declared.rule.Stage.TheVariants.{Unborn, Opening, Idle, Waiting, Holding}
use Rattle.hall_gate.specs.declared.rule.View.{View}
use Rattle.fr_bytes.specs.History.{Begins, own}
use Rattle.hall_gate.specs.Knowing.{total, tickets, tickets_at, HasTurn, charges, charges_of, view}

-- a lock round a value of T, of which F is the fixed part and E an entry
abbrev pub Lock : Type 0 → Type 0 → Type 0 → Type 0
Lock T F E = State (Option T) (View F E)

abbrev pub words_of : ℕ → ℕ → List ℕ
words_of drawn served = drawn % 2 ^ 64 ∷ served % 2 ^ 64 ∷ []

-- the callers of a gate: no two are the same, and they are few enough for the tickets
pub record AreCallers (callers : List ℕ) : Type 0 where
  pub few : length callers < 2 ^ 64
  pub apart : AllPairs (λ c d. c ≢ d) callers

-- the lock before the value is in its slot: no ticket is drawn, and there is one seat
abbrev pub empty : {T F E : Type 0} → List ℕ → Lock T F E
empty callers = record { words = 0 ∷ 0 ∷ []; homes = home.some None ∷ []; views = view (Unborn callers) [] [] ∷ [] }

abbrev pub opening : {T F E : Type 0} → List ℕ → Lock T F E
opening callers = record { words = 0 ∷ 0 ∷ []; homes = home.none ∷ []; views = view (Opening callers) [] [] ∷ [] }

module _ {T F E : Type 0} (valid : T → Type 0) (fixed : T → F) (entries : T → List E) where
  -- x is a value with the fixed part f and the entries h
  pub record Is (f : F) (h : List E) (x : T) : Type 0 where
    pub good : valid x
    pub same : fixed x ≡ f
    pub all : entries x ≡ h

  -- the value is in its slot, and its entries are the history
  pub record AtHome (homes : List (home.Option (Option T))) (f : F) (h : List E) : Type 0 where
    pub value : T
    pub there : homes ≡ home.some (Some value) ∷ []
    pub is : Is f h value

module _ {F E : Type 0} where
  -- what goes with the stage of a seat of the charges ks, where n tickets are out: they are the n numbers from the history's length on. Who has the turn has seen the whole history
  abbrev pub Staged : ℕ → List E → List (Charge F E) → Stage → Type 0
  Staged n h ks (Unborn l) = ⊥
  Staged n h ks (Opening l) = ⊥
  Staged n h ks Idle = Unit {0}
  Staged n h ks (Waiting t) = (0 < length ks) × ((i : ℕ) × (i < n) × (t ≡ (length h + i) % 2 ^ 64))
  Staged n h ks (Holding t) = (0 < length ks) × (t ≡ length h % 2 ^ 64) × AllByRecursion (λ k. k.front ≡ h) ks

module _ {F E : Type 0} (caller : E → ℕ) where
  -- what is true of a charge under the history h: its caller is a caller of the gate, its front is a front of h, and it has each entry of its caller
  pub record Charged (callers : List ℕ) (f : F) (h : List E) (k : Charge F E) : Type 0 where
    pub listed : Contains callers k.caller
    pub same : k.fixed ≡ f
    pub begins : Begins k.front h
    pub mine : own caller k.caller h ≡ own caller k.caller k.front

  pub record Knows (callers : List ℕ) (f : F) (h : List E) (n : ℕ) (v : View F E) : Type 0 where
    pub charged : AllByRecursion (Charged callers f h) v.charges
    pub heard : AllByRecursion (λ front. Begins front h) v.heard
    pub staged : Staged n h v.charges v.stage

module _ {F E : Type 0} where
  -- some seat has the turn
  pub record IsOut (views : List (View F E)) : Type 0 where
    pub seat : ℕ
    pub knows : View F E
    pub there : get_elem? views seat ≡ home.some knows
    pub turn : HasTurn knows.stage

module _ {T F E : Type 0} (valid : T → Type 0) (fixed : T → F) (entries : T → List E) (legal : F → List E → Type 0) (caller : E → ℕ) where
  -- one history, of which all seats have seen a front, while n tickets are out
  pub record Kept (callers : List ℕ) (s : Lock T F E) : Type 0 where
    pub fixed_part : F
    pub history : List E
    pub out : ℕ
    pub words : s.words ≡ words_of (length history + out) (length history)
    pub few : length callers < 2 ^ 64
    pub shared : total charges s.views ≡ length callers
    pub single : (c : ℕ) → total (λ v. charges_of c v.charges) s.views ≤ 1
    pub counted : total (λ v. tickets v.stage) s.views ≡ out
    pub apart : (t : ℕ) → total (λ v. tickets_at t v.stage) s.views ≤ 1
    pub knows : (j : ℕ) (v : View F E) → get_elem? s.views j ≡ home.some v → Knows caller callers fixed_part history out v
    pub known : AllByRecursion (λ e. Contains callers (caller e)) history
    pub lawful : legal fixed_part history
    pub place : AtHome valid fixed entries s.homes fixed_part history ⊎ IsOut s.views

  -- the rule: the value is in, or it is still on its way into the slot
  abbrev pub Ruled : List ℕ → Lock T F E → Type 0
  Ruled callers s = Kept callers s ⊎ (AreCallers callers × ((s ≡ empty callers) ⊎ (s ≡ opening callers)))

module _ {T F E : Type 0} (valid : T → Type 0) (fixed : T → F) (entries : T → List E) (caller : E → ℕ) where
  -- the value behind a closed gate, of which the charges ks have seen fronts, and which has no entry of a stranger
  pub record Closes (callers : List ℕ) (ks : List (Charge F E)) (x : T) : Type 0 where
    pub good : valid x
    pub charged : AllByRecursion (Charged caller callers (fixed x) (entries x)) ks
    pub known : AllByRecursion (λ e. Contains callers (caller e)) (entries x)

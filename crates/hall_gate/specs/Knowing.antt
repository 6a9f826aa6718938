-- What a seat knows, as plain data, and the words for its parts.
use Rattle.std.specs.Prelude.{ℕ, ◌==◌, ◌+◌, List, [], ◌∷◌, map, length, Bool, true, false, Option, Some, None}
use Rattle.hall_gate.specs.declared.rule.Charge.{Charge}
use Rattle.hall_gate.specs.declared.rule.Stage.{Stage}
use Rattle.hall_gate.specs.declared.rule.Stage.TheVariants.{Idle, Waiting, Holding}
use Rattle.hall_gate.specs.declared.rule.View.{View}

-- the sum of f over the list
abbrev pub total : {A : Type 0} → (A → ℕ) → List A → ℕ
total f [] = 0
total f (x ∷ xs) = f x + total f xs

abbrev pub one_if : Bool → ℕ
one_if true = 1
one_if false = 0

-- how many tickets a seat holds, and whether one of them is the ticket t
abbrev pub tickets : Stage → ℕ
tickets (Waiting t) = 1
tickets (Holding t) = 1
tickets _ = 0

abbrev pub tickets_at : ℕ → Stage → ℕ
tickets_at t (Waiting u) = one_if (u == t)
tickets_at t (Holding u) = one_if (u == t)
tickets_at t _ = 0

-- the seat has the turn
abbrev pub HasTurn : Stage → Type 0
HasTurn (Holding t) = Unit {0}
HasTurn _ = ⊥

module _ {F E : Type 0} where
  -- how many charges a seat has, and how many of them are the caller c's
  abbrev pub charges : View F E → ℕ
  charges v = length v.charges

  abbrev pub charges_of : ℕ → List (Charge F E) → ℕ
  charges_of c ks = total (λ k. one_if (k.caller == c)) ks

  abbrev pub has_front : Charge F E → List E → Charge F E
  has_front k front = record k { front = front }

  abbrev pub view : Stage → List (Charge F E) → List (List E) → View F E
  view stage ks heard = record { stage = stage; charges = ks; heard = heard }

  -- a seat of the charge k that makes no call, that waits with the ticket t, and that has the turn
  abbrev pub idle : Charge F E → View F E
  idle k = view Idle (k ∷ []) []

  abbrev pub waiting : ℕ → Charge F E → View F E
  waiting t k = view (Waiting t) (k ∷ []) []

  abbrev pub holding : ℕ → Charge F E → View F E
  holding t k = view (Holding t) (k ∷ []) []

  -- a view that says nothing
  abbrev pub spent : View F E
  spent = view Idle [] []

  -- the charges of a gate to which nobody has come
  abbrev pub new_charges : F → List ℕ → List (Charge F E)
  new_charges f callers = map (λ c. record { caller = c; fixed = f; front = [] }) callers

  -- the first charge of a seat: its caller, the fixed part of the value behind its gate, and what it has seen
  abbrev pub caller_at : List (Charge F E) → ℕ
  caller_at [] = 0
  caller_at (k ∷ ks) = k.caller

  abbrev pub fixed_at : List (Charge F E) → Option F
  fixed_at [] = None
  fixed_at (k ∷ ks) = Some k.fixed

  abbrev pub front_at : List (Charge F E) → List E
  front_at [] = []
  front_at (k ∷ ks) = k.front

-- Who vouches for the positions that a reply leaves out, and from where enough users do.
use Rattle.std.specs.Prelude.{◌≡◌, ℕ, ◌<◌, ◌≤◌, ◌-◌, ◌⊎◌, Bool, not, List, filter, map, drop, nat_lt, nat_eq}
use Rattle.std.specs.Set.{distinct_count}
use Rattle.vouch_rule.specs.declared.vouch.Vouch.{Vouch}

-- an operation whose view covers at least the positions below m
abbrev pub covers : ℕ → Vouch → Bool
covers m o = not (nat_lt o.size m)

-- the authors of those operations
abbrev pub authors_from : ℕ → List Vouch → List ℕ
authors_from m ops = map (λ o. o.author) (filter (covers m) ops)

-- how many users vouch from position m, each counted once
abbrev pub vouchers : List Vouch → ℕ → ℕ
vouchers ops m = distinct_count nat_eq (authors_from m ops)

-- Of the operations at positions have and later, those at m and later: more than f users vouch from m.
abbrev pub IsVouched : List Vouch → ℕ → ℕ → ℕ → Type 0
IsVouched ops have f m = (have < m) × (f < vouchers (drop (m - have) ops) m)

-- The greatest position past have from which more than f users vouch, and have itself where there is none.
pub record IsVouchPoint (ops : List Vouch) (have f m : ℕ) : Type 0 where
  pub found : (m ≡ have) ⊎ IsVouched ops have f m
  pub greatest : (n : ℕ) → IsVouched ops have f n → n ≤ m

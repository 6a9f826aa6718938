-- What carries a request to a server and its reply back: whether it is straight, what it carried, where
-- it tells that, and how often it has failed.
use Rattle.std.specs.Prelude.{◌≡◌, ℕ, ◌≤◌, List, [], ◌∷◌, Option, Some, None, Result, Ok, Err, IfOk, Bool, true}
use Rattle.fr_edges.specs.declared.wire.Carried.{Carried}
use Rattle.fr_edges.specs.declared.wire.CarryEnd.{CarryEnd}
use Rattle.fr_edges.specs.declared.wire.CarryEnd.TheVariants as ends
use Rattle.fr_edges.specs.Faults.{Rose}
use Rattle.fr_edges.specs.Sink.{with_more}

pub record WireView : Type 0 where
  pub straight : Bool
  pub carried : Option (List Carried)
  pub faults : ℕ

-- a straight wire that doesn't tell what it carried
abbrev pub straight_view : WireView
straight_view = record { straight = true; carried = None; faults = 0 }

-- the entries that one carry adds: one for a delivery and for a loss
abbrev pub entries : List ℕ → List ℕ → List ℕ → Result (Unit {0}) CarryEnd → List Carried
entries request reply out (Ok _) = record { request = request; reply = reply; delivered = Some out } ∷ []
entries request reply out (Err ends.Lost) = record { request = request; reply = reply; delivered = None } ∷ []
entries request reply out (Err ends.NoMemory) = []

-- These bytes are what is delivered, and nothing is lost.
abbrev pub Delivers : List ℕ → List ℕ → Result (Unit {0}) CarryEnd → Type 0
Delivers bytes out (Ok _) = out ≡ bytes
Delivers bytes out (Err ends.Lost) = ⊥
Delivers bytes out (Err ends.NoMemory) = Unit {0}

-- Nothing is lost where the count of faults didn't rise.
abbrev pub Causes : ℕ → ℕ → Result (Unit {0}) CarryEnd → Type 0
Causes before now (Ok _) = Unit {0}
Causes before now (Err ends.Lost) = Rose before now
Causes before now (Err ends.NoMemory) = Unit {0}

-- A carry of a request and the reply to it, whose delivery is `out`. A carry that delivers leaves the count of
-- faults as it was.
pub record Carries (before now : WireView) (request reply out : List ℕ) (result : Result (Unit {0}) CarryEnd) : Type 0 where
  pub kept : now.straight ≡ before.straight
  pub tells : now.carried ≡ with_more before.carried (entries request reply out result)
  pub through : before.straight ≡ true → Delivers reply out result
  pub calm : IfOk result (λ _. now.faults ≡ before.faults)
  pub straight_calm : before.straight ≡ true → now.faults ≡ before.faults
  pub never_falls : before.faults ≤ now.faults
  pub cause : Causes before.faults now.faults result

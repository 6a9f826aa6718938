-- What each seat knows that was dealt from the charges of a new gate.
use Rattle.std.proofs.Common.{◌≡◌, ℕ, List, [], ◌∷◌, map, refl, ap, ◌∙◌}
use Rattle.std.specs.Prelude.{Some}
use Rattle.std.specs.List.{All, AllByRecursion}
use Rattle.std.proofs.lemmas.List.Elements.{All-from_recursion}
use Rattle.hall_gate.specs.declared.rule.Charge.{Charge}
use Rattle.hall_gate.specs.declared.seat.GateSeat.{GateSeat}
use Rattle.hall_gate.specs.declared.gate.Gate.{Gate}
use Rattle.hall_gate.specs.Knowing.{new_charges, caller_at, front_at, fixed_at}
use Rattle.hall_gate.specs.Plays.{Held, seated}
use Rattle.hall_gate.specs.Seats.{caller_of, front_of, fixed_of, state_of, IsSeatOf}

module _ {T Slip Answer Seen Entry Ask Fixed : Type 0} where
  -- the seat of a caller who has not come yet
  record IsNew (f : Fixed) (seat : GateSeat T Slip Answer Seen Entry Ask Fixed) : Type 0 where
    charge : Charge Fixed Entry
    state : state_of seat ≡ seated charge
    fixed : charge.fixed ≡ f
    front : charge.front ≡ []

  pub dealt_callers : (f : Fixed) (callers : List ℕ) (seats : List (GateSeat T Slip Answer Seen Entry Ask Fixed)) → map state_of seats ≡ map seated (new_charges f callers) → map caller_of seats ≡ callers
  dealt_callers f [] [] e = refl
  dealt_callers f [] (s ∷ seats) e = cc
  dealt_callers f (c ∷ callers) [] e = cc
  dealt_callers f (c ∷ callers) (s ∷ seats) e =
      let first : state_of s ≡ seated record { caller = c; fixed = f; front = [] } = cc in
      let rest : map state_of seats ≡ map seated (new_charges f callers) = cc in
      let caller : caller_of s ≡ c = ap (λ (m : Held T Fixed Entry). caller_at m.0.charges) first in
      let callers_are = dealt_callers f callers seats rest in cc

  all_new : (f : Fixed) (callers : List ℕ) (seats : List (GateSeat T Slip Answer Seen Entry Ask Fixed)) → map state_of seats ≡ map seated (new_charges f callers) → AllByRecursion (IsNew f) seats
  all_new f callers [] e = tt
  all_new f [] (s ∷ seats) e = cc
  all_new f (c ∷ callers) (s ∷ seats) e = let rest : map state_of seats ≡ map seated (new_charges f callers) = cc in
      (record { charge = record { caller = c; fixed = f; front = [] }; state = cc; fixed = refl; front = refl }, all_new f callers seats rest)

  each_new : (f : Fixed) (callers : List ℕ) (seats : List (GateSeat T Slip Answer Seen Entry Ask Fixed)) → map state_of seats ≡ map seated (new_charges f callers) → All (IsNew f) seats
  each_new f callers seats e = All-from_recursion (IsNew f) seats (all_new f callers seats e)

  pub dealt_seats : (gate : Gate T Slip Answer Seen Entry Ask Fixed) (f : Fixed) (callers : List ℕ) (seats : List (GateSeat T Slip Answer Seen Entry Ask Fixed)) → map state_of seats ≡ map seated (new_charges f callers)
      → All (λ seat. seat.seat.table_id ≡ gate.table.shared.table_id) seats → All (IsSeatOf gate) seats
  dealt_seats gate f callers seats e at k d lt = let new = each_new f callers seats e k d lt in record { charge = new.charge; at = at k d lt; knows = new.state }

  pub dealt_fronts : (f : Fixed) (callers : List ℕ) (seats : List (GateSeat T Slip Answer Seen Entry Ask Fixed)) → map state_of seats ≡ map seated (new_charges f callers) → All (λ seat. front_of seat ≡ []) seats
  dealt_fronts f callers seats e k d lt = let new = each_new f callers seats e k d lt in ap (λ (m : Held T Fixed Entry). front_at m.0.charges) new.state ∙ new.front

  pub dealt_fixed : (f : Fixed) (callers : List ℕ) (seats : List (GateSeat T Slip Answer Seen Entry Ask Fixed)) → map state_of seats ≡ map seated (new_charges f callers) → All (λ seat. fixed_of seat ≡ Some f) seats
  dealt_fixed f callers seats e k d lt = let new = each_new f callers seats e k d lt in ap (λ (m : Held T Fixed Entry). fixed_at m.0.charges) new.state ∙ ap Some new.fixed

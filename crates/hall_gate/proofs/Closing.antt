-- What the seat knows that all others are joined into, once the gate is closed.
use Rattle.std.proofs.Common.{◌≡◌, ◌≢◌, ℕ, ◌<◌, List, [], length, sym, ap, ◌∙◌, subst, ⊎_elim, arith}
use Rattle.std.specs.Prelude.{Option, Some}
use Rattle.std.specs.List.{AllByRecursion, Contains}
use mathlib.Core.Option.{some, some-injective}
use lib.ListN.{get_elem?}
use Rattle.atomic_table.specs.Table.{Final, Seen}
use Rattle.hall_gate.specs.declared.rule.Charge.{Charge}
use Rattle.hall_gate.specs.declared.rule.Stage.{Stage}
use Rattle.hall_gate.specs.declared.rule.Stage.TheVariants.{Unborn, Opening, Idle, Waiting, Holding}
use Rattle.hall_gate.specs.declared.rule.View.{View}
use Rattle.hall_gate.specs.Knowing.{HasTurn, charges, view}
use Rattle.hall_gate.specs.Rule.{Lock, AtHome, IsOut, Charged, Staged, Kept, Ruled, Closes}
use Rattle.hall_gate.proofs.Totals.{total_two}
use Rattle.hall_gate.proofs.Keeping.{born}

module _ {F E : Type 0} where
  -- who has the turn has a charge
  turn_charges : (n : ℕ) (h : List E) (ks : List (Charge F E)) (stage : Stage) → Staged n h ks stage → HasTurn stage → 0 < length ks
  turn_charges n h ks (Unborn l) s turn = absurd turn
  turn_charges n h ks (Opening l) s turn = absurd turn
  turn_charges n h ks Idle s turn = absurd turn
  turn_charges n h ks (Waiting t) s turn = absurd turn
  turn_charges n h ks (Holding t) s turn = s.0

module _ {T F E : Type 0} (valid : T → Type 0) (fixed : T → F) (entries : T → List E) (legal : F → List E → Type 0) (caller : E → ℕ) (callers : List ℕ) where
  -- a seat with all charges knows that the value is in its slot
  pub is_home : (s : Lock T F E) (r : Kept valid fixed entries legal caller callers s) (id : ℕ) (ks : List (Charge F E)) → get_elem? s.views id ≡ some (view Idle ks []) → length ks ≡ length callers
      → AtHome valid fixed entries s.homes r.fixed_part r.history
  is_home s r id ks at all = ⊎_elim (λ (a : AtHome valid fixed entries s.homes r.fixed_part r.history). a) (λ (o : IsOut s.views).
      let other : o.seat ≢ id = λ is. subst (λ (u : View F E). HasTurn u.stage) (some-injective o.knows (view Idle ks []) (sym o.there ∙ (ap (get_elem? s.views) is ∙ at))) o.turn in
      let some_charge = turn_charges r.out r.history o.knows.charges o.knows.stage (r.knows o.seat o.knows o.there).staged o.turn in
      let two = total_two charges s.views o.seat id o.knows (view Idle ks []) other o.there at in
      let shared = r.shared in absurd (omega arith)) r.place

  pub closes : (words : List ℕ) (slots : List (Option T)) (id : ℕ) (ks : List (Charge F E)) → Final (Seen (Ruled valid fixed entries legal caller callers) id (view Idle ks [])) words slots → length ks ≡ length callers
      → (x : T) × (get_elem? slots 0 ≡ some (Some x)) × Closes valid fixed entries caller callers ks x
  closes words slots id ks final all =
      let s = final.0 in let at = final.1.1 in
      let r = born valid fixed entries legal caller callers s final.1.0 id (view Idle ks []) at tt in
      let a = is_home s r id ks at all in (
        a.value,
        final.4 0 (Some a.value) (ap (λ hs. get_elem? hs 0) a.there),
        record {
          good = a.is.good;
          charged = subst (λ (z : F × List E). AllByRecursion (Charged caller callers z.0 z.1) ks) (λ i. (sym a.is.same i, sym a.is.all i)) (r.knows id (view Idle ks []) at).charged;
          known = subst (AllByRecursion (λ e. Contains callers (caller e))) (sym a.is.all) r.known;
        },
      )

-- The rule after a change of one view.
use Rattle.std.proofs.Common.{◌≡◌, ◌≢◌, ℕ, ◌+◌, ◌%◌, ◌^◌, ◌≤◌, ◌⊎◌, eq-eqb, List, length, set, sym, ap, ◌∙◌, subst, ⊎_elim, arith}
use Rattle.std.specs.List.{AllByRecursion, Contains}
use mathlib.Core.Logic.{dite}
use native.Mathlib.Decide.{ℕ_discrete}
use mathlib.Core.Option as home
use mathlib.Core.Option.{some}
use lib.ListN.{get_elem?}
use Rattle.atomic_table.proofs.Lists.{set_here, set_else}
use Rattle.hall_gate.specs.declared.rule.Charge.{Charge}
use Rattle.hall_gate.specs.declared.rule.Stage.{Stage}
use Rattle.hall_gate.specs.declared.rule.Stage.TheVariants.{Unborn, Opening, Idle, Waiting, Holding}
use Rattle.hall_gate.specs.declared.rule.View.{View}
use Rattle.hall_gate.specs.Knowing.{total, one_if, tickets, tickets_at, HasTurn, charges, charges_of}
use Rattle.hall_gate.specs.Rule.{Lock, words_of, empty, opening, AtHome, IsOut, Staged, Knows, Kept, AreCallers, Ruled}
use Rattle.hall_gate.proofs.Totals.{total_set, total_two, total_same, total_le, place_below, each_set, only}

module _ {F E : Type 0} where
  -- a seat with a ticket has a charge
  tickets_le : (n : ℕ) (h : List E) (ks : List (Charge F E)) (stage : Stage) → Staged n h ks stage → tickets stage ≤ length ks
  tickets_le n h ks (Unborn l) s = absurd s
  tickets_le n h ks (Opening l) s = absurd s
  tickets_le n h ks Idle s = omega arith
  tickets_le n h ks (Waiting t) s = let some_charge = s.0 in omega arith
  tickets_le n h ks (Holding t) s = let some_charge = s.0 in omega arith

  -- who has the turn has a ticket, which is the one that is served
  pub turn_ticket : (n : ℕ) (h : List E) (ks : List (Charge F E)) (stage : Stage) → Staged n h ks stage → HasTurn stage → tickets_at (length h % 2 ^ 64) stage ≡ 1
  turn_ticket n h ks (Unborn l) s turn = absurd turn
  turn_ticket n h ks (Opening l) s turn = absurd turn
  turn_ticket n h ks Idle s turn = absurd turn
  turn_ticket n h ks (Waiting t) s turn = absurd turn
  turn_ticket n h ks (Holding t) s turn = ap one_if (eq-eqb t _ s.1)

  -- a seat keeps the turn where the view that changes has it afterwards too
  pub still_out : (views : List (View F E)) (id : ℕ) (v w : View F E) → get_elem? views id ≡ some v → (HasTurn v.stage → HasTurn w.stage) → IsOut views → IsOut (set views id w)
  still_out views id v w at keeps o = dite (ℕ_discrete o.seat id)
      (λ is. let same : o.knows ≡ v = home.some-injective o.knows v (sym o.there ∙ (ap (get_elem? views) is ∙ at)) in
      record { seat = id; knows = w; there = set_here views id w (place_below views id v at); turn = keeps (subst (λ (u : View F E). HasTurn u.stage) same o.turn) })
      (λ other. record { seat = o.seat; knows = o.knows; there = set_else views id o.seat w other ∙ o.there; turn = o.turn })

module _ {T F E : Type 0} (valid : T → Type 0) (fixed : T → F) (entries : T → List E) (legal : F → List E → Type 0) (caller : E → ℕ) (callers : List ℕ) where
  abbrev Rule : Lock T F E → Type 0
  Rule = Kept valid fixed entries legal caller callers

  -- fewer tickets are out than there are numbers
  pub few_out : (s : Lock T F E) (r : Rule s) → r.out ≤ length callers
  few_out s r = let least = total_le (λ v. tickets v.stage) charges s.views (λ j v at. tickets_le r.out r.history v.charges v.stage (r.knows j v at).staged) in
      let counted = r.counted in let shared = r.shared in omega arith

  -- a seat becomes w, and the words, the slots, the history and the number of tickets may change with it
  pub moved : (s : Lock T F E) (r : Rule s) (id : ℕ) (v w : View F E) → get_elem? s.views id ≡ some v → (words : List ℕ) (homes : List (home.Option _)) (h : List E) (n : ℕ)
      → words ≡ words_of (length h + n) (length h)
      → charges w ≡ charges v → ((c : ℕ) → charges_of c w.charges ≡ charges_of c v.charges)
      → tickets w.stage + r.out ≡ tickets v.stage + n → ((t : ℕ) → total (λ u. tickets_at t u.stage) (set s.views id w) ≤ 1)
      → Knows caller callers r.fixed_part h n w
      → ((j : ℕ) (u : View F E) → j ≢ id → get_elem? s.views j ≡ some u → Knows caller callers r.fixed_part h n u)
      → AllByRecursion (λ e. Contains callers (caller e)) h → legal r.fixed_part h
      → AtHome valid fixed entries homes r.fixed_part h ⊎ IsOut (set s.views id w)
      → Rule record { words = words; homes = homes; views = set s.views id w }
  moved s r id v w at words homes h n is_words as_many as_single as_counted apart mine others known lawful place = record {
    fixed_part = r.fixed_part;
    history = h;
    out = n;
    words = is_words;
    few = r.few;
    shared = total_same charges s.views id v w at as_many ∙ r.shared;
    single = λ c. subst (λ (m : ℕ). m ≤ 1) (sym (total_same (λ u. charges_of c u.charges) s.views id v w at (as_single c))) (r.single c);
    counted = let sum = total_set (λ u. tickets u.stage) s.views id v w at in let before = r.counted in omega arith;
    apart = apart;
    knows = each_set (λ j u. Knows caller callers r.fixed_part h n u) s.views id w mine others;
    known = known;
    lawful = lawful;
    place = place;
  }

  -- the same where no word and no ticket changes
  pub stayed : (s : Lock T F E) (r : Rule s) (id : ℕ) (v w : View F E) → get_elem? s.views id ≡ some v → (homes : List (home.Option _))
      → charges w ≡ charges v → ((c : ℕ) → charges_of c w.charges ≡ charges_of c v.charges)
      → tickets w.stage ≡ tickets v.stage → ((t : ℕ) → tickets_at t w.stage ≡ tickets_at t v.stage)
      → Knows caller callers r.fixed_part r.history r.out w
      → AtHome valid fixed entries homes r.fixed_part r.history ⊎ IsOut (set s.views id w)
      → Rule record { words = s.words; homes = homes; views = set s.views id w }
  stayed s r id v w at homes as_many as_single as_counted same_ticket mine place =
      moved s r id v w at s.words homes r.history r.out r.words as_many as_single (ap (λ (m : ℕ). m + r.out) as_counted)
      (λ t. subst (λ (m : ℕ). m ≤ 1) (sym (total_same (λ u. tickets_at t u.stage) s.views id v w at (same_ticket t))) (r.apart t)) mine (λ j u _ there. r.knows j u there) r.known r.lawful place

  -- who finds its ticket served finds the value in its slot
  pub comes_home : (s : Lock T F E) (r : Rule s) (id : ℕ) (v : View F E) → get_elem? s.views id ≡ some v → (HasTurn v.stage → ⊥) → tickets_at (length r.history % 2 ^ 64) v.stage ≡ 1
      → AtHome valid fixed entries s.homes r.fixed_part r.history
  comes_home s r id v at not_yet ticket = ⊎_elim (λ (a : AtHome valid fixed entries s.homes r.fixed_part r.history). a) (λ (o : IsOut s.views).
      let other : o.seat ≢ id = λ is. not_yet (subst (λ (u : View F E). HasTurn u.stage) (home.some-injective o.knows v (sym o.there ∙ (ap (get_elem? s.views) is ∙ at))) o.turn) in
      let theirs = turn_ticket r.out r.history o.knows.charges o.knows.stage (r.knows o.seat o.knows o.there).staged o.turn in
      let two = total_two (λ u. tickets_at (length r.history % 2 ^ 64) u.stage) s.views o.seat id o.knows v other o.there at in
      let once = r.apart (length r.history % 2 ^ 64) in
      absurd (omega (arith, theirs, ticket, two, once))) r.place

-- the value is in, or on its way in
abbrev pub IsBorn : Stage → Type 0
IsBorn (Unborn l) = ⊥
IsBorn (Opening l) = ⊥
IsBorn _ = Unit {0}

module _ {T F E : Type 0} (valid : T → Type 0) (fixed : T → F) (entries : T → List E) (legal : F → List E → Type 0) (caller : E → ℕ) (callers : List ℕ) where
  -- where one seat has a stage of a gate that is made, the gate is made
  pub born : (s : Lock T F E) → Ruled valid fixed entries legal caller callers s → (id : ℕ) (v : View F E) → get_elem? s.views id ≡ some v → IsBorn v.stage → Kept valid fixed entries legal caller callers s
  born s rule id v at alive = ⊎_elim (λ (k : Kept valid fixed entries legal caller callers s). k)
      (λ (b : AreCallers callers × ((s ≡ empty callers) ⊎ (s ≡ opening callers))). absurd (⊎_elim
      (λ (e : s ≡ empty callers). subst (λ (u : View F E). IsBorn u.stage) (sym (only _ id v (ap (λ (z : Lock T F E). get_elem? z.views id) (sym e) ∙ at))) alive)
      (λ (e : s ≡ opening callers). subst (λ (u : View F E). IsBorn u.stage) (sym (only _ id v (ap (λ (z : Lock T F E). get_elem? z.views id) (sym e) ∙ at))) alive)
      b.1)) rule

-- The seats that are joined into one, and what is said of each by what is said of the charges of that one.
use Rattle.std.proofs.Common.{◌≡◌, ℕ, List, [], ◌∷◌, ◌++◌, map, sym, ap, ◌∙◌, subst, append_assoc}
use Rattle.std.specs.Prelude.{Some}
use Rattle.std.specs.List.{All, AllByRecursion, Contains}
use Rattle.std.proofs.lemmas.List.{map_push}
use Rattle.std.proofs.lemmas.List.Elements.{All-from_recursion}
use Rattle.hall_gate.specs.declared.rule.Charge.{Charge}
use Rattle.hall_gate.specs.declared.rule.Stage.TheVariants.{Idle}
use Rattle.hall_gate.specs.declared.gate.Gate.{Gate}
use Rattle.hall_gate.specs.declared.seat.GateSeat.{GateSeat}
use Rattle.fr_bytes.specs.History.{Begins, own}
use Rattle.hall_gate.specs.Knowing.{view, caller_at, fixed_at, front_at}
use Rattle.hall_gate.specs.Plays.{Held, seated, joined}
use Rattle.hall_gate.specs.Rule.{Charged, Closes}
use Rattle.hall_gate.specs.Seats.{caller_of, fixed_of, front_of, state_of, IsSeatOf}

module _ {T Slip Answer Seen Entry Ask Fixed : Type 0} where
  -- the last seat, of which the others are joined to
  pub gathers_last : (gate : Gate T Slip Answer Seen Entry Ask Fixed) (all others : List (GateSeat T Slip Answer Seen Entry Ask Fixed)) (seat : GateSeat T Slip Answer Seen Entry Ask Fixed) (m : Held T Fixed Entry)
      → all ≡ others ++ seat ∷ [] → IsSeatOf gate seat → m ≡ state_of seat → (m ≡ (view Idle m.0.charges [], [])) × (map state_of all ≡ map state_of others ++ map seated m.0.charges)
  gathers_last gate all others seat m is one same = let me = same ∙ one.knows in (
    me ∙ ap (λ (n : Held T Fixed Entry). (view Idle n.0.charges [], [])) (sym me),
    ap (map state_of) is ∙ (map_push state_of others seat ∙ (λ i. map state_of others ++ (one.knows i ∷ [])) ∙ ap (λ (n : Held T Fixed Entry). map state_of others ++ map seated n.0.charges) (sym me)),
  )

  -- one more is joined
  pub gathers_more : (gate : Gate T Slip Answer Seen Entry Ask Fixed) (all : List (Held T Fixed Entry)) (some others : List (GateSeat T Slip Answer Seen Entry Ask Fixed)) (seat : GateSeat T Slip Answer Seen Entry Ask Fixed) (ks : List (Charge Fixed Entry)) (m n : Held T Fixed Entry)
      → some ≡ others ++ seat ∷ [] → IsSeatOf gate seat → m ≡ state_of seat → n ≡ (joined (view Idle ks []) m.0, []) → all ≡ map state_of some ++ map seated ks
      → (n ≡ (view Idle n.0.charges [], [])) × (all ≡ map state_of others ++ map seated n.0.charges)
  gathers_more gate all some others seat ks m n is one same now before = let me = same ∙ one.knows in let new = now ∙ ap (λ (x : Held T Fixed Entry). (joined (view Idle ks []) x.0, [])) me in (
    new ∙ ap (λ (x : Held T Fixed Entry). (view Idle x.0.charges [], [])) (sym new),
    before ∙ (ap (λ l. map state_of l ++ map seated ks) is ∙ (ap (λ l. l ++ map seated ks) (map_push state_of others seat) ∙ ((λ i. (map state_of others ++ (one.knows i ∷ [])) ++ map seated ks)
        ∙ (append_assoc (map state_of others) (seated one.charge ∷ []) (map seated ks) ∙ ap (λ (x : Held T Fixed Entry). map state_of others ++ map seated x.0.charges) (sym new))))),
  )

  -- what holds of each charge holds of the seats
  each_gathered : (P : Charge Fixed Entry → Type 0) (Q : GateSeat T Slip Answer Seen Entry Ask Fixed → Type 0) → ((k : Charge Fixed Entry) (seat : GateSeat T Slip Answer Seen Entry Ask Fixed) → state_of seat ≡ seated k → P k → Q seat)
      → (seats : List (GateSeat T Slip Answer Seen Entry Ask Fixed)) (ks : List (Charge Fixed Entry)) → map state_of seats ≡ map seated ks → AllByRecursion P ks → AllByRecursion Q seats
  each_gathered P Q gives [] ks e all = tt
  each_gathered P Q gives (seat ∷ seats) [] e all = cc
  each_gathered P Q gives (seat ∷ seats) (k ∷ ks) e all = let first : state_of seat ≡ seated k = cc in let rest : map state_of seats ≡ map seated ks = cc in (gives k seat first all.0, each_gathered P Q gives seats ks rest all.1)

  pub all_gathered : (P : Charge Fixed Entry → Type 0) (Q : GateSeat T Slip Answer Seen Entry Ask Fixed → Type 0) → ((k : Charge Fixed Entry) (seat : GateSeat T Slip Answer Seen Entry Ask Fixed) → state_of seat ≡ seated k → P k → Q seat)
      → (seats : List (GateSeat T Slip Answer Seen Entry Ask Fixed)) (ks : List (Charge Fixed Entry)) → map state_of seats ≡ map seated ks → AllByRecursion P ks → All Q seats
  all_gathered P Q gives seats ks e all = All-from_recursion Q seats (each_gathered P Q gives seats ks e all)

module _ {T Slip Answer Seen Entry Ask Fixed : Type 0} (valid : T → Type 0) (fixed : T → Fixed) (entries : T → List Entry) (caller : Entry → ℕ) (callers : List ℕ) (x : T) (seats : List (GateSeat T Slip Answer Seen Entry Ask Fixed)) (ks : List (Charge Fixed Entry))
    (gathered : map state_of seats ≡ map seated ks) (closes : Closes valid fixed entries caller callers ks x) where
  pub closed_fixed : All (λ seat. fixed_of seat ≡ Some (fixed x)) seats
  closed_fixed = all_gathered (Charged caller callers (fixed x) (entries x)) (λ seat. fixed_of seat ≡ Some (fixed x))
      (λ k seat e charged. ap (λ (m : Held T Fixed Entry). fixed_at m.0.charges) e ∙ ap Some charged.same) seats ks gathered closes.charged

  pub closed_fronts : All (λ seat. Begins (front_of seat) (entries x)) seats
  closed_fronts = all_gathered (Charged caller callers (fixed x) (entries x)) (λ seat. Begins (front_of seat) (entries x))
      (λ k seat e charged. subst (λ (m : Held T Fixed Entry). Begins (front_at m.0.charges) (entries x)) (sym e) charged.begins) seats ks gathered closes.charged

  pub closed_own : All (λ seat. own caller (caller_of seat) (entries x) ≡ own caller (caller_of seat) (front_of seat)) seats
  closed_own = all_gathered (Charged caller callers (fixed x) (entries x)) (λ seat. own caller (caller_of seat) (entries x) ≡ own caller (caller_of seat) (front_of seat))
      (λ k seat e charged. subst (λ (m : Held T Fixed Entry). own caller (caller_at m.0.charges) (entries x) ≡ own caller (caller_at m.0.charges) (front_at m.0.charges)) (sym e) charged.mine) seats ks gathered closes.charged

  pub closed_known : All (λ e. Contains callers (caller e)) (entries x)
  closed_known = All-from_recursion (λ e. Contains callers (caller e)) (entries x) closes.known

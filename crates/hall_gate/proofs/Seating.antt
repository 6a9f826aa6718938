-- The steps on seats: split_seat, join_seat and meet.
use Rattle.std.proofs.Common.{◌≡◌, ℕ, ◌==◌, ◌+◌, List, [], ◌∷◌, ◌++◌, map, length, length-append, set, sym, refl, ap, ◌∙◌, subst, inl, inr, ⊎_elim, arith}
use Rattle.std.specs.List.{AllByRecursion}
use mathlib.Core.Option.{some, none}
use lib.ListN.{get_elem?}
use lib.Seq.{set-get_or}
use Rattle.atomic_table.specs.Table.{step, keeps, Allows, Splits, Joins}
use Rattle.atomic_table.proofs.Lists.{set_else, at_snoc, at_longer}
use Rattle.hall_gate.specs.declared.rule.Charge.{Charge}
use Rattle.hall_gate.specs.declared.rule.Stage.TheVariants.{Idle}
use Rattle.hall_gate.specs.declared.rule.View.{View}
use Rattle.fr_bytes.specs.History.{Begins}
use Rattle.hall_gate.specs.Knowing.{total, one_if, tickets, tickets_at, charges, charges_of, view, idle, has_front, spent, front_at}
use Rattle.hall_gate.specs.Rule.{Lock, Charged, Knows, Kept, Ruled}
use Rattle.hall_gate.specs.Plays as plays
use Rattle.hall_gate.specs.Plays.{Held, Meets, undealt, dealt, noted, joined}
use Rattle.hall_gate.proofs.Totals.{total_set, total-append, each_set}
use Rattle.fr_bytes.proofs.Lists.{each-append}
use Rattle.fr_bytes.proofs.HistoryLaws.{begins_itself}
use Rattle.hall_gate.proofs.Keeping.{stayed, still_out, born}

module _ {F E : Type 0} where
  front_of_charge : (caller : E → ℕ) (callers : List ℕ) (f : F) (h : List E) (ks : List (Charge F E)) → AllByRecursion (Charged caller callers f h) ks → AllByRecursion (λ front. Begins front h) (map (λ k. k.front) ks)
  front_of_charge caller callers f h [] all = tt
  front_of_charge caller callers f h (k ∷ ks) all = (all.0.begins, front_of_charge caller callers f h ks all.1)

module _ {T F E : Type 0} (valid : T → Type 0) (fixed : T → F) (entries : T → List E) (legal : F → List E → Type 0) (caller : E → ℕ) (callers : List ℕ) where
  abbrev Rule : Lock T F E → Type 0
  Rule = Ruled valid fixed entries legal caller callers

  -- a seat that makes no call is cut in two
  parted : (s : Lock T F E) (r : Kept valid fixed entries legal caller callers s) (id : ℕ) (ks ls ms : List (Charge F E)) (heard told other : List (List E)) → get_elem? s.views id ≡ some (view Idle ks heard)
      → length ls + length ms ≡ length ks → ((c : ℕ) → charges_of c ls + charges_of c ms ≡ charges_of c ks)
      → Knows caller callers r.fixed_part r.history r.out (view Idle ls told) → Knows caller callers r.fixed_part r.history r.out (view Idle ms other)
      → Kept valid fixed entries legal caller callers record { words = s.words; homes = s.homes; views = set s.views id (view Idle ls told) ++ view Idle ms other ∷ [] }
  parted s r id ks ls ms heard told other at many single mine theirs =
      let v : View F E = view Idle ks heard in let w : View F E = view Idle ls told in let u : View F E = view Idle ms other in
      let sum : (f : View F E → ℕ) → total f (set s.views id w ++ u ∷ []) + f v ≡ total f s.views + (f w + f u) = λ f. let a = total_set f s.views id v w at in let b = total-append f (set s.views id w) (u ∷ []) in omega arith in record {
        fixed_part = r.fixed_part;
        history = r.history;
        out = r.out;
        words = r.words;
        few = r.few;
        shared = let a = sum charges in let b = r.shared in omega arith;
        single = λ c. let a = sum (λ x. charges_of c x.charges) in let b = single c in let once = r.single c in omega arith;
        counted = let a = sum (λ x. tickets x.stage) in let b = r.counted in omega arith;
        apart = λ t. let a = sum (λ x. tickets_at t x.stage) in let once = r.apart t in omega arith;
        knows = λ j x there. ⊎_elim (each_set (λ i y. Knows caller callers r.fixed_part r.history r.out y) s.views id w mine (λ i y _ here. r.knows i y here) j x)
            (λ (e : u ≡ x). subst (Knows caller callers r.fixed_part r.history r.out) e theirs) (at_snoc (set s.views id w) u x j there);
        known = r.known;
        lawful = r.lawful;
        place = ⊎_elim inl (λ o. let still = still_out s.views id v w at (λ turn. absurd turn) o in
            inr record { seat = still.seat; knows = still.knows; there = at_longer (set s.views id w) (u ∷ []) still.seat still.knows still.there; turn = still.turn }) r.place;
      }

  -- Split, for a new seat: it has the first charge, and the seat that was split has the others.
  pub deals : (id : ℕ) (ks : List (Charge F E)) → Splits Rule id (view Idle ks []) (undealt (view Idle ks [])) (dealt (view Idle ks []))
  deals id [] s rule at = let r = born valid fixed entries legal caller callers s rule id (view Idle [] []) at tt in
      inl (parted s r id [] [] [] [] [] [] at refl (λ c. refl) (r.knows id _ at) record { charged = tt; heard = tt; staged = tt })
  deals id (k ∷ ks) s rule at = let r = born valid fixed entries legal caller callers s rule id (view Idle (k ∷ ks) []) at tt in let known = r.knows id _ at in
      inl (parted s r id (k ∷ ks) ks (k ∷ []) [] [] [] at (omega arith) (λ c. omega arith) record { charged = known.charged.1; heard = tt; staged = tt } record { charged = (known.charged.0, tt); heard = tt; staged = tt })

  -- Split, for a note: it has heard of what the seat has seen.
  pub notes : (id : ℕ) (k : Charge F E) → Splits Rule id (idle k) (idle k) (noted (idle k))
  notes id k s rule at = let r = born valid fixed entries legal caller callers s rule id (idle k) at tt in let known = r.knows id _ at in
      inl (parted s r id (k ∷ []) (k ∷ []) [] [] [] (k.front ∷ []) at (omega arith) (λ c. omega arith) known record { charged = tt; heard = (known.charged.0.begins, tt); staged = tt })

  -- Join: the seat has the charges of both, and has heard what both had heard. The other view is spent.
  pub joins : (id other : ℕ) (ks ls : List (Charge F E)) (heard told : List (List E)) → Joins Rule id (view Idle ks heard) other (view Idle ls told) (joined (view Idle ks heard) (view Idle ls told)) spent
  joins id other ks ls heard told s rule at apart there =
      let v : View F E = view Idle ks heard in let u : View F E = view Idle ls told in let w : View F E = joined v u in
      let r = born valid fixed entries legal caller callers s rule id v at tt in
      let theirs = r.knows other u (sym (set_else s.views id other w apart) ∙ there) in let mine = r.knows id v at in
      let sum : (f : View F E → ℕ) → total f (set (set s.views id w) other spent) + (f v + f u) ≡ total f s.views + (f w + f spent) = λ f. let a = total_set f s.views id v w at in let b = total_set f (set s.views id w) other u spent there in omega arith in
      inl record {
        fixed_part = r.fixed_part;
        history = r.history;
        out = r.out;
        words = r.words;
        few = r.few;
        shared = let a = sum charges in let b = r.shared in omega (arith, length-append ls ks);
        single = λ c. let a = sum (λ x. charges_of c x.charges) in let b = total-append (λ k. one_if (k.caller == c)) ls ks in let once = r.single c in omega arith;
        counted = let a = sum (λ x. tickets x.stage) in let b = r.counted in omega arith;
        apart = λ t. let a = sum (λ x. tickets_at t x.stage) in let once = r.apart t in omega arith;
        knows = each_set (λ i y. Knows caller callers r.fixed_part r.history r.out y) (set s.views id w) other spent record { charged = tt; heard = tt; staged = tt }
            (λ i y _ here. each_set (λ i y. Knows caller callers r.fixed_part r.history r.out y) s.views id w
            record { charged = each-append (Charged caller callers r.fixed_part r.history) ls ks theirs.charged mine.charged; heard = each-append (λ front. Begins front r.history) heard told mine.heard theirs.heard; staged = tt }
            (λ i y _ before. r.knows i y before) i y here);
        known = r.known;
        lawful = r.lawful;
        place = ⊎_elim inl (λ o. inr (still_out (set s.views id w) other u spent there (λ turn. absurd turn) (still_out s.views id v w at (λ turn. absurd turn) o))) r.place;
      }

  -- Meet: the seat has seen the history, which begins with all that it had seen and heard of.
  pub meets : (slots id : ℕ) (k : Charge F E) (heard : List (List E)) → Allows Rule slots id (view Idle (k ∷ []) heard, []) 1 (λ n. n) (plays.meets legal caller (step slots 1 0 0 none) (view Idle (k ∷ []) heard, []))
  meets slots id k heard s rule _ at small =
      let v : View F E = view Idle (k ∷ []) heard in
      let r = born valid fixed entries legal caller callers s rule id v at tt in
      let known = r.knows id v at in let mine = known.charged.0 in let w : View F E = idle (has_front k r.history) in (
        w,
        keeps,
        tt,
        inl (subst (λ (ws : List ℕ). Kept valid fixed entries legal caller callers record { words = ws; homes = s.homes; views = set s.views id w }) (sym (set-get_or s.words 1 0))
            (stayed valid fixed entries legal caller callers s r id v w at s.homes refl (λ c. refl) refl (λ t. refl)
            record { charged = (record { listed = mine.listed; same = mine.same; begins = begins_itself r.history; mine = refl }, tt); heard = tt; staged = tt }
            (⊎_elim inl (λ o. inr (still_out s.views id v w at (λ turn. absurd turn) o)) r.place))),
        record {
          front = r.history;
          seat = refl;
          begins = mine.begins;
          told = known.heard;
          mine = mine.mine;
          lawful = subst (λ (f : F). legal f r.history) (sym mine.same) r.lawful;
        },
      )

module _ {T F E : Type 0} (legal : F → List E → Type 0) (caller : E → ℕ) where
  -- what was heard of is in what the seat sees
  pub meets_told : (k : Charge F E) (heard : List (List E)) (m n : Held T F E) → Meets legal caller k heard m n → AllByRecursion (λ other. Begins other (front_at n.0.charges)) heard
  meets_told k heard m n met = subst (λ (front : List E). AllByRecursion (λ other. Begins other front) heard) (sym (ap (λ (x : Held T F E). front_at x.0.charges) met.seat)) met.told

-- The five steps of a turn: draw, wait, take, put and serve.
use Rattle.std.proofs.Common.{◌≡◌, ◌≢◌, ℕ, ◌==◌, ◌+◌, ◌-◌, ◌%◌, ◌^◌, ◌<◌, ◌≤◌, eq-eqb, ne_eqb, List, [], ◌∷◌, ◌++◌, length, length-append, get_or, set, sym, refl, ap, ◌∙◌, subst, inl, inr, ⊎_elim, arith}
use Rattle.std.specs.Prelude.{Some}
use Rattle.std.specs.List.{AllByRecursion, Contains}
use Rattle.std.proofs.Math.Nat.{mod-add-mod}
use Rattle.std.proofs.lemmas.List.{append-nil}
use mathlib.Core.Logic.{dite}
use native.Mathlib.Decide.{ℕ_discrete}
use mathlib.Core.Option.{some, none}
use lib.ListN.{get_elem?}
use lib.Seq.{set-get_or}
use Rattle.atomic_table.specs.Table.{step, keeps, takes, gives, Allows}
use Rattle.atomic_table.proofs.Lists.{set_again, set_here, one_turn}
use Rattle.hall_gate.specs.declared.rule.Charge.{Charge}
use Rattle.hall_gate.specs.declared.rule.Stage.{Stage}
use Rattle.hall_gate.specs.declared.rule.Stage.TheVariants.{Unborn, Opening, Idle, Waiting, Holding}
use Rattle.hall_gate.specs.declared.rule.View.{View}
use Rattle.fr_bytes.specs.History.{Begins, own}
use Rattle.hall_gate.specs.Knowing.{one_if, tickets, tickets_at, charges_of, idle, waiting, holding, has_front, fixed_at, front_at}
use Rattle.hall_gate.specs.Rule.{Lock, AtHome, Charged, Staged, Kept, Ruled}
use Rattle.hall_gate.specs.Plays as plays
use Rattle.hall_gate.specs.Plays.{Held, GetsTurn}
use Rattle.hall_gate.proofs.Totals.{total_set, total_at, total_two, total_none, place_below, one_place}
use Rattle.fr_bytes.proofs.Lists.{each-append}
use Rattle.fr_bytes.proofs.HistoryLaws.{begins_itself, begins_more, own-append, own_other}
use Rattle.hall_gate.proofs.Keeping.{few_out, moved, stayed, comes_home, born, still_out}

module _ {F E : Type 0} where
  -- one more ticket is out
  staged_more : (n : ℕ) (h : List E) (ks : List (Charge F E)) (stage : Stage) → Staged n h ks stage → Staged (n + 1) h ks stage
  staged_more n h ks (Unborn l) s = s
  staged_more n h ks (Opening l) s = s
  staged_more n h ks Idle s = tt
  staged_more n h ks (Waiting t) s = let lt : s.1.0 < n = s.1.1 in (s.0, (s.1.0, omega arith, s.1.2))
  staged_more n h ks (Holding t) s = s

  -- no seat has the ticket that is drawn next
  is_new : (n : ℕ) (h : List E) (ks : List (Charge F E)) (stage : Stage) → Staged n h ks stage → n < 2 ^ 64 → tickets stage ≤ n → tickets_at ((length h + n) % 2 ^ 64) stage ≡ 0
  is_new n h ks (Unborn l) s few le = refl
  is_new n h ks (Opening l) s few le = refl
  is_new n h ks Idle s few le = refl
  is_new n h ks (Waiting t) s few le = let lt : s.1.0 < n = s.1.1 in ap one_if (ne_eqb t _ (λ e.
      let same = one_turn (length h + s.1.0) (length h + n) (2 ^ 64) (omega arith) (omega arith) (sym s.1.2 ∙ e) in omega arith))
  is_new n h ks (Holding t) s few le = ap one_if (ne_eqb t _ (λ e.
      let same = one_turn (length h) (length h + n) (2 ^ 64) (omega arith) (omega arith) (sym s.1 ∙ e) in omega arith))

module _ {T F E : Type 0} (valid : T → Type 0) (fixed : T → F) (entries : T → List E) (caller : E → ℕ) where
  -- what the seat knows of the value that it takes
  pub gets_value : (k : Charge F E) (t : ℕ) (m : Held T F E) (g : GetsTurn valid fixed entries caller k t m) → (fixed_at m.0.charges ≡ Some (fixed g.value)) × (entries g.value ≡ front_at m.0.charges)
  gets_value k t m g = (ap (λ (n : Held T F E). fixed_at n.0.charges) g.seat ∙ ap Some (sym g.is.same), g.is.all ∙ sym (ap (λ (n : Held T F E). front_at n.0.charges) g.seat))

module _ {T F E : Type 0} (valid : T → Type 0) (fixed : T → F) (entries : T → List E) (legal : F → List E → Type 0) (caller : E → ℕ) (callers : List ℕ) where
  abbrev Rule : Lock T F E → Type 0
  Rule = Ruled valid fixed entries legal caller callers

  pub draws : (slots id : ℕ) (k : Charge F E) → Allows Rule slots id (idle k, []) 0 (λ n. (n + 1) % 2 ^ 64) (plays.draws (step slots 0 1 0 none) (idle k, []))
  draws slots id k s rule _ at small =
      let r = born valid fixed entries legal caller callers s rule id (idle k) at tt in
      let h : List E = r.history in let n : ℕ = r.out in
      let t : ℕ = get_or s.words 0 0 in
      let here : t ≡ (length h + n) % 2 ^ 64 = ap (λ (ws : List ℕ). get_or ws 0 0) r.words in
      let w : View F E = waiting t k in
      let le = few_out valid fixed entries legal caller callers s r in
      let few : n < 2 ^ 64 = let few = r.few in omega arith in
      let known = r.knows id (idle k) at in (
        w,
        keeps,
        tt,
        inl (moved valid fixed entries legal caller callers s r id (idle k) w at (set s.words 0 ((t + 1) % 2 ^ 64)) s.homes h (n + 1)
            (ap (λ (ws : List ℕ). set ws 0 ((get_or ws 0 0 + 1) % 2 ^ 64)) r.words ∙ ap (λ (x : ℕ). x ∷ length h % 2 ^ 64 ∷ []) (mod-add-mod (length h + n) (2 ^ 64) 1 ∙ ap (λ (x : ℕ). x % 2 ^ 64) (omega arith)))
            refl (λ c. refl) (omega arith)
            (λ u. let sum = total_set (λ (x : View F E). tickets_at u x.stage) s.views id (idle k) w at in dite (ℕ_discrete t u)
            (λ e. let none_yet = total_none (λ (x : View F E). tickets_at u x.stage) s.views (λ j x there. subst (λ (y : ℕ). tickets_at y x.stage ≡ 0) (sym here ∙ e)
            (is_new n h x.charges x.stage (r.knows j x there).staged few (let each = total_at (λ (x : View F E). tickets x.stage) s.views j x there in let all = r.counted in omega arith))) in
            let one : one_if (t == u) ≡ 1 = ap one_if (eq-eqb t u e) in omega arith)
            (λ ne. let zero_more : one_if (t == u) ≡ 0 = ap one_if (ne_eqb t u ne) in let once = r.apart u in omega arith))
            record { charged = known.charged; heard = known.heard; staged = (omega arith, (n, omega arith, here)) }
            (λ j u _ there. let theirs = r.knows j u there in record { charged = theirs.charged; heard = theirs.heard; staged = staged_more n h u.charges u.stage theirs.staged })
            r.known r.lawful
            (⊎_elim inl (λ o. inr (still_out s.views id (idle k) w at (λ none. absurd none) o)) r.place)),
        refl,
      )

  -- who has its ticket served takes the value: its entries are the history
  turned : (s : Lock T F E) (r : Kept valid fixed entries legal caller callers s) (id t : ℕ) (k : Charge F E) → get_elem? s.views id ≡ some (waiting t k) → (home_is : AtHome valid fixed entries s.homes r.fixed_part r.history)
      → t ≡ length r.history % 2 ^ 64 → Kept valid fixed entries legal caller callers record { words = s.words; homes = set s.homes 0 none; views = set s.views id (holding t (has_front k r.history)) }
  turned s r id t k at h is = let known = r.knows id (waiting t k) at in let mine = known.charged.0 in
      stayed valid fixed entries legal caller callers s r id (waiting t k) (holding t (has_front k r.history)) at (set s.homes 0 none) refl (λ c. refl) refl (λ u. refl)
      record {
        charged = (record { listed = mine.listed; same = mine.same; begins = begins_itself r.history; mine = refl }, tt);
        heard = tt;
        staged = (omega arith, is, (refl, tt));
      }
      (inr record { seat = id; knows = holding t (has_front k r.history); there = set_here s.views id _ (place_below s.views id _ at); turn = tt })

  pub waits : (slots id t : ℕ) (k : Charge F E) → Allows Rule slots id (waiting t k, []) 1 (λ n. n) (plays.waits valid fixed entries caller (step slots 1 0 0 none) (waiting t k, []))
  waits slots id t k s rule _ at small =
      let r = born valid fixed entries legal caller callers s rule id (waiting t k) at tt in
      let n : ℕ = get_or s.words 1 0 in
      let here : n ≡ length r.history % 2 ^ 64 = ap (λ (ws : List ℕ). get_or ws 1 0) r.words in
      let unread = sym (set-get_or s.words 1 0) in
      dite (ℕ_discrete n t)
      (λ e. let ticket : t ≡ length r.history % 2 ^ 64 = sym e ∙ here in
      let h = comes_home valid fixed entries legal caller callers s r id (waiting t k) at (λ none. none) (ap one_if (eq-eqb t _ ticket)) in
      let known = r.knows id (waiting t k) at in let mine = known.charged.0 in (
        holding t (has_front k r.history),
        takes 0 (Some h.value),
        ap (λ hs. get_elem? hs 0) h.there,
        inl (subst (λ (ws : List ℕ). Kept valid fixed entries legal caller callers record { words = ws; homes = set s.homes 0 none; views = set s.views id (holding t (has_front k r.history)) }) unread (turned s r id t k at h ticket)),
        (
          (λ _. record {
            value = h.value;
            front = r.history;
            seat = refl;
            is = record { good = h.is.good; same = h.is.same ∙ sym mine.same; all = h.is.all };
            begins = mine.begins;
            mine = mine.mine;
          }),
          λ not. absurd (not e),
        ),
      ))
      (λ ne. (
        waiting t k,
        keeps,
        tt,
        inl (subst (λ (z : List ℕ × List (View F E)). Kept valid fixed entries legal caller callers record { words = z.0; homes = s.homes; views = z.1 }) (λ i. (unread i, sym (set_again s.views id (waiting t k) at) i)) r),
        ((λ e. absurd (ne e)), λ _. refl),
      ))

  -- Take: the seat that has the turn has seen the whole history, the served ticket is its own, and no other seat has it.
  pub takes_alone : (s : Lock T F E) (r : Kept valid fixed entries legal caller callers s) (id t : ℕ) (k : Charge F E) → get_elem? s.views id ≡ some (holding t k)
      → (k.front ≡ r.history) × (get_or s.words 1 0 ≡ t) × ((j : ℕ) (v : View F E) → j ≢ id → get_elem? s.views j ≡ some v → tickets_at t v.stage ≡ 0)
  takes_alone s r id t k at = let known = r.knows id (holding t k) at in (
    known.staged.2.0,
    ap (λ (ws : List ℕ). get_or ws 1 0) r.words ∙ sym known.staged.1,
    λ j v other there.
        let two = total_two (λ (u : View F E). tickets_at t u.stage) s.views j id v (holding t k) other there at in
        let once = r.apart t in let own_ticket : one_if (t == t) ≡ 1 = ap one_if (eq-eqb t t refl) in omega arith,
  )

  -- Put: the value that is put back has one entry more than the serving word counts, and the served ticket is still that seat's alone.
  pub puts : (s : Lock T F E) (r : Kept valid fixed entries legal caller callers s) (id t : ℕ) (k : Charge F E) → get_elem? s.views id ≡ some (holding t k) → (x : T) (e : E) → entries x ≡ k.front ++ e ∷ []
      → (get_or s.words 1 0 ≡ length r.history % 2 ^ 64) × (length (entries x) ≡ length r.history + 1) × ((j : ℕ) (v : View F E) → j ≢ id → get_elem? s.views j ≡ some v → tickets_at (get_or s.words 1 0) v.stage ≡ 0)
  puts s r id t k at x e all = let alone = takes_alone s r id t k at in (
    ap (λ (ws : List ℕ). get_or ws 1 0) r.words,
    ap length all ∙ (length-append k.front (e ∷ []) ∙ ap (λ (n : ℕ). n + 1) (ap length alone.0)),
    λ j v other there. ap (λ (u : ℕ). tickets_at u v.stage) alone.1 ∙ alone.2 j v other there,
  )

  -- a charge of another caller, after the entry e
  charged_more : (f : F) (h : List E) (e : E) (q : Charge F E) → caller e ≢ q.caller → Charged caller callers f h q → Charged caller callers f (h ++ e ∷ []) q
  charged_more f h e q other c = record {
    listed = c.listed;
    same = c.same;
    begins = begins_more q.front h (e ∷ []) c.begins;
    mine = own-append caller q.caller h (e ∷ []) ∙ (ap (λ l. own caller q.caller h ++ l) (own_other caller q.caller e other) ∙ (append-nil (own caller q.caller h) ∙ c.mine));
  }

  all_charged_more : (f : F) (h : List E) (e : E) (ks : List (Charge F E)) → charges_of (caller e) ks ≡ 0 → AllByRecursion (Charged caller callers f h) ks → AllByRecursion (Charged caller callers f (h ++ e ∷ [])) ks
  all_charged_more f h e [] free all = tt
  all_charged_more f h e (q ∷ ks) free all = (
    charged_more f h e q (λ is. let one : one_if (q.caller == caller e) ≡ 1 = ap one_if (eq-eqb q.caller (caller e) (sym is)) in omega arith) all.0,
    all_charged_more f h e ks (omega arith) all.1,
  )

  all_begin_more : (h : List E) (e : E) (fronts : List (List E)) → AllByRecursion (λ front. Begins front h) fronts → AllByRecursion (λ front. Begins front (h ++ e ∷ [])) fronts
  all_begin_more h e [] all = tt
  all_begin_more h e (front ∷ fronts) all = (begins_more front h (e ∷ []) all.0, all_begin_more h e fronts all.1)

  -- the next ticket is served, and a seat without the ticket that was served before keeps its place
  staged_on : (n m : ℕ) (h : List E) (e : E) (ks : List (Charge F E)) (stage : Stage) → n ≡ m + 1 → tickets_at (length h % 2 ^ 64) stage ≡ 0 → Staged n h ks stage → Staged m (h ++ e ∷ []) ks stage
  staged_on n m h e ks (Unborn l) up free s = s
  staged_on n m h e ks (Opening l) up free s = s
  staged_on n m h e ks Idle up free s = tt
  staged_on n m h e ks (Waiting t) up free s = let lt : s.1.0 < n = s.1.1 in let is : t ≡ (length h + s.1.0) % 2 ^ 64 = s.1.2 in
      let some_before : s.1.0 ≢ 0 = λ z. let one : one_if (t == length h % 2 ^ 64) ≡ 1 = ap one_if (eq-eqb t _ (is ∙ ap (λ (i : ℕ). i % 2 ^ 64) (omega arith))) in omega (arith, free, one) in
      (s.0, (s.1.0 - 1, omega arith, is ∙ ap (λ (i : ℕ). i % 2 ^ 64) (omega (arith, length-append h (e ∷ [])))))
  staged_on n m h e ks (Holding t) up free s = let one : one_if (t == length h % 2 ^ 64) ≡ 1 = ap one_if (eq-eqb t _ s.1) in absurd (omega (arith, free, one))

  pub serves : (id t : ℕ) (k : Charge F E) (x : T) (e : E) → valid x → fixed x ≡ k.fixed → entries x ≡ k.front ++ e ∷ [] → caller e ≡ k.caller → legal (fixed x) (entries x)
      → Allows Rule 1 id (holding t k, (0, Some x) ∷ []) 1 (λ n. (n + 1) % 2 ^ 64) (plays.serves entries (step 1 1 1 0 none) (holding t k, (0, Some x) ∷ []))
  serves id t k x e good same all by law s rule wide at small =
      let r = born valid fixed entries legal caller callers s rule id (holding t k) at tt in
      let h : List E = r.history in let n : ℕ = r.out - 1 in
      let alone = takes_alone s r id t k at in
      let known = r.knows id (holding t k) at in let mine = known.charged.0 in
      let whole : entries x ≡ h ++ e ∷ [] = all ∙ ap (λ l. l ++ e ∷ []) alone.0 in
      let some_out : r.out ≡ n + 1 = let each = total_at (λ (u : View F E). tickets u.stage) s.views id (holding t k) at in let counted = r.counted in omega arith in
      let w : View F E = idle (has_front k (entries x)) in
      let longer : length (h ++ e ∷ []) ≡ length h + 1 = length-append h (e ∷ []) in
      let words_same : (length h + r.out) % 2 ^ 64 ≡ (length (h ++ e ∷ []) + n) % 2 ^ 64 = ap (λ (i : ℕ). i % 2 ^ 64) (omega arith) in
      let no_charge : (j : ℕ) (u : View F E) → j ≢ id → get_elem? s.views j ≡ some u → charges_of (caller e) u.charges ≡ 0 = λ j u other there.
      let two = total_two (λ (v : View F E). charges_of (caller e) v.charges) s.views j id u (holding t k) other there at in
      let once = r.single (caller e) in let one : one_if (k.caller == caller e) ≡ 1 = ap one_if (eq-eqb k.caller (caller e) (sym by)) in omega arith in (
        w,
        gives,
        tt,
        inl (moved valid fixed entries legal caller callers s r id (holding t k) w at (set s.words 1 ((get_or s.words 1 0 + 1) % 2 ^ 64)) (set s.homes 0 (some (Some x))) (h ++ e ∷ []) n
            (ap (λ (ws : List ℕ). set ws 1 ((get_or ws 1 0 + 1) % 2 ^ 64)) r.words ∙ (λ i. (length h + r.out) % 2 ^ 64 ∷ (mod-add-mod (length h) (2 ^ 64) 1) i ∷ []) ∙ (λ i. (words_same i) ∷ (sym longer i) % 2 ^ 64 ∷ []))
            refl (λ c. refl) (omega arith)
            (λ u. let sum = total_set (λ (v : View F E). tickets_at u v.stage) s.views id (holding t k) w at in let once = r.apart u in omega arith)
            record {
              charged = (record { listed = mine.listed; same = mine.same; begins = subst (λ (l : List E). Begins l (h ++ e ∷ [])) (sym whole) (begins_itself (h ++ e ∷ [])); mine = ap (own caller k.caller) (sym whole) }, tt);
              heard = tt;
              staged = tt;
            }
            (λ j u other there. let theirs = r.knows j u there in record {
              charged = all_charged_more r.fixed_part h e u.charges (no_charge j u other there) theirs.charged;
              heard = all_begin_more h e u.heard theirs.heard;
              staged = staged_on r.out n h e u.charges u.stage some_out (subst (λ (z : ℕ). tickets_at z u.stage ≡ 0) known.staged.1 (alone.2 j u other there)) theirs.staged;
            })
            (each-append (λ a. Contains callers (caller a)) h (e ∷ []) r.known (subst (Contains callers) (sym by) mine.listed, tt))
            (subst (λ (z : F × List E). legal z.0 z.1) (λ i. ((same ∙ mine.same) i, whole i)) law)
            (inl record { value = x; there = one_place s.homes (some (Some x)) wide; is = record { good = good; same = same ∙ mine.same; all = whole } })),
        refl,
      )

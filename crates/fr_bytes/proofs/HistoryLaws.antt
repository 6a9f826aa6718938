-- Fronts, own entries and turns of a history, and the three laws about them.
use Rattle.std.proofs.Common.{◌≡◌, ◌≢◌, ℕ, ◌==◌, Bool, true, false, cond, eq-eqb, ne_eqb, List, [], ◌∷◌, ◌++◌}
use Rattle.std.proofs.Common.{sym, refl, ap, ◌∙◌, subst, append_assoc}
use Rattle.std.specs.Prelude.{fold}
use Rattle.std.specs.List.{scan, flat_map, AllByRecursion, Contains}
use Rattle.std.proofs.lemmas.List.{append-nil, append_cancel_left}
use Rattle.std.proofs.lemmas.Grind.{flat_map-append}
use Rattle.std.proofs.lemmas.List.Sums.{fold-append}
use Rattle.std.proofs.lemmas.List.Elements.{filter-append, recursion_from_All}
use Rattle.fr_bytes.specs.History.{Begins, own, turn_of, turns, TurnsGrow, TurnsStay, IsWhole}
use Rattle.fr_bytes.proofs.Lists.{scan-append}

module _ {E : Type 0} where
  pub begins_itself : (xs : List E) → Begins xs xs
  begins_itself xs = record { more = []; whole = sym (append-nil xs) }

  pub begins_more : (xs ys zs : List E) → Begins xs ys → Begins xs (ys ++ zs)
  begins_more xs ys zs b = record { more = b.more ++ zs; whole = ap (λ l. l ++ zs) b.whole ∙ append_assoc xs b.more zs }

  pub begins_then : (xs ys zs : List E) → Begins xs ys → Begins ys zs → Begins xs zs
  begins_then xs ys zs b c = subst (λ (l : List E). Begins xs l) (sym c.whole) (begins_more xs ys c.more b)

module _ {E : Type 0} (caller : E → ℕ) where
  pub own-append : (c : ℕ) (xs ys : List E) → own caller c (xs ++ ys) ≡ own caller c xs ++ own caller c ys
  own-append c xs ys = filter-append (λ e. caller e == c) xs ys

  pub own_one : (c : ℕ) (e : E) → caller e ≡ c → own caller c (e ∷ []) ≡ e ∷ []
  own_one c e is = ap (λ (b : Bool). cond b (e ∷ []) []) (eq-eqb (caller e) c is)

  pub own_other : (c : ℕ) (e : E) → caller e ≢ c → own caller c (e ∷ []) ≡ []
  own_other c e is = ap (λ (b : Bool). cond b (e ∷ []) []) (ne_eqb (caller e) c is)

  -- what follows a front with the same own entries has none
  pub own_none : (c : ℕ) (xs ys : List E) → own caller c (xs ++ ys) ≡ own caller c xs → own caller c ys ≡ []
  own_none c xs ys same =
      append_cancel_left (own caller c xs) (own caller c ys) []
      (sym (own-append c xs ys) ∙ (same ∙ sym (append-nil (own caller c xs))))

module _ {E L : Type 0} (caller : E → ℕ) (next : L → E → L) where
  pub turns-append : (start : L) (c : ℕ) (xs ys : List E)
      → turns caller next start c (xs ++ ys)
      ≡ turns caller next start c xs ++ turns caller next (fold next start xs) c ys
  turns-append start c xs ys =
      ap (flat_map (λ one. one)) (scan-append next (turn_of caller next c) start xs ys)
      ∙ flat_map-append (λ one. one) (scan next (turn_of caller next c) start xs)
      (scan next (turn_of caller next c) (fold next start xs) ys)

  -- entries of others are no turn
  pub no_turns : (start : L) (c : ℕ) (xs : List E) → own caller c xs ≡ [] → turns caller next start c xs ≡ []
  no_turns start c [] empty = refl
  no_turns start c (x ∷ xs) empty =
      elim (caller x == c) as (λ b. cond b (x ∷ own caller c xs) (own caller c xs) ≡ []
      → cond b (record { call = x; left = next start x } ∷ []) [] ++ turns caller next (next start x) c xs ≡ []) [
        | true ↦ λ e. cc
        | false ↦ λ e. no_turns (next start x) c xs e
      ] empty

  pub one_turn : (before : L) (c : ℕ) (e : E) → caller e ≡ c
      → turns caller next before c (e ∷ []) ≡ record { call = e; left = next before e } ∷ []
  one_turn before c e is =
      ap (λ (b : Bool). cond b (record { call = e; left = next before e } ∷ []) [] ++ []) (eq-eqb (caller e) c is)

  -- entries of others after a front add no turn
  pub turns_others : (start : L) (c : ℕ) (front others : List E) → own caller c others ≡ []
      → turns caller next start c (front ++ others) ≡ turns caller next start c front
  turns_others start c front others strangers =
      turns-append start c front others
      ∙ (ap (λ l. turns caller next start c front ++ l) (no_turns (fold next start front) c others strangers)
      ∙ append-nil (turns caller next start c front))

pub turns_grow : {E : Type 0} (caller : E → ℕ) (L : Type 0) → TurnsGrow caller L
turns_grow {E} caller L next start c front others e strangers by =
    let before : List E = front ++ others in
    let last : turns caller next (fold next start before) c (e ∷ [])
    ≡ record { call = e; left = fold next start (before ++ e ∷ []) } ∷ [] =
    one_turn caller next (fold next start before) c e by
    ∙ ap (λ (l : L). record { call = e; left = l } ∷ []) (sym (fold-append next start before (e ∷ []))) in
    turns-append caller next start c before (e ∷ []) ∙ (λ i.
    turns_others caller next start c front others strangers i ++ last i)

pub turns_stay : {E : Type 0} (caller : E → ℕ) (L : Type 0) → TurnsStay caller L
turns_stay caller L next start c front history begins same =
    ap (turns caller next start c) begins.whole
    ∙ turns_others caller next start c front begins.more
    (own_none caller c front begins.more (ap (own caller c) (sym begins.whole) ∙ same))

-- an entry of a caller that has no more of its own does not come
whole_at : {E : Type 0} (caller : E → ℕ) (callers : List ℕ) (front more : List E)
    → ((c : ℕ) → Contains callers c → own caller c (front ++ more) ≡ own caller c front)
    → AllByRecursion (λ e. Contains callers (caller e)) more → more ≡ []
whole_at caller callers front [] same known = refl
whole_at caller callers front (e ∷ more) same known =
    let more_none = own_none caller (caller e) front (e ∷ more) (same (caller e) known.0) in
    let first : own caller (caller e) (e ∷ more) ≡ e ∷ own caller (caller e) more =
    ap (λ (b : Bool). cond b (e ∷ own caller (caller e) more) (own caller (caller e) more))
    (eq-eqb (caller e) (caller e) refl) in cc

each_after : {X : Type 0} (P : X → Type 0) (xs ys : List X) → AllByRecursion P (xs ++ ys) → AllByRecursion P ys
each_after P [] ys all = all
each_after P (x ∷ xs) ys all = each_after P xs ys all.1

pub whole : {E : Type 0} (caller : E → ℕ) → IsWhole caller
whole {E} caller callers front history begins same known =
    let each = subst (AllByRecursion (λ e. Contains callers (caller e))) begins.whole
    (recursion_from_All (λ e. Contains callers (caller e)) history known) in
    let none_more = whole_at caller callers front begins.more
    (λ c listed. ap (own caller c) (sym begins.whole) ∙ same c listed)
    (each_after (λ e. Contains callers (caller e)) front begins.more each) in
    begins.whole ∙ (ap (λ (l : List E). front ++ l) none_more ∙ append-nil front)

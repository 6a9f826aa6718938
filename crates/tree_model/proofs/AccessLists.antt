-- The laws of access lists: sets as lists whose users rise, the entry of greatest priority, and digests.
use Rattle.std.proofs.Common.{◌≡◌, ◌⊎◌, ℕ, zero, suc, ◌+◌, ◌<◌, ◌≤◌, Bool, true, false, cond, ltb, List, [], ◌∷◌, length, take, drop, Option, Some, None, get_or, refl, ap, sym, subst, ◌∙◌, inl, inr, add-one, arith}
use Rattle.std.specs.Prelude.{filter, slice_get, unwrap_or}
use Rattle.std.specs.List.{AllByRecursion}
use Rattle.std.proofs.lemmas.Bool.{lt-ltb, le-ltb}
use Rattle.tree_model.specs.declared.entry.Entry.{Entry}
use Rattle.tree_model.specs.AccessList.{IsRising, smaller, greater, is_above, greatest, top_of, node_text, set_digest_in, set_digest, dict}
use Rattle.fr_digest.specs.Digest.{Digest, IsDigest}

-- ---- lists of entries

-- what holds of each holds of the one at a place
pub at_place : (P : Entry → Type 0) (es : List Entry) (k : ℕ) (t : Entry) → AllByRecursion P es → slice_get es k ≡ Some t → P t
at_place P [] k t all at = absurd cc
at_place P (e ∷ es) zero t all at = let same : e ≡ t = cc in subst P same all.0
at_place P (e ∷ es) (suc k) t all at = at_place P es k t all.1 at

pub All-take : (P : Entry → Type 0) (k : ℕ) (es : List Entry) → AllByRecursion P es → AllByRecursion P (take k es)
All-take P zero es all = tt
All-take P (suc k) [] all = tt
All-take P (suc k) (e ∷ es) all = (all.0, All-take P k es all.1)

pub rising-take : (k : ℕ) (es : List Entry) → IsRising es → IsRising (take k es)
rising-take zero es h = tt
rising-take (suc k) [] h = tt
rising-take (suc k) (e ∷ es) h = (All-take (λ (x : Entry). e.user < x.user) k es h.0, rising-take k es h.1)

pub rising-drop : (k : ℕ) (es : List Entry) → IsRising es → IsRising (drop k es)
rising-drop zero es h = h
rising-drop (suc k) [] h = tt
rising-drop (suc k) (e ∷ es) h = rising-drop k es h.1

-- ---- smaller and greater users

pub smaller-none : (user : ℕ) (es : List Entry) → AllByRecursion (λ (x : Entry). user < x.user) es → smaller user es ≡ []
smaller-none user [] all = refl
smaller-none user (e ∷ es) all = let above : user ≤ e.user = omega (arith, all.0) in rw (le-ltb e.user user above) (smaller-none user es all.1)

pub greater-all : (user : ℕ) (es : List Entry) → AllByRecursion (λ (x : Entry). user < x.user) es → greater user es ≡ es
greater-all user [] all = refl
greater-all user (e ∷ es) all = rw (lt-ltb user e.user all.0) (ap (λ (xs : List Entry). e ∷ xs) (greater-all user es all.1))

pub smaller-take : (es : List Entry) (k : ℕ) (t : Entry) → IsRising es → slice_get es k ≡ Some t → smaller t.user es ≡ take k es
smaller-take [] k t h at = absurd cc
smaller-take (e ∷ es) zero t h at =
    let same : e ≡ t = cc in
    let self : ltb e.user e.user ≡ false = le-ltb e.user e.user (omega arith) in
    subst (λ (x : Entry). smaller x.user (e ∷ es) ≡ []) same (rw self (smaller-none e.user es h.0))
smaller-take (e ∷ es) (suc k) t h at =
    let less : e.user < t.user = at_place (λ (x : Entry). e.user < x.user) es k t h.0 at in
    rw (lt-ltb e.user t.user less) (ap (λ (xs : List Entry). e ∷ xs) (smaller-take es k t h.1 at))

pub greater-drop : (es : List Entry) (k : ℕ) (t : Entry) → IsRising es → slice_get es k ≡ Some t → greater t.user es ≡ drop (suc k) es
greater-drop [] k t h at = absurd cc
greater-drop (e ∷ es) zero t h at =
    let same : e ≡ t = cc in
    let self : ltb e.user e.user ≡ false = le-ltb e.user e.user (omega arith) in
    subst (λ (x : Entry). greater x.user (e ∷ es) ≡ es) same (rw self (greater-all e.user es h.0))
greater-drop (e ∷ es) (suc k) t h at =
    let less : e.user < t.user = at_place (λ (x : Entry). e.user < x.user) es k t h.0 at in
    rw (le-ltb t.user e.user (omega arith)) (greater-drop es k t h.1 at)

-- ---- the entry of greatest priority

abbrev pub Among : Entry → List Entry → Type 0
Among x [] = ⊥
Among x (e ∷ es) = (x ≡ e) ⊎ Among x es

pub greatest-among : (best : Entry) (es : List Entry) → Among (greatest best es) (best ∷ es)
unfolding greatest
greatest-among best [] = inl refl
greatest-among best (e ∷ es) =
    elim (is_above e.user best.user) as (λ b. Among (greatest (cond b e best) es) (best ∷ (e ∷ es))) [
      | true ↦ inr (greatest-among e es)
      | false ↦ elim (greatest-among best es) [ inl same ↦ inl same | inr later ↦ inr (inr later) ]
    ]

filter-below : (p : Entry → Bool) (es : List Entry) → length (filter p es) ≤ length es
filter-below p [] = omega arith
filter-below p (e ∷ es) =
    let others = filter-below p es in
    elim (p e) as (λ b. length (cond b (e ∷ filter p es) (filter p es)) ≤ suc (length es)) [ true ↦ omega arith | false ↦ omega arith ]

filter-less : (p : Entry → Bool) (x : Entry) (es : List Entry) → Among x es → p x ≡ false → length (filter p es) < length es
filter-less p x [] among fails = absurd among
filter-less p x (e ∷ es) (inl same) fails =
    let here : p e ≡ false = rw (← same) fails in
    let others = filter-below p es in
    rw here (omega arith)
filter-less p x (e ∷ es) (inr later) fails =
    let others = filter-less p x es later fails in
    elim (p e) as (λ b. length (cond b (e ∷ filter p es) (filter p es)) < suc (length es)) [ true ↦ omega arith | false ↦ omega arith ]

pub smaller-fewer : (e : Entry) (es : List Entry) → length (smaller (greatest e es).user (e ∷ es)) ≤ length es
smaller-fewer e es =
    let top = greatest e es in
    let self : ltb top.user top.user ≡ false = le-ltb top.user top.user (omega arith) in
    let fewer : length (smaller top.user (e ∷ es)) < suc (length es) = filter-less (λ (x : Entry). ltb x.user top.user) top (e ∷ es) (greatest-among e es) self in
    omega arith

pub greater-fewer : (e : Entry) (es : List Entry) → length (greater (greatest e es).user (e ∷ es)) ≤ length es
greater-fewer e es =
    let top = greatest e es in
    let self : ltb top.user top.user ≡ false = le-ltb top.user top.user (omega arith) in
    let fewer : length (greater top.user (e ∷ es)) < suc (length es) = filter-less (λ (x : Entry). ltb top.user x.user) top (e ∷ es) (greatest-among e es) self in
    omega arith

-- ---- digests

set_digest-enough : (d : Digest) (n m : ℕ) (es : List Entry) → length es ≤ n → length es ≤ m → set_digest_in d n es ≡ set_digest_in d m es
unfolding set_digest_in
set_digest-enough d zero zero es p q = refl
set_digest-enough d zero (suc m) [] p q = refl
set_digest-enough d zero (suc m) (e ∷ es) p q = absurd (omega arith)
set_digest-enough d (suc n) zero [] p q = refl
set_digest-enough d (suc n) zero (e ∷ es) p q = absurd (omega arith)
set_digest-enough d (suc n) (suc m) [] p q = refl
set_digest-enough d (suc n) (suc m) (e ∷ es) p q =
    let few = smaller-fewer e es in
    let few' = greater-fewer e es in
    let left = set_digest-enough d n m (smaller (greatest e es).user (e ∷ es)) (omega arith) (omega arith) in
    let right = set_digest-enough d n m (greater (greatest e es).user (e ∷ es)) (omega arith) (omega arith) in
    ap (λ (l : Option (List ℕ)). Some (d (node_text (greatest e es) l (set_digest_in d n (greater (greatest e es).user (e ∷ es)))))) left
    ∙ ap (λ (r : Option (List ℕ)). Some (d (node_text (greatest e es) (set_digest_in d m (smaller (greatest e es).user (e ∷ es))) r))) right

-- The digest of a set: its entry of greatest priority over the sets of smaller and of greater users.
pub set_digest-cons : (d : Digest) (e : Entry) (es : List Entry) → set_digest d (e ∷ es) ≡ Some (d (node_text (greatest e es) (set_digest d (smaller (greatest e es).user (e ∷ es))) (set_digest d (greater (greatest e es).user (e ∷ es)))))
unfolding set_digest set_digest_in
set_digest-cons d e es =
    let few = smaller-fewer e es in
    let few' = greater-fewer e es in
    let left = set_digest-enough d (length es) (length (smaller (greatest e es).user (e ∷ es))) (smaller (greatest e es).user (e ∷ es)) few (omega arith) in
    let right = set_digest-enough d (length es) (length (greater (greatest e es).user (e ∷ es))) (greater (greatest e es).user (e ∷ es)) few' (omega arith) in
    ap (λ (l : Option (List ℕ)). Some (d (node_text (greatest e es) l (set_digest_in d (length es) (greater (greatest e es).user (e ∷ es)))))) left
    ∙ ap (λ (r : Option (List ℕ)). Some (d (node_text (greatest e es) (set_digest_in d (length (smaller (greatest e es).user (e ∷ es))) (smaller (greatest e es).user (e ∷ es))) r))) right

pub set_digest-top : (d : Digest) (es : List Entry) (t : Entry) → top_of es ≡ Some t → set_digest d es ≡ Some (d (node_text t (set_digest d (smaller t.user es)) (set_digest d (greater t.user es))))
unfolding top_of
set_digest-top d [] t top = absurd cc
set_digest-top d (e ∷ es) t top =
    let same : greatest e es ≡ t = cc in
    subst (λ (x : Entry). set_digest d (e ∷ es) ≡ Some (d (node_text x (set_digest d (smaller x.user (e ∷ es))) (set_digest d (greater x.user (e ∷ es)))))) same (set_digest-cons d e es)

drop-next : (k : ℕ) (es : List Entry) → drop 1 (drop k es) ≡ drop (suc k) es
drop-next zero es = refl
drop-next (suc k) [] = refl
drop-next (suc k) (e ∷ es) = drop-next k es

-- the same of the list in two parts
pub set_digest-split : (d : Digest) (es : List Entry) (k : ℕ) (t : Entry) → IsRising es → slice_get es k ≡ Some t → top_of es ≡ Some t → set_digest d es ≡ Some (d (node_text t (set_digest d (take k es)) (set_digest d (drop 1 (drop k es)))))
set_digest-split d es k t h at top =
    set_digest-top d es t top
    ∙ ap (λ (xs : List Entry). Some (d (node_text t (set_digest d xs) (set_digest d (greater t.user es))))) (smaller-take es k t h at)
    ∙ ap (λ (xs : List Entry). Some (d (node_text t (set_digest d (take k es)) (set_digest d xs)))) (greater-drop es k t h at ∙ sym (drop-next k es))

-- ---- going over a list for its entry of greatest priority

pub top-begins : (e : Entry) (es : List Entry) → slice_get es 0 ≡ Some e → top_of es ≡ Some (greatest e (drop 1 es))
unfolding top_of
top-begins e [] at = absurd cc
top-begins e (x ∷ es) at = let same : x ≡ e = cc in ap (λ (y : Entry). Some (greatest y es)) same

pub greatest-step : (best e : Entry) (es : List Entry) (i : ℕ) → slice_get es i ≡ Some e → greatest best (drop i es) ≡ greatest (cond (is_above e.user best.user) e best) (drop (suc i) es)
unfolding greatest
greatest-step best e [] i at = absurd cc
greatest-step best e (x ∷ es) zero at = let same : x ≡ e = cc in ap (λ (y : Entry). greatest (cond (is_above y.user best.user) y best) es) same
greatest-step best e (x ∷ es) (suc i) at = greatest-step best e es i at

pub place-some : (es : List Entry) (k : ℕ) (d : Entry) → k < length es → slice_get es k ≡ Some (get_or es k d)
place-some [] k d lt = absurd (omega arith)
place-some (e ∷ es) zero d lt = refl
place-some (e ∷ es) (suc k) d lt = place-some es k d (omega arith)

pub greatest-takes : (whole : Option Entry) (best e : Entry) (es : List Entry) (i : ℕ) → slice_get es i ≡ Some e → is_above e.user best.user ≡ true → whole ≡ Some (greatest best (drop i es)) → whole ≡ Some (greatest e (drop (i + 1) es))
greatest-takes whole best e es i at above so_far =
    let step : greatest best (drop i es) ≡ greatest (cond (is_above e.user best.user) e best) (drop (suc i) es) = greatest-step best e es i at in
    rw add-one (so_far ∙ ap (λ (x : Entry). Some x) (rw above at step))

pub greatest-keeps : (whole : Option Entry) (best e : Entry) (es : List Entry) (i : ℕ) → slice_get es i ≡ Some e → is_above e.user best.user ≡ false → whole ≡ Some (greatest best (drop i es)) → whole ≡ Some (greatest best (drop (i + 1) es))
greatest-keeps whole best e es i at above so_far =
    let step : greatest best (drop i es) ≡ greatest (cond (is_above e.user best.user) e best) (drop (suc i) es) = greatest-step best e es i at in
    rw add-one (so_far ∙ ap (λ (x : Entry). Some x) (rw above at step))

pub greatest-done : (whole : Option Entry) (best : Entry) (es : List Entry) (i : ℕ) → length es ≤ i → whole ≡ Some (greatest best (drop i es)) → whole ≡ Some best
unfolding greatest
greatest-done whole best [] zero le so_far = so_far
greatest-done whole best [] (suc i) le so_far = so_far
greatest-done whole best (e ∷ es) zero le so_far = absurd (omega arith)
greatest-done whole best (e ∷ es) (suc i) le so_far = greatest-done whole best es i (omega arith) so_far

pub set_digest-none : (d : Digest) (es : List Entry) → length es ≡ 0 → set_digest d es ≡ None
unfolding set_digest set_digest_in
set_digest-none d [] e = refl
set_digest-none d (x ∷ es) e = absurd (omega arith)

pub set_digest-some : (d : Digest) (es : List Entry) → 0 < length es → set_digest d es ≡ None → ⊥
set_digest-some d [] some none = omega arith
set_digest-some d (e ∷ es) some none = let is = sym (set_digest-cons d e es) ∙ none in cc

pub set_digest-parts : (d : Digest) (es : List Entry) (k : ℕ) (t : Entry) (left right : List Entry) (l r : Option (List ℕ)) (x : List ℕ) → IsRising es → slice_get es k ≡ Some t → top_of es ≡ Some t
    → left ≡ take k es → right ≡ drop 1 (drop k es) → l ≡ set_digest d left → r ≡ set_digest d right → x ≡ d (node_text t l r) → Some x ≡ set_digest d es
set_digest-parts d es k t left right l r x h at top left-is right-is l-is r-is x-is = rw (x-is, l-is, r-is, left-is, right-is) (sym (set_digest-split d es k t h at top))

pub length-dict : (d : Digest) → ((m : List ℕ) → IsDigest (d m)) → (es : List Entry) → 0 < length es → IsDigest (dict d es)
unfolding dict
length-dict d sized [] some = absurd (omega arith)
length-dict d sized (e ∷ es) some = let node = set_digest-cons d e es in rw node (sized _)

some_is : (x : Option (List ℕ)) → (x ≡ None → ⊥) → x ≡ Some (unwrap_or x [])
some_is None some = absurd (some refl)
some_is (Some y) some = refl

-- the digest of a set that isn't empty is that of the access list
pub set_digest-dict : (d : Digest) (es : List Entry) → 0 < length es → set_digest d es ≡ Some (dict d es)
unfolding dict
set_digest-dict d es some = some_is (set_digest d es) (set_digest-some d es some)

-- Members of lists of entries: a list whose users rise is known by its members, and by its look-ups.
use Rattle.std.proofs.Common.{◌≡◌, ◌≢◌, ℕ, zero, suc, ◌<◌, Bool, true, false, cond, List, [], ◌∷◌, ◌++◌, length, get_or, Some, None, refl, ap, sym, subst, ◌∙◌, inl, inr, arith}
use Rattle.std.specs.Prelude.{◌↔◌, filter}
use Rattle.std.specs.List.{AllByRecursion, Contains}
use Rattle.std.proofs.lemmas.Bool.{cases_eq, eq-eqb, ne_eqb}
use Rattle.fr_digest.specs.Digest.{Digest}
use Rattle.tree_model.specs.declared.entry.Entry.{Entry}
use Rattle.tree_model.specs.AccessList.{IsRising, entry_of, set_digest}
use Rattle.tree_model.proofs.AccessLists.{Among}

-- what holds of each entry holds of a member
pub All-among : (P : Entry → Type 0) (es : List Entry) (x : Entry) → AllByRecursion P es → Among x es → P x
All-among P [] x all among = absurd among
All-among P (e ∷ es) x all (inl same) = rw same all.0
All-among P (e ∷ es) x all (inr later) = All-among P es x all.1 later

among-at : (es : List Entry) (x : Entry) (k : ℕ) → k < length es → get_or es k x ≡ x → Among x es
among-at [] x k within at = absurd (omega arith)
among-at (e ∷ es) x zero within at = inl (sym at)
among-at (e ∷ es) x (suc k) within at = inr (among-at es x k (omega arith) at)

pub contains-among : (es : List Entry) (x : Entry) → Contains es x → Among x es
contains-among es x place = among-at es x place.0 place.1 place.2

pub among-contains : (es : List Entry) (x : Entry) → Among x es → Contains es x
among-contains [] x among = absurd among
among-contains (e ∷ es) x (inl same) = (0, omega arith, sym same)
among-contains (e ∷ es) x (inr later) = let place = among-contains es x later in (suc place.0, (let less = place.1 in omega arith), place.2)

pub All-from_among : (P : Entry → Type 0) (es : List Entry) → ((x : Entry) → Among x es → P x) → AllByRecursion P es
All-from_among P [] each = tt
All-from_among P (e ∷ es) each = (each e (inl refl), All-from_among P es (λ x among. each x (inr among)))

-- a rising list has one entry for each user
pub among-user : (es : List Entry) (x y : Entry) → IsRising es → Among x es → Among y es → x.user ≡ y.user → x ≡ y
among-user [] x y h xin yin same = absurd xin
among-user (e ∷ es) x y h (inl xe) (inl ye) same = xe ∙ sym ye
among-user (e ∷ es) x y h (inl xe) (inr later) same =
    let more = All-among (λ (z : Entry). e.user < z.user) es y h.0 later in
    let user = ap (λ (z : Entry). z.user) xe in
    absurd (omega arith)
among-user (e ∷ es) x y h (inr later) (inl ye) same =
    let more = All-among (λ (z : Entry). e.user < z.user) es x h.0 later in
    let user = ap (λ (z : Entry). z.user) ye in
    absurd (omega arith)
among-user (e ∷ es) x y h (inr xlater) (inr ylater) same = among-user es x y h.1 xlater ylater same

-- ---- members of parts

pub among-filter : (p : Entry → Bool) (es : List Entry) (x : Entry) → Among x es → p x ≡ true → Among x (filter p es)
among-filter p [] x among passes = absurd among
among-filter p (e ∷ es) x (inl same) passes = let here : p e ≡ true = rw (← same) passes in rw here (inl same)
among-filter p (e ∷ es) x (inr later) passes =
    let others = among-filter p es x later passes in
    elim (p e) as (λ b. Among x (cond b (e ∷ filter p es) (filter p es))) [ true ↦ inr others | false ↦ others ]

pub among-append_left : (xs ys : List Entry) (x : Entry) → Among x xs → Among x (xs ++ ys)
among-append_left [] ys x among = absurd among
among-append_left (e ∷ xs) ys x (inl same) = inl same
among-append_left (e ∷ xs) ys x (inr later) = inr (among-append_left xs ys x later)

pub among-append_right : (xs ys : List Entry) (x : Entry) → Among x ys → Among x (xs ++ ys)
among-append_right [] ys x among = among
among-append_right (e ∷ xs) ys x among = inr (among-append_right xs ys x among)

-- ---- members and look-ups

pub entry_of-among : (es : List Entry) (u : ℕ) (e : Entry) → entry_of es u ≡ Some e → Among e es × (e.user ≡ u)
entry_of-among [] u e found = absurd cc
entry_of-among (x ∷ es) u e found = elim (cases_eq x.user u) [
  | inl same ↦ let it : Some x ≡ Some e = rw (eq-eqb x.user u same) at found in let is : x ≡ e = cc in (inl (sym is), rw (← is) same)
  | inr other ↦ let later = entry_of-among es u e (rw (ne_eqb x.user u other) at found) in (inr later.0, later.1)
]

pub among-entry_of : (es : List Entry) (e : Entry) → IsRising es → Among e es → entry_of es e.user ≡ Some e
among-entry_of [] e h among = absurd among
among-entry_of (x ∷ es) e h (inl same) =
    let user = ap (λ (z : Entry). z.user) same in
    rw (eq-eqb x.user e.user (sym user)) (ap (λ (z : Entry). Some z) (sym same))
among-entry_of (x ∷ es) e h (inr later) =
    let more = All-among (λ (z : Entry). x.user < z.user) es e h.0 later in
    rw (ne_eqb x.user e.user (λ is. omega arith)) (among-entry_of es e h.1 later)

-- In a list whose users rise a user's entry is the member with that user.
pub entry_of-exactly : (es : List Entry) (u : ℕ) (e : Entry) → IsRising es
    → (entry_of es u ≡ Some e) ↔ (Contains es e × (e.user ≡ u))
entry_of-exactly es u e h = (
  λ found. let it = entry_of-among es u e found in (among-contains es e it.0, it.1),
  λ is. subst (λ (v : ℕ). entry_of es v ≡ Some e) is.1 (among-entry_of es e h (contains-among es e is.0)),
)

-- nobody has the user where the look-up finds none
pub entry_of-nobody : (es : List Entry) (u : ℕ) (e : Entry) → IsRising es → entry_of es u ≡ None → Among e es
    → e.user ≢ u
entry_of-nobody es u e h none among = λ same. let found = among-entry_of es e h among in let none' : entry_of es e.user ≡ None = rw same none in absurd cc

-- ---- lists with the same members

-- the members of a rising list behind its first entry
among-behind : (x y : Entry) (xs ys : List Entry) → x ≡ y → AllByRecursion (λ (e : Entry). x.user < e.user) xs
    → ((e : Entry) → Among e (x ∷ xs) → Among e (y ∷ ys)) → (e : Entry) → Among e xs → Among e ys
among-behind x y xs ys first above inside e among = elim (inside e (inr among)) [
  | inl same ↦
      let greater = All-among (λ (z : Entry). x.user < z.user) xs e above among in
      let user = ap (λ (z : Entry). z.user) same in
      let first_user = ap (λ (z : Entry). z.user) first in
      absurd (omega arith)
  | inr later ↦ later
]

first-same : (x y : Entry) (xs ys : List Entry) → IsRising (x ∷ xs) → IsRising (y ∷ ys) → Among x (y ∷ ys)
    → Among y (x ∷ xs) → x ≡ y
first-same x y xs ys hx hy (inl same) there = same
first-same x y xs ys hx hy (inr later) (inl same) = sym same
first-same x y xs ys hx hy (inr later) (inr later') =
    let more = All-among (λ (e : Entry). y.user < e.user) ys x hy.0 later in
    let less = All-among (λ (e : Entry). x.user < e.user) xs y hx.0 later' in
    absurd (omega arith)

among-same : (xs ys : List Entry) → IsRising xs → IsRising ys → ((e : Entry) → Among e xs → Among e ys)
    → ((e : Entry) → Among e ys → Among e xs) → xs ≡ ys
among-same [] [] hx hy right left = refl
among-same [] (y ∷ ys) hx hy right left = absurd (left y (inl refl))
among-same (x ∷ xs) [] hx hy right left = absurd (right x (inl refl))
among-same (x ∷ xs) (y ∷ ys) hx hy right left =
    let first : x ≡ y = first-same x y xs ys hx hy (right x (inl refl)) (left y (inl refl)) in
    let others = among-same xs ys hx.1 hy.1 (among-behind x y xs ys first hx.0 right) (among-behind y x ys xs (sym first) hy.0 left) in
    ap (λ (e : Entry). e ∷ xs) first ∙ ap (λ (es : List Entry). y ∷ es) others

-- two rising lists with the same members are one
pub rising-same : (xs ys : List Entry) → IsRising xs → IsRising ys → ((e : Entry) → Contains xs e → Contains ys e)
    → ((e : Entry) → Contains ys e → Contains xs e) → xs ≡ ys
rising-same xs ys hx hy right left =
    among-same xs ys hx hy (λ e among. contains-among ys e (right e (among-contains xs e among))) (λ e among. contains-among xs e (left e (among-contains ys e among)))

among-looked_up : (xs ys : List Entry) → IsRising xs → ((u : ℕ) → entry_of xs u ≡ entry_of ys u) → (e : Entry)
    → Among e xs → Among e ys
among-looked_up xs ys h same e among = (entry_of-among ys e.user e (sym (same e.user) ∙ among-entry_of xs e h among)).0

-- two rising lists with the same look-ups are one
pub rising-looked_up : (xs ys : List Entry) → IsRising xs → IsRising ys → ((u : ℕ) → entry_of xs u ≡ entry_of ys u)
    → xs ≡ ys
rising-looked_up xs ys hx hy same = among-same xs ys hx hy (among-looked_up xs ys hx same) (among-looked_up ys xs hy (λ u. sym (same u)))

-- the digest of a list depends on the set alone
pub set_digest-same : (d : Digest) (xs ys : List Entry) → IsRising xs → IsRising ys
    → ((e : Entry) → Contains xs e → Contains ys e) → ((e : Entry) → Contains ys e → Contains xs e)
    → set_digest d xs ≡ set_digest d ys
set_digest-same d xs ys hx hy right left = ap (set_digest d) (rising-same xs ys hx hy right left)

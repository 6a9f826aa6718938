-- Who vouches from a position, and who does from the next one too.
use Rattle.std.proofs.Common.{◌≡◌, ℕ, suc, ◌+◌, ◌-◌, ◌<◌, ◌≤◌, Bool, true, false, not, ◌&&◌, ◌||◌, true≢false, ◌⊎◌, inl, inr, drop-drop, eq-or-lt_of_le, All, List, [], ◌∷◌, length, drop, map, filter, refl, sym, ap, ◌∙◌, arith}
use Rattle.std.specs.Prelude.{nat_eq}
use Rattle.std.specs.Set.{is_member, unique_keys, distinct_count}
use Rattle.std.specs.List.{IsDistinct, AllByRecursion}
use mir.Val.{bool_byte}
use Rattle.std.proofs.lemmas.Bool.{eqb-true}
use Rattle.std.proofs.lemmas.Cmp.{nat_eq_equiv}
use Rattle.std.proofs.lemmas.List.{at_drop_more, at_drop_all}
use Rattle.std.proofs.lemmas.List.Filters.{length-filter_both}
use Rattle.std.proofs.lemmas.Map.Made.{is_member-filter, length-from_keys}
use Rattle.vouch_rule.specs.declared.vouch.Vouch.{Vouch}
use Rattle.vouch_rule.specs.Vouching.{covers, authors_from, vouchers, IsVouched}
use Rattle.vouch_rule.specs.Counting.{is_voucher, is_new_vouch}
use Rattle.vouch_rule.proofs.Counts.{voucher-member}

-- how many operations are new vouches from m
pub new_count : ℕ → List Vouch → List Vouch → ℕ
new_count m all [] = 0
new_count m all (o ∷ ops) = bool_byte (is_new_vouch m all (o ∷ ops)) + new_count m all ops

pub new_count-more : (m : ℕ) (all ops : List Vouch) (i : ℕ) → i < length ops
    → new_count m all (drop i ops) ≡ bool_byte (is_new_vouch m all (drop i ops)) + new_count m all (drop (i + 1) ops)
unfolding new_count
new_count-more m all ops i h =
    let d : Vouch = record { author = 0; size = 0 } in
    rw (at_drop_more (new_count m all) ops i d h, at_drop_more (is_new_vouch m all) ops i d h) refl

pub new_count-none : (m : ℕ) (all ops : List Vouch) (i : ℕ) → length ops ≤ i → new_count m all (drop i ops) ≡ 0
unfolding new_count
new_count-none m all ops i h = at_drop_all (new_count m all) ops i h

pub new_count-le : (m : ℕ) (all ops : List Vouch) → new_count m all ops ≤ length ops
unfolding new_count
new_count-le m all [] = omega arith
new_count-le m all (o ∷ ops) = by (is_new_vouch m all (o ∷ ops)) (new_count-le m all ops)
  where
    by : (b : Bool) → new_count m all ops ≤ length ops → bool_byte b + new_count m all ops ≤ suc (length ops)
    by true r = omega arith
    by false r = omega arith

-- ---- users, each once

abbrev member : List ℕ → ℕ → Bool
member = is_member nat_eq

abbrev unique : List ℕ → List ℕ
unique = unique_keys nat_eq

-- those that aren't in the first list
abbrev fresh : List ℕ → List ℕ → List ℕ
fresh past xs = filter (λ x. not (member past x)) xs

-- who vouches from the next position, vouches from m
covers-more : (m : ℕ) (o : Vouch) → covers (m + 1) o ≡ true → covers m o ≡ true
covers-more m o h = grind arith

-- an operation that covers m and not exactly m covers m + 1
covers-next : (m : ℕ) (o : Vouch) → covers m o ≡ true → nat_eq o.size m ≡ false → covers (m + 1) o ≡ true
covers-next m o h n = grind arith

voucher-first : (m : ℕ) (o : Vouch) (ops : List Vouch) → covers m o ≡ true → is_voucher m (o ∷ ops) o.author ≡ true
voucher-first m o ops h = rw (h, nat_eq_equiv.refl o.author) refl

voucher-behind : (m : ℕ) (o : Vouch) (ops : List Vouch) (user : ℕ) → is_voucher m ops user ≡ true → is_voucher m (o ∷ ops) user ≡ true
voucher-behind m o ops user h = by (covers m o && nat_eq user o.author)
  where
    by : (b : Bool) → (b || is_voucher m ops user) ≡ true
    by true = refl
    by false = h

voucher-more : (m : ℕ) (ops : List Vouch) (user : ℕ) → is_voucher (m + 1) ops user ≡ true → is_voucher m ops user ≡ true
voucher-more m [] user h = absurd cc
voucher-more m (o ∷ ops) user h = by (covers (m + 1) o) (nat_eq user o.author) refl refl h (voucher-more m ops user)
  where
    by : (b c : Bool) → covers (m + 1) o ≡ b → nat_eq user o.author ≡ c → (b && c || is_voucher (m + 1) ops user) ≡ true
        → (is_voucher (m + 1) ops user ≡ true → is_voucher m ops user ≡ true) → is_voucher m (o ∷ ops) user ≡ true
    by true true p q g r = rw (covers-more m o p, q) refl
    by true false p q g r = voucher-behind m o ops user (r g)
    by false c p q g r = voucher-behind m o ops user (r g)

-- what a part of the operations vouches for, all of them do
abbrev IsPart : ℕ → List Vouch → List Vouch → Type 0
IsPart m ops all = (user : ℕ) → is_voucher m ops user ≡ true → is_voucher m all user ≡ true

-- new vouches are the users that vouch from m and not from m + 1
new_count-fresh : (m : ℕ) (all ops : List Vouch) → IsPart (m + 1) ops all
    → new_count m all ops ≡ length (fresh (authors_from (m + 1) all) (unique (authors_from m ops)))
unfolding new_count
new_count-fresh m all [] part = refl
new_count-fresh m all (o ∷ ops) part =
    by (nat_eq o.size m) (covers m o) (is_voucher m ops o.author) (is_voucher (m + 1) all o.author) refl refl refl refl
    (voucher-member m ops o.author) (voucher-member (m + 1) all o.author)
    (new_count-fresh m all ops (λ user h. part user (voucher-behind (m + 1) o ops user h)))
  where
    by : (a b c e : Bool) → nat_eq o.size m ≡ a → covers m o ≡ b → is_voucher m ops o.author ≡ c → is_voucher (m + 1) all o.author ≡ e
        → is_voucher m ops o.author ≡ member (authors_from m ops) o.author → is_voucher (m + 1) all o.author ≡ member (authors_from (m + 1) all) o.author
        → new_count m all ops ≡ length (fresh (authors_from (m + 1) all) (unique (authors_from m ops)))
        → new_count m all (o ∷ ops) ≡ length (fresh (authors_from (m + 1) all) (unique (authors_from m (o ∷ ops))))
    by true true true e k p q r s t u = rw (k, p, q, sym s ∙ q) (omega (arith, u))
    by true true false true k p q r s t u = rw (k, p, q, r, sym s ∙ q, sym t ∙ r) (omega (arith, u))
    by true true false false k p q r s t u = rw (k, p, q, r, sym s ∙ q, sym t ∙ r, u) (omega arith)
    by true false c e k p q r s t u = rw (k, p) (omega (arith, u))
    by false true true e k p q r s t u = rw (k, p, sym s ∙ q) (omega (arith, u))
    by false true false true k p q r s t u = rw (k, p, sym s ∙ q, sym t ∙ r) (omega (arith, u))
    by false true false false k p q r s t u = absurd (true≢false (sym (part o.author (voucher-first (m + 1) o ops (covers-next m o p k))) ∙ r))
    by false false c e k p q r s t u = rw (k, p) (omega (arith, u))

-- ---- users that are apart

abbrev IsApart : ℕ → List ℕ → Type 0
IsApart x ys = AllByRecursion (λ y. nat_eq x y ≡ false) ys

apart-filter : (p : ℕ → Bool) (x : ℕ) (ys : List ℕ) → IsApart x ys → IsApart x (filter p ys)
apart-filter p x [] h = tt
apart-filter p x (y ∷ ys) h = by (p y) refl (apart-filter p x ys h.1)
  where
    by : (b : Bool) → p y ≡ b → IsApart x (filter p ys) → IsApart x (filter p (y ∷ ys))
    by true e r = rw e (h.0, r)
    by false e r = rw e r

distinct-filter : (p : ℕ → Bool) (xs : List ℕ) → IsDistinct nat_eq xs → IsDistinct nat_eq (filter p xs)
unfolding IsDistinct
distinct-filter p [] h = tt
distinct-filter p (x ∷ xs) h = by (p x) refl (distinct-filter p xs h.1)
  where
    by : (b : Bool) → p x ≡ b → IsDistinct nat_eq (filter p xs) → IsDistinct nat_eq (filter p (x ∷ xs))
    by true e r = rw e (apart-filter p x xs h.0, r)
    by false e r = rw e r

apart-absent : (x : ℕ) (ys : List ℕ) → member ys x ≡ false → IsApart x ys
apart-absent x [] h = tt
apart-absent x (y ∷ ys) h = by (nat_eq x y) refl h (apart-absent x ys)
  where
    by : (b : Bool) → nat_eq x y ≡ b → (b || member ys x) ≡ false → (member ys x ≡ false → IsApart x ys) → IsApart x (y ∷ ys)
    by true e h r = absurd (true≢false h)
    by false e h r = (e, r h)

member-unique : (xs : List ℕ) (q : ℕ) → member (unique xs) q ≡ member xs q
member-unique [] q = refl
member-unique (x ∷ xs) q = by (member xs x) (nat_eq q x) refl refl (member-unique xs q)
  where
    by : (b c : Bool) → member xs x ≡ b → nat_eq q x ≡ c → member (unique xs) q ≡ member xs q → member (unique (x ∷ xs)) q ≡ member (x ∷ xs) q
    by true true e f r = rw (e, f, r) (ap (member xs) (eqb-true q x f) ∙ e)
    by true false e f r = rw (e, f) r
    by false true e f r = rw (e, f) refl
    by false false e f r = rw (e, f) r

distinct-unique : (xs : List ℕ) → IsDistinct nat_eq (unique xs)
unfolding IsDistinct
distinct-unique [] = tt
distinct-unique (x ∷ xs) = by (member xs x) refl (distinct-unique xs)
  where
    by : (b : Bool) → member xs x ≡ b → IsDistinct nat_eq (unique xs) → IsDistinct nat_eq (unique (x ∷ xs))
    by true e r = rw e r
    by false e r = rw e (apart-absent x (unique xs) (member-unique xs x ∙ e), r)

-- ---- from one position to the one before it

and_false : (b : Bool) → (b && false) ≡ false
and_false true = refl
and_false false = refl

-- of those who vouch from m, those who vouch from m + 1 are all who do
past-members : (m : ℕ) (ops : List Vouch) (q : ℕ)
    → member (filter (member (authors_from (m + 1) ops)) (unique (authors_from m ops))) q ≡ member (authors_from (m + 1) ops) q
past-members m ops q =
    let past = authors_from (m + 1) ops in
    let all = authors_from m ops in
    is_member-filter nat_eq_equiv (member past) q (λ x e. ap (member past) (eqb-true q x e)) (unique all)
    ∙ ap (λ b. b && member past q) (member-unique all q) ∙ by (member past q) refl
  where
    by : (b : Bool) → member (authors_from (m + 1) ops) q ≡ b
        → (member (authors_from m ops) q && member (authors_from (m + 1) ops) q) ≡ member (authors_from (m + 1) ops) q
    by true e = rw (e, sym (voucher-member m ops q) ∙ voucher-more m ops q (voucher-member (m + 1) ops q ∙ e)) refl
    by false e = rw e (and_false (member (authors_from m ops) q))

pub vouchers-before : (m : ℕ) (ops : List Vouch) → new_count m ops ops + vouchers ops (m + 1) ≡ vouchers ops m
vouchers-before m ops =
    let past = authors_from (m + 1) ops in
    let users = unique (authors_from m ops) in
    let new = new_count-fresh m ops ops (λ user h. h) in
    let sum = length-filter_both (member past) (λ x. not (member past x)) (λ x. refl) users in
    let old = length-from_keys nat_eq_equiv (filter (member past) users) past (distinct-filter (member past) users (distinct-unique (authors_from m ops))) (past-members m ops) in
    omega (arith, new, sum, old)

covers-past : (m : ℕ) (o : Vouch) → o.size < m → covers m o ≡ false
covers-past m o h = grind arith

-- nobody vouches from a position past all sizes
pub none-past : (m : ℕ) (ops : List Vouch) → All (λ (o : Vouch). o.size < m) ops → vouchers ops m ≡ 0
none-past m ops h = ap (λ xs. distinct_count nat_eq (map (λ (o : Vouch). o.author) xs)) (none ops h)
  where
    none : (ops : List Vouch) → All (λ (o : Vouch). o.size < m) ops → filter (covers m) ops ≡ []
    none [] h = refl
    none (o ∷ ops) h = let first : covers m o ≡ false = covers-past m o (h 0 o (omega arith)) in rw first (none ops (λ k d lt. h (suc k) d (omega (arith, lt))))

-- ---- the positions, from the last one down

-- the place before a place, and its position
pub before : (ops : List Vouch) (have place : ℕ) → 0 < place → drop 1 (drop (place - 1) ops) ≡ drop place ops
before ops have place h =
    let e : place - 1 + 1 ≡ place = omega (arith, h) in
    drop-drop 1 (place - 1) ops ∙ ap (λ n. drop n ops) e

pub step : (ops rest : List Vouch) (have place from found new : ℕ) → 1 < place → found ≡ vouchers (drop place ops) (have + place)
    → rest ≡ drop (place - 1) ops → from ≡ have + (place - 1) → new + vouchers (drop 1 rest) (from + 1) ≡ vouchers rest from
    → found + new ≡ vouchers (drop (place - 1) ops) (have + (place - 1))
step ops rest have place from found new h e back at sum =
    let same : have + (place - 1) + 1 ≡ have + place = omega (arith, h) in
    let here = rw (back, at) at sum in
    let told = rw (before ops have place (omega (arith, h)), same) at here in
    omega (arith, told, e)

-- where no more than f users vouch from a position, and none past it is vouched, all that are vouched are below it
pub none-here : (ops : List Vouch) (have f place : ℕ) → 1 < place → vouchers (drop (place - 1) ops) (have + (place - 1)) ≤ f
    → ((m : ℕ) → IsVouched ops have f m → m < have + place) → (m : ℕ) → IsVouched ops have f m → m < have + (place - 1)
none-here ops have f place h few past m vouched = by (past m vouched) (eq-or-lt_of_le (omega (arith, past m vouched, h)))
  where
    by : m < have + place → (m ≡ have + (place - 1)) ⊎ (m < have + (place - 1)) → m < have + (place - 1)
    by lt (inr here) = here
    by lt (inl e) =
        let at : m - have ≡ place - 1 = omega (arith, e) in
        let more = rw (at, e) at vouched.1 in
        absurd (omega (arith, more, few))

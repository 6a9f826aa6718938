-- Lists of changes that are read from the oldest on, searches over slots, and the ancestors of a node.
use Rattle.std.proofs.Common.{◌≡◌, ℕ, zero, suc, ◌+◌, ◌-◌, ◌*◌, ◌/◌, ◌^◌, ◌<◌, ◌≤◌, Bool, true, false, ◌||◌, ◌&&◌, List, [], ◌∷◌, ◌++◌, Option, Some, None, length, get_or, take, reverse, refl, ap, sym, ◌∙◌, subst, arith}
use Rattle.std.specs.Prelude.{if◌then◌else◌, nat_eq}
use Rattle.std.specs.List.{filter_map, flat_map, cons_option, list_any}
use Rattle.std.specs.Option.{option_to_list}
use Rattle.std.proofs.lemmas.List.{take_more, reverse-append}
use Rattle.key_graph.specs.Slots.{any_below, least_below}
use Rattle.std.proofs.lemmas.Bool.{lt-ltb}
use Rattle.std.proofs.Common.{eq-eqb}
use Rattle.std.proofs.Math.Nat.{pow-suc, one-le-pow}
use Rattle.fr_bytes.specs.Bytes.{Text}
use Rattle.key_graph.specs.declared.change.Setting.{Setting}
use Rattle.key_graph.specs.declared.change.Change.{Change}
use Rattle.key_graph.specs.KeyTree.{ancestors, children, generation, has_member, inner_text, is_below, key_at, slot_node, wrap_at, wraps_above}

-- ---- lists

pub reverse_more : {X : Type 0} (xs : List X) (i : ℕ) (d : X) → i < length xs → reverse (take (i + 1) xs) ≡ get_or xs i d ∷ reverse (take i xs)
reverse_more xs i d h = rw (take_more xs i d h, reverse-append (take i xs) (get_or xs i d ∷ [])) refl

pub cons_option_is : {X : Type 0} (o : Option X) (xs : List X) → cons_option o xs ≡ option_to_list o ++ xs
cons_option_is None xs = refl
cons_option_is (Some x) xs = refl

-- ---- ancestors

pub ancestors_step : (k n : ℕ) → 0 < k → ancestors k n ≡ n / 2 ∷ ancestors (k - 1) (n / 2)
ancestors_step zero n h = absurd (omega arith)
ancestors_step (suc k) n h = let e : suc k - 1 ≡ k = omega arith in rw e refl

-- ---- searches

-- n is i and d more
beyond : (P : ℕ → Type 0) (i d : ℕ) → P (suc i) → ((m : ℕ) → i < m → P m → P (suc m)) → P (suc (d + i))
beyond P i zero p step = let e : suc (zero + i) ≡ suc i = omega arith in subst P (sym e) p
beyond P i (suc d) p step = let e : suc d + i ≡ suc (d + i) = omega arith in
    subst (λ m. P (suc m)) (sym e) (step (suc (d + i)) (omega arith) (beyond P i d p step))

past : (P : ℕ → Type 0) (i n : ℕ) → i < n → P (suc i) → ((m : ℕ) → i < m → P m → P (suc m)) → P n
past P i n h p step = let e : suc ((n - suc i) + i) ≡ n = omega arith in subst P e (beyond P i (n - suc i) p step)

-- the least number that passes is found, whatever comes behind it
pub least_found : (test : ℕ → Bool) (i n : ℕ) → i < n → least_below test i ≡ None → test i ≡ true → least_below test n ≡ Some i
least_found test i n h none passes =
    past (λ m. least_below test m ≡ Some i) i n h (rw (none, passes) refl) (λ m _ found. rw found refl)

pub least_more : (test : ℕ → Bool) (i : ℕ) → least_below test i ≡ None → test i ≡ false → least_below test (i + 1) ≡ None
least_more test i none fails = let e : i + 1 ≡ suc i = omega arith in rw (e, none, fails) refl

or_true : (b : Bool) → (b || true) ≡ true
or_true true = refl
or_true false = refl

pub any_found : (test : ℕ → Bool) (i n : ℕ) → i < n → test i ≡ true → any_below test n ≡ true
any_found test i n h passes =
    past (λ m. any_below test m ≡ true) i n h (rw passes (or_true (any_below test i))) (λ m _ found. rw found refl)

pub any_more : (test : ℕ → Bool) (i : ℕ) → any_below test i ≡ false → test i ≡ false → any_below test (i + 1) ≡ false
any_more test i none fails = let e : i + 1 ≡ suc i = omega arith in rw (e, none, fails) refl

pub both_true : {a b : Bool} → a ≡ true → b ≡ true → (a && b) ≡ true
both_true p q = rw (p, q) refl

-- ---- powers

pub pow_step : (k : ℕ) → 0 < k → 2 ^ k ≡ 2 * 2 ^ (k - 1)
pow_step zero h = absurd (omega arith)
pow_step (suc k) h = let e : suc k - 1 ≡ k = omega arith in rw (e, pow-suc 2 k) (omega arith)

-- a node with a level above it isn't the root
pub above_leaves : (k n : ℕ) → 0 < k → 2 ^ k ≤ n → 2 ≤ n
above_leaves k n h big =
    let one : 1 ≤ 2 ^ (k - 1) = one-le-pow (k - 1) 2 (omega arith) in
    let step : 2 ^ k ≡ 2 * 2 ^ (k - 1) = pow_step k h in omega arith

-- ---- keys and wraps

-- the new key of a node above the slot is its current one
pub key_above : (setting : Setting) (cs : List Change) (g x : ℕ) (key : Text) → x < 2 ^ setting.depth → generation setting.depth cs x ≡ g
    → key ≡ inner_text setting.master setting.wall x g
    → key_at setting cs x ≡ (if has_member setting.depth cs x then Some key else None)
unfolding key_at
key_above setting cs g x key h e k = rw (lt-ltb x (2 ^ setting.depth) h, e, k) refl

-- the wraps of a level, and those of the levels above
pub level : (setting : Setting) (cs : List Change) (g k n : ℕ) → 0 < k
    → wraps_above setting cs g k n ≡ option_to_list (wrap_at setting cs g (2 * (n / 2))) ++ (option_to_list (wrap_at setting cs g (2 * (n / 2) + 1)) ++ wraps_above setting cs g (k - 1) (n / 2))
level setting cs g k n h =
    let f = wrap_at setting cs g in
    let rest = flat_map children (ancestors (k - 1) (n / 2)) in
    rw (ancestors_step k n h)
    (cons_option_is (f (2 * (n / 2))) (filter_map f ((2 * (n / 2) + 1) ∷ rest))
    ∙ ap (λ ws. option_to_list (f (2 * (n / 2))) ++ ws) (cons_option_is (f (2 * (n / 2) + 1)) (filter_map f rest)))

-- the nodes above the slot of the last change have its generation
pub newest_above : (t : ℕ) (c : Change) (cs : List Change) (x : ℕ) → list_any (nat_eq x) (ancestors t (slot_node t c.slot)) ≡ true
    → generation t (c ∷ cs) x ≡ c.generation
unfolding is_below
newest_above t c cs x h = rw (h, or_true (nat_eq x (slot_node t c.slot))) refl

-- of the k nodes above n the first is n / 2, and the others are above that
pub first_above : (k n : ℕ) → 0 < k → list_any (nat_eq (n / 2)) (ancestors k n) ≡ true
first_above k n h = rw (ancestors_step k n h, eq-eqb (n / 2) (n / 2) refl) refl

pub others_above : (k n x : ℕ) → 0 < k → list_any (nat_eq x) (ancestors (k - 1) (n / 2)) ≡ true → list_any (nat_eq x) (ancestors k n) ≡ true
others_above k n x h a = rw (ancestors_step k n h, a) (or_true (nat_eq x (n / 2)))

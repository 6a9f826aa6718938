-- The nodes above a node.
use Rattle.std.proofs.Common.{◌≡◌, ℕ, zero, suc, ◌+◌, ◌*◌, ◌/◌, ◌^◌, ◌<◌, ◌≤◌, ◌⊎◌, inl, inr, Bool, true, false, ◌||◌, ◌∷◌, refl, ap, eq-eqb, arith}
use Rattle.std.specs.Prelude.{nat_eq}
use Rattle.std.specs.List.{list_any}
use Rattle.std.proofs.lemmas.Bool.{eqb-true, false≢true}
use Rattle.std.proofs.lemmas.Bool.Decides.{eqb_tells}
use Rattle.std.proofs.Math.Nat.{pow-suc, one-le-pow}
use Rattle.key_graph.specs.KeyTree.{ancestors, is_below, slot_node}

-- x is among the k nodes above n
abbrev pub Above : ℕ → ℕ → ℕ → Type 0
Above k n x = list_any (nat_eq x) (ancestors k n) ≡ true

-- x is n or above it
abbrev pub OnLine : ℕ → ℕ → ℕ → Type 0
OnLine k n x = list_any (nat_eq x) (n ∷ ancestors k n) ≡ true

pub or_cases : (a b : Bool) → (a || b) ≡ true → (a ≡ true) ⊎ (b ≡ true)
or_cases true b h = inl refl
or_cases false b h = inr h

pub or_right : (a : Bool) {b : Bool} → b ≡ true → (a || b) ≡ true
or_right true h = refl
or_right false h = h

pub first : (k n x : ℕ) → x ≡ n / 2 → Above (suc k) n x
first k n x e = rw (eq-eqb x (n / 2) e) refl

pub self : (k n x : ℕ) → x ≡ n → OnLine k n x
self k n x e = rw (eq-eqb x n e) refl

-- the first of the nodes above, or one above it
pub split : (k n x : ℕ) → Above (suc k) n x → (x ≡ n / 2) ⊎ Above k (n / 2) x
split k n x h = elim (or_cases (nat_eq x (n / 2)) (list_any (nat_eq x) (ancestors k (n / 2))) h) [ inl e ↦ inl (eqb-true x (n / 2) e) | inr e ↦ inr e ]

-- a node of the line, or n
pub line : (k n x : ℕ) → OnLine k n x → (x ≡ n) ⊎ Above k n x
line k n x h = elim (or_cases (nat_eq x n) (list_any (nat_eq x) (ancestors k n)) h) [ inl e ↦ inl (eqb-true x n e) | inr e ↦ inr e ]

pub lower : (k n x : ℕ) → Above k n x → x ≤ n / 2
lower zero n x h = absurd (false≢true h)
lower (suc k) n x h = elim (split k n x h) [ inl e ↦ omega arith | inr a ↦ (let b : x ≤ n / 2 / 2 = lower k (n / 2) x a in omega arith) ]

-- a node's parent is on its line
pub parent : (k n y : ℕ) → n < 2 * 2 ^ k → 2 ≤ y → OnLine k n y → Above k n (y / 2)
parent zero n y small two h = elim (line zero n y h) [ inl e ↦ absurd (omega arith) | inr a ↦ absurd (false≢true a) ]
parent (suc k) n y small two h =
    let half : n / 2 < 2 * 2 ^ k = (let e : 2 ^ suc k ≡ 2 ^ k * 2 = pow-suc 2 k in omega arith) in
    elim (line (suc k) n y h) [
      | inl e ↦ first k n (y / 2) (ap (λ m. m / 2) e)
      | inr a ↦ or_right (nat_eq (y / 2) (n / 2)) (parent k (n / 2) y half two a)
    ]

pub positive : (k n x : ℕ) → 2 ^ k ≤ n → Above k n x → 1 ≤ x
positive zero n x big h = absurd (false≢true h)
positive (suc k) n x big h =
    let e : 2 ^ suc k ≡ 2 ^ k * 2 = pow-suc 2 k in
    let half : 2 ^ k ≤ n / 2 = omega arith in
    let one : 1 ≤ 2 ^ k = one-le-pow k 2 (omega arith) in
    elim (split k n x h) [ inl f ↦ omega arith | inr a ↦ positive k (n / 2) x half a ]

-- the root is above each node of the tree
pub root : (k n : ℕ) → 0 < k → 2 ^ k ≤ n → n < 2 * 2 ^ k → Above k n 1
root zero n h low high = absurd (omega arith)
root (suc zero) n h low high = first zero n 1 (omega arith)
root (suc (suc k)) n h low high =
    let e : 2 ^ suc (suc k) ≡ 2 ^ suc k * 2 = pow-suc 2 (suc k) in
    or_right (nat_eq 1 (n / 2)) (root (suc k) (n / 2) (omega arith) (omega arith) (omega arith))

odd : (n x : ℕ) → x ≡ n / 2 → (2 * x ≡ n → ⊥) → 2 * x + 1 ≡ n
odd n x e f = omega arith

halves : (n x : ℕ) → x ≡ n / 2 → (2 * x ≡ n) ⊎ (2 * x + 1 ≡ n)
halves n x e = elim (eqb_tells (2 * x) n) [ inl a ↦ inl a.1 | inr a ↦ inr (odd n x e a.1) ]

-- one of a node's children is on the line
pub child : (k n x : ℕ) → Above k n x → OnLine k n (2 * x) ⊎ OnLine k n (2 * x + 1)
child zero n x h = absurd (false≢true h)
child (suc k) n x h = elim (split k n x h) [
  | inl e ↦ elim (halves n x e) [ inl f ↦ inl (self (suc k) n (2 * x) f) | inr f ↦ inr (self (suc k) n (2 * x + 1) f) ]
  | inr a ↦ elim (child k (n / 2) x a) [ inl b ↦ inl (or_right (nat_eq (2 * x) n) b) | inr b ↦ inr (or_right (nat_eq (2 * x + 1) n) b) ]
]

-- ---- slots of a tree of depth t

pub below_slot : (t s : ℕ) → is_below t (slot_node t s) s ≡ true
unfolding is_below
below_slot t s = self t (slot_node t s) (slot_node t s) refl

pub below_line : (t x s : ℕ) → is_below t x s ≡ true → OnLine t (slot_node t s) x
unfolding is_below
below_line t x s h = h

pub below_of : (t x s : ℕ) → OnLine t (slot_node t s) x → is_below t x s ≡ true
unfolding is_below
below_of t x s h = h

-- an inner node that a slot is below is above it
pub below_inner : (t x s : ℕ) → x < 2 ^ t → is_below t x s ≡ true → Above t (slot_node t s) x
below_inner t x s h b = elim (line t (slot_node t s) x (below_line t x s b)) [ inl e ↦ absurd (omega arith) | inr a ↦ a ]

pub above_below : (t x s : ℕ) → Above t (slot_node t s) x → is_below t x s ≡ true
above_below t x s a = below_of t x s (or_right (nat_eq x (slot_node t s)) a)

-- a slot's node is above no other slot
pub slot_alone : (t y s : ℕ) → s < 2 ^ t → 2 ^ t ≤ y → is_below t y s ≡ true → y ≡ 2 ^ t + s
slot_alone t y s h big b = elim (line t (slot_node t s) y (below_line t y s b)) [
  | inl e ↦ e
  | inr a ↦ (let l : y ≤ slot_node t s / 2 = lower t (slot_node t s) y a in absurd (omega arith))
]

pub inner : (t x s : ℕ) → s < 2 ^ t → Above t (slot_node t s) x → x < 2 ^ t
inner t x s h a = let l : x ≤ slot_node t s / 2 = lower t (slot_node t s) x a in omega arith

-- a parent is above the slots below its child
pub below_parent : (t y s : ℕ) → s < 2 ^ t → 2 ≤ y → is_below t y s ≡ true → is_below t (y / 2) s ≡ true
below_parent t y s h two b = above_below t (y / 2) s (parent t (slot_node t s) y (omega arith) two (below_line t y s b))

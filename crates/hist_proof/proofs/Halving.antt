-- The equations of the definitions that go by the halving of a list, at a height written as in the code.
use Rattle.std.proofs.Common.{◌≡◌, ℕ, zero, suc, ◌-◌, ◌^◌, ◌<◌, ◌≤◌, true, false, ◌&&◌, List, Option, Some, None, refl, sym, ◌∙◌, arith}
use Rattle.std.specs.Option.{option_map}
use Rattle.std.proofs.lemmas.Bool.{lt-ltb, le-ltb}
use Rattle.hist_proof.specs.Pruned.{Tree, hidden, leaf, node, single, fits_at, cut_at, cut_in, in_left}
use Rattle.hist_proof.specs.Shown.{shown_at}
use Rattle.hist_proof.proofs.Views.{tree_views}

-- ---- fits_at

pub fits_at-hidden : (j : ℕ) (x : List ℕ) (n : ℕ) → fits_at j (hidden x) n ≡ true
unfolding fits_at
fits_at-hidden zero x n = refl
fits_at-hidden (suc j) x n = refl

pub fits_at-leaf_low : (j : ℕ) (t : List ℕ) (n : ℕ) → j ≡ 0 → fits_at j (leaf t) n ≡ true
unfolding fits_at
fits_at-leaf_low zero t n low = refl
fits_at-leaf_low (suc j) t n low = absurd (omega arith)

pub fits_at-leaf_high : (j : ℕ) (t : List ℕ) (n : ℕ) → 0 < j → fits_at j (leaf t) n ≡ false
unfolding fits_at
fits_at-leaf_high zero t n high = absurd (omega arith)
fits_at-leaf_high (suc j) t n high = refl

pub fits_at-node_low : (j : ℕ) (l r : Tree) (n : ℕ) → j ≡ 0 → fits_at j (node l r) n ≡ false
unfolding fits_at
fits_at-node_low zero l r n low = refl
fits_at-node_low (suc j) l r n low = absurd (omega arith)

pub fits_at-single_low : (j : ℕ) (l : Tree) (n : ℕ) → j ≡ 0 → fits_at j (single l) n ≡ false
unfolding fits_at
fits_at-single_low zero l n low = refl
fits_at-single_low (suc j) l n low = absurd (omega arith)

pub fits_at-node : (j : ℕ) (l r : Tree) (n : ℕ) → 2 ^ j < n
    → fits_at (suc j) (node l r) n ≡ fits_at j l (2 ^ j) && fits_at j r (n - 2 ^ j)
unfolding fits_at
fits_at-node j l r n more = rw (lt-ltb (2 ^ j) n more) refl

pub fits_at-node_small : (j : ℕ) (l r : Tree) (n : ℕ) → n ≤ 2 ^ j → fits_at (suc j) (node l r) n ≡ false
unfolding fits_at
fits_at-node_small j l r n less = rw (le-ltb (2 ^ j) n less) refl

pub fits_at-single : (j : ℕ) (l : Tree) (n : ℕ) → n ≤ 2 ^ j → fits_at (suc j) (single l) n ≡ fits_at j l n
unfolding fits_at
fits_at-single j l n less = rw (le-ltb (2 ^ j) n less) refl

pub fits_at-single_big : (j : ℕ) (l : Tree) (n : ℕ) → 2 ^ j < n → fits_at (suc j) (single l) n ≡ false
unfolding fits_at
fits_at-single_big j l n more = rw (lt-ltb (2 ^ j) n more) refl

-- where the right half is what decides
pub fits_at-right : (j : ℕ) (l r : Tree) (n : ℕ) → 0 < j → 2 ^ (j - 1) < n
    → fits_at (j - 1) l (2 ^ (j - 1)) ≡ true → fits_at j (node l r) n ≡ fits_at (j - 1) r (n - 2 ^ (j - 1))
fits_at-right zero l r n high more left = absurd (omega arith)
fits_at-right (suc j) l r n high more left =
    let below : suc j - 1 ≡ j = omega arith in
    rw below (fits_at-node j l r n (rw below at more) ∙ rw (rw below at left) refl)

pub fits_at-left_not : (j : ℕ) (l r : Tree) (n : ℕ) → 0 < j → 2 ^ (j - 1) < n
    → fits_at (j - 1) l (2 ^ (j - 1)) ≡ false → fits_at j (node l r) n ≡ false
fits_at-left_not zero l r n high more left = absurd (omega arith)
fits_at-left_not (suc j) l r n high more left =
    let below : suc j - 1 ≡ j = omega arith in
    fits_at-node j l r n (rw below at more) ∙ rw (rw below at left) refl

pub fits_at-small_not : (j : ℕ) (l r : Tree) (n : ℕ) → 0 < j → n ≤ 2 ^ (j - 1) → fits_at j (node l r) n ≡ false
fits_at-small_not zero l r n high less = absurd (omega arith)
fits_at-small_not (suc j) l r n high less =
    let below : suc j - 1 ≡ j = omega arith in fits_at-node_small j l r n (rw below at less)

pub fits_at-single_left : (j : ℕ) (l : Tree) (n : ℕ) → 0 < j → n ≤ 2 ^ (j - 1)
    → fits_at j (single l) n ≡ fits_at (j - 1) l n
fits_at-single_left zero l n high less = absurd (omega arith)
fits_at-single_left (suc j) l n high less =
    let below : suc j - 1 ≡ j = omega arith in rw below (fits_at-single j l n (rw below at less))

pub fits_at-big_not : (j : ℕ) (l : Tree) (n : ℕ) → 0 < j → 2 ^ (j - 1) < n → fits_at j (single l) n ≡ false
fits_at-big_not zero l n high more = absurd (omega arith)
fits_at-big_not (suc j) l n high more =
    let below : suc j - 1 ≡ j = omega arith in fits_at-single_big j l n (rw below at more)

pub ruleset fits_steps = (tree_views, fits_at-hidden, fits_at-leaf_low, fits_at-leaf_high, fits_at-node_low, fits_at-single_low, fits_at-right, fits_at-left_not, fits_at-small_not, fits_at-single_left, fits_at-big_not)

-- ---- cut_at

pub cut_at-whole : (j : ℕ) (p : Tree) (n v : ℕ) → n ≤ v → cut_at j p n v ≡ Some p
unfolding cut_at
cut_at-whole zero p n v less = rw (le-ltb v n less) refl
cut_at-whole (suc j) (hidden x) n v less = rw (le-ltb v n less) refl
cut_at-whole (suc j) (leaf t) n v less = rw (le-ltb v n less) refl
cut_at-whole (suc j) (node l r) n v less = rw (le-ltb v n less) refl
cut_at-whole (suc j) (single l) n v less = rw (le-ltb v n less) refl

pub cut_at-low : (j : ℕ) (p : Tree) (n v : ℕ) → j ≡ 0 → v < n → cut_at j p n v ≡ None
unfolding cut_at
cut_at-low zero p n v low more = rw (lt-ltb v n more) refl
cut_at-low (suc j) p n v low more = absurd (omega arith)

pub cut_at-hidden : (j : ℕ) (x : List ℕ) (n v : ℕ) → v < n → cut_at j (hidden x) n v ≡ None
unfolding cut_at
cut_at-hidden zero x n v more = rw (lt-ltb v n more) refl
cut_at-hidden (suc j) x n v more = rw (lt-ltb v n more) refl

pub cut_at-leaf : (j : ℕ) (t : List ℕ) (n v : ℕ) → v < n → cut_at j (leaf t) n v ≡ None
unfolding cut_at
cut_at-leaf zero t n v more = rw (lt-ltb v n more) refl
cut_at-leaf (suc j) t n v more = rw (lt-ltb v n more) refl

pub cut_at-node_left : (j : ℕ) (l r : Tree) (n v : ℕ) → v < n → v ≤ 2 ^ j
    → cut_at (suc j) (node l r) n v ≡ option_map (λ c. single c) (cut_at j l (2 ^ j) v)
unfolding cut_at
cut_at-node_left j l r n v more low = rw (lt-ltb v n more, le-ltb (2 ^ j) v low) refl

pub cut_at-node_right : (j : ℕ) (l r : Tree) (n v : ℕ) → v < n → 2 ^ j < v
    → cut_at (suc j) (node l r) n v ≡ option_map (λ c. node l c) (cut_at j r (n - 2 ^ j) (v - 2 ^ j))
unfolding cut_at
cut_at-node_right j l r n v more high = rw (lt-ltb v n more, lt-ltb (2 ^ j) v high) refl

pub cut_at-single : (j : ℕ) (l : Tree) (n v : ℕ) → v < n
    → cut_at (suc j) (single l) n v ≡ option_map (λ c. single c) (cut_at j l n v)
unfolding cut_at
cut_at-single j l n v more = rw (lt-ltb v n more) refl

pub cut_at-left : (j : ℕ) (l r : Tree) (n v : ℕ) → 0 < j → v < n → v ≤ 2 ^ (j - 1)
    → cut_at j (node l r) n v ≡ option_map (λ c. single c) (cut_at (j - 1) l (2 ^ (j - 1)) v)
cut_at-left zero l r n v above more low = absurd (omega arith)
cut_at-left (suc j) l r n v above more low =
    let below : suc j - 1 ≡ j = omega arith in rw below (cut_at-node_left j l r n v more (rw below at low))

pub cut_at-right : (j : ℕ) (l r : Tree) (n v : ℕ) → 0 < j → v < n → 2 ^ (j - 1) < v
    → cut_at j (node l r) n v ≡ option_map (λ c. node l c) (cut_at (j - 1) r (n - 2 ^ (j - 1)) (v - 2 ^ (j - 1)))
cut_at-right zero l r n v above more high = absurd (omega arith)
cut_at-right (suc j) l r n v above more high =
    let below : suc j - 1 ≡ j = omega arith in rw below (cut_at-node_right j l r n v more (rw below at high))

pub cut_at-only : (j : ℕ) (l : Tree) (n v : ℕ) → 0 < j → v < n
    → cut_at j (single l) n v ≡ option_map (λ c. single c) (cut_at (j - 1) l n v)
cut_at-only zero l n v above more = absurd (omega arith)
cut_at-only (suc j) l n v above more =
    let below : suc j - 1 ≡ j = omega arith in rw below (cut_at-single j l n v more)

-- what is cut of all positions is the whole
pub cut_at-all : (j : ℕ) (p : Tree) (n v : ℕ) (c : Tree) → n ≤ v → cut_at j p n v ≡ Some c → p ≡ c
cut_at-all j p n v c all e = let whole = cut_at-whole j p n v all in cc

-- nothing is cut of a part of one position, or of a hidden one
pub cut_at-low_not : (p : Tree) (n v : ℕ) (c : Tree) → v < n → cut_at 0 p n v ≡ Some c → ⊥
cut_at-low_not p n v c more e = let none = cut_at-low 0 p n v refl more in cc

pub cut_at-hidden_not : (j : ℕ) (x : List ℕ) (n v : ℕ) (c : Tree) → v < n → cut_at j (hidden x) n v ≡ Some c → ⊥
cut_at-hidden_not j x n v c more e = let none = cut_at-hidden j x n v more in cc

pub cut_at-leaf_not : (j : ℕ) (t : List ℕ) (n v : ℕ) (c : Tree) → v < n → cut_at j (leaf t) n v ≡ Some c → ⊥
cut_at-leaf_not j t n v c more e = let none = cut_at-leaf j t n v more in cc

inverse : {A B : Type 0} (f : A → B) (o : Option A) (y : B) → option_map f o ≡ Some y
    → (x : A) × (o ≡ Some x) × (f x ≡ y)
inverse f None y e = absurd cc
inverse f (Some x) y e = (x, refl, cc)

-- what is cut of a node is a node over what is cut of one of its halves
pub cut_at-left_inv : (j : ℕ) (l r : Tree) (n v : ℕ) (c : Tree) → v < n → v ≤ 2 ^ j
    → cut_at (suc j) (node l r) n v ≡ Some c → (b : Tree) × (cut_at j l (2 ^ j) v ≡ Some b) × (single b ≡ c)
cut_at-left_inv j l r n v c more low e =
    inverse (λ b. single b) (cut_at j l (2 ^ j) v) c (sym (cut_at-node_left j l r n v more low) ∙ e)

pub cut_at-right_inv : (j : ℕ) (l r : Tree) (n v : ℕ) (c : Tree) → v < n → 2 ^ j < v
    → cut_at (suc j) (node l r) n v ≡ Some c
    → (b : Tree) × (cut_at j r (n - 2 ^ j) (v - 2 ^ j) ≡ Some b) × (node l b ≡ c)
cut_at-right_inv j l r n v c more high e =
    inverse (λ b. node l b) (cut_at j r (n - 2 ^ j) (v - 2 ^ j)) c (sym (cut_at-node_right j l r n v more high) ∙ e)

pub cut_at-single_inv : (j : ℕ) (l : Tree) (n v : ℕ) (c : Tree) → v < n → cut_at (suc j) (single l) n v ≡ Some c
    → (b : Tree) × (cut_at j l n v ≡ Some b) × (single b ≡ c)
cut_at-single_inv j l n v c more e = inverse (λ b. single b) (cut_at j l n v) c (sym (cut_at-single j l n v more) ∙ e)

-- ---- cut_in

pub cut_in-up : (j : ℕ) (p : Tree) (n v : ℕ) → 2 ^ j < v → cut_in (suc j) p n v ≡ cut_at (suc j) p n v
unfolding cut_in
cut_in-up j p n v high = rw (lt-ltb (2 ^ j) v high) refl

pub cut_in-down : (j : ℕ) (p : Tree) (n v : ℕ) → v ≤ 2 ^ j
    → cut_in (suc j) p n v ≡ in_left (λ l. cut_in j l (2 ^ j) v) p
unfolding cut_in
cut_in-down j p n v low = rw (le-ltb (2 ^ j) v low) refl

pub cut_in-low : (j : ℕ) (p : Tree) (n v : ℕ) → j ≡ 0 → cut_in j p n v ≡ cut_at j p n v
unfolding cut_in
cut_in-low zero p n v low = refl
cut_in-low (suc j) p n v low = absurd (omega arith)

pub cut_in-here : (j : ℕ) (p : Tree) (n v : ℕ) → 0 < j → 2 ^ (j - 1) < v → cut_in j p n v ≡ cut_at j p n v
unfolding cut_in
cut_in-here zero p n v above high = absurd (omega arith)
cut_in-here (suc j) p n v above high =
    let below : suc j - 1 ≡ j = omega arith in rw (lt-ltb (2 ^ j) v (rw below at high)) refl

pub cut_in-node : (j : ℕ) (l r : Tree) (n v : ℕ) → 0 < j → v ≤ 2 ^ (j - 1)
    → cut_in j (node l r) n v ≡ cut_in (j - 1) l (2 ^ (j - 1)) v
unfolding cut_in
cut_in-node zero l r n v above low = absurd (omega arith)
cut_in-node (suc j) l r n v above low =
    let below : suc j - 1 ≡ j = omega arith in rw (below, le-ltb (2 ^ j) v (rw below at low)) refl

pub cut_in-hidden : (j : ℕ) (x : List ℕ) (n v : ℕ) → 0 < j → v ≤ 2 ^ (j - 1) → cut_in j (hidden x) n v ≡ None
unfolding cut_in
cut_in-hidden zero x n v above low = absurd (omega arith)
cut_in-hidden (suc j) x n v above low =
    let below : suc j - 1 ≡ j = omega arith in rw (le-ltb (2 ^ j) v (rw below at low)) refl

pub cut_in-leaf : (j : ℕ) (t : List ℕ) (n v : ℕ) → 0 < j → v ≤ 2 ^ (j - 1) → cut_in j (leaf t) n v ≡ None
unfolding cut_in
cut_in-leaf zero t n v above low = absurd (omega arith)
cut_in-leaf (suc j) t n v above low =
    let below : suc j - 1 ≡ j = omega arith in rw (le-ltb (2 ^ j) v (rw below at low)) refl

pub cut_in-single : (j : ℕ) (l : Tree) (n v : ℕ) → 0 < j → v ≤ 2 ^ (j - 1) → cut_in j (single l) n v ≡ None
unfolding cut_in
cut_in-single zero l n v above low = absurd (omega arith)
cut_in-single (suc j) l n v above low =
    let below : suc j - 1 ≡ j = omega arith in rw (le-ltb (2 ^ j) v (rw below at low)) refl

-- ---- shown_at

pub shown_at-hidden : (j : ℕ) (x : List ℕ) (k : ℕ) → shown_at j (hidden x) k ≡ None
unfolding shown_at
shown_at-hidden zero x k = refl
shown_at-hidden (suc j) x k = refl

pub shown_at-leaf_low : (j : ℕ) (t : List ℕ) (k : ℕ) → j ≡ 0 → shown_at j (leaf t) k ≡ Some t
unfolding shown_at
shown_at-leaf_low zero t k low = refl
shown_at-leaf_low (suc j) t k low = absurd (omega arith)

pub shown_at-leaf_high : (j : ℕ) (t : List ℕ) (k : ℕ) → 0 < j → shown_at j (leaf t) k ≡ None
unfolding shown_at
shown_at-leaf_high zero t k above = absurd (omega arith)
shown_at-leaf_high (suc j) t k above = refl

pub shown_at-node_low : (j : ℕ) (l r : Tree) (k : ℕ) → j ≡ 0 → shown_at j (node l r) k ≡ None
unfolding shown_at
shown_at-node_low zero l r k low = refl
shown_at-node_low (suc j) l r k low = absurd (omega arith)

pub shown_at-single_low : (j : ℕ) (l : Tree) (k : ℕ) → j ≡ 0 → shown_at j (single l) k ≡ None
unfolding shown_at
shown_at-single_low zero l k low = refl
shown_at-single_low (suc j) l k low = absurd (omega arith)

pub shown_at-left : (j : ℕ) (l r : Tree) (k : ℕ) → 0 < j → k < 2 ^ (j - 1)
    → shown_at j (node l r) k ≡ shown_at (j - 1) l k
unfolding shown_at
shown_at-left zero l r k above low = absurd (omega arith)
shown_at-left (suc j) l r k above low =
    let below : suc j - 1 ≡ j = omega arith in rw (below, lt-ltb k (2 ^ j) (rw below at low)) refl

pub shown_at-right : (j : ℕ) (l r : Tree) (k : ℕ) → 0 < j → 2 ^ (j - 1) ≤ k
    → shown_at j (node l r) k ≡ shown_at (j - 1) r (k - 2 ^ (j - 1))
unfolding shown_at
shown_at-right zero l r k above high = absurd (omega arith)
shown_at-right (suc j) l r k above high =
    let below : suc j - 1 ≡ j = omega arith in rw (below, le-ltb k (2 ^ j) (rw below at high)) refl

pub shown_at-only : (j : ℕ) (l : Tree) (k : ℕ) → 0 < j → shown_at j (single l) k ≡ shown_at (j - 1) l k
unfolding shown_at
shown_at-only zero l k above = absurd (omega arith)
shown_at-only (suc j) l k above = let below : suc j - 1 ≡ j = omega arith in rw below refl

pub ruleset shown_steps = (tree_views, shown_at-hidden, shown_at-leaf_low, shown_at-leaf_high, shown_at-node_low, shown_at-single_low, shown_at-left, shown_at-right, shown_at-only)

pub ruleset cut_steps = (tree_views, cut_at-whole, cut_at-low, cut_at-hidden, cut_at-leaf, cut_at-left, cut_at-right, cut_at-only)

pub ruleset cut_in_steps = (tree_views, cut_in-low, cut_in-here, cut_in-node, cut_in-hidden, cut_in-leaf, cut_in-single)

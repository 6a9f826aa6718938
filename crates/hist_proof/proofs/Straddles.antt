-- There is a cut exactly where the version ends within no hidden part.
use Rattle.std.proofs.Common.{◌≡◌, ◌⊎◌, ℕ, zero, suc, ◌+◌, ◌-◌, ◌^◌, ◌<◌, ◌≤◌, Bool, true, false, ◌||◌, Option, Some, None, refl, ap, inl, inr, arith}
use Rattle.std.specs.Option.{option_map}
use Rattle.std.proofs.lemmas.Bool.{cases_lt, lt-ltb, le-ltb}
use Rattle.std.proofs.Math.Nat.{pow-suc}
use Rattle.std.proofs.Math.Pow.{pow-lt}
use Rattle.hist_proof.specs.Pruned.{Tree, hidden, leaf, node, single, cut_at, cut_in, fits_at}
use Rattle.hist_proof.specs.Shown.{is_within, straddled_at}
use Rattle.hist_proof.proofs.Fronts.{fits_node-is, fits_single-is}
use Rattle.hist_proof.proofs.Halving.{cut_at-hidden, cut_at-node_left, cut_at-node_right, cut_at-single, cut_at-whole, cut_in-down, cut_in-low, cut_in-up, fits_at-leaf_high}

within-past : (a n w : ℕ) → a + n ≤ w → is_within a n w ≡ false
within-past a n w past = elim (cases_lt a w) [
  | inl low ↦ rw (lt-ltb a w low, le-ltb w (a + n) past) refl
  | inr high ↦ rw (le-ltb a w high) refl
]

within-before : (a n w : ℕ) → w ≤ a → is_within a n w ≡ false
within-before a n w before = rw (le-ltb a w before) refl

-- a part that ends before a version isn't straddled by it
past : (j : ℕ) (p : Tree) (a n w : ℕ) → fits_at j p n ≡ true → a + n ≤ w → straddled_at j p a n w ≡ false
unfolding straddled_at
past zero (hidden x) a n w h le = within-past a n w le
past zero (leaf t) a n w h le = refl
past zero (node l r) a n w h le = refl
past zero (single l) a n w h le = refl
past (suc j) (hidden x) a n w h le = within-past a n w le
past (suc j) (leaf t) a n w h le = refl
past (suc j) (node l r) a n w h le =
    let parts = fits_node-is j l r n h in
    let more = parts.more in
    let left = past j l a (2 ^ j) w parts.left (omega arith) in
    let right = past j r (a + 2 ^ j) (n - 2 ^ j) w parts.right (omega arith) in
    rw (left, right) refl
past (suc j) (single l) a n w h le = past j l a n w (fits_single-is j l n h).left le

-- nor is one that begins at its end or after it
before : (j : ℕ) (p : Tree) (a n w : ℕ) → w ≤ a → straddled_at j p a n w ≡ false
unfolding straddled_at
before zero (hidden x) a n w le = within-before a n w le
before zero (leaf t) a n w le = refl
before zero (node l r) a n w le = refl
before zero (single l) a n w le = refl
before (suc j) (hidden x) a n w le = within-before a n w le
before (suc j) (leaf t) a n w le = refl
before (suc j) (node l r) a n w le =
    let left = before j l a (2 ^ j) w le in
    let right = before j r (a + 2 ^ j) (n - 2 ^ j) w (omega arith) in
    rw (left, right) refl
before (suc j) (single l) a n w le = before j l a n w le

-- there is none where the test holds, and one where it doesn't
abbrev pub Tells : Bool → Option Tree → Type 0
Tells b o = ((b ≡ true) × (o ≡ None)) ⊎ ((b ≡ false) × ((c : Tree) × (o ≡ Some c)))

tells_map : (b : Bool) (f : Tree → Tree) (o : Option Tree) → Tells b o → Tells b (option_map f o)
tells_map b f o (inl none) = inl (none.0, ap (option_map f) none.1)
tells_map b f o (inr some) = inr (some.0, (f some.1.0, ap (option_map f) some.1.1))

tells_along : (b b' : Bool) (o o' : Option Tree) → b' ≡ b → o' ≡ o → Tells b o → Tells b' o'
tells_along b b' o o' same same' h = rw (same, same') h

tells_whole : (j : ℕ) (p : Tree) (a n v : ℕ) → fits_at j p n ≡ true → n ≤ v
    → Tells (straddled_at j p a n (a + v)) (cut_at j p n v)
tells_whole j p a n v h all = inr (past j p a n (a + v) h (omega arith), (p, cut_at-whole j p n v all))

or_false : (b : Bool) → b || false ≡ b
or_false true = refl
or_false false = refl

pub cut_at-tells : (j : ℕ) (p : Tree) (a n v : ℕ) → 0 < v → v ≤ n → n ≤ 2 ^ j → fits_at j p n ≡ true
    → Tells (straddled_at j p a n (a + v)) (cut_at j p n v)
unfolding straddled_at
cut_at-tells zero p a n v some within few h = tells_whole 0 p a n v h (omega arith)
cut_at-tells (suc j) (hidden x) a n v some within few h =
    elim (cases_lt v n) [
      | inl short ↦ inl (rw (lt-ltb a (a + v) (omega arith), lt-ltb (a + v) (a + n) (omega arith)) refl, cut_at-hidden (suc j) x n v short)
      | inr all ↦ tells_whole (suc j) (hidden x) a n v h all
    ]
cut_at-tells (suc j) (leaf t) a n v some within few h =
    let wrong = fits_at-leaf_high (suc j) t n (omega arith) in absurd cc
cut_at-tells (suc j) (node l r) a n v some within few h =
    let parts = fits_node-is j l r n h in
    let more = parts.more in
    elim (cases_lt v n) [
      | inl short ↦ elim (cases_lt (2 ^ j) v) [
        | inl high ↦
            let left = past j l a (2 ^ j) (a + v) parts.left (omega arith) in
            let place : a + v ≡ a + 2 ^ j + (v - 2 ^ j) = omega arith in
            let twice = pow-suc 2 j in
            let right = cut_at-tells j r (a + 2 ^ j) (n - 2 ^ j) (v - 2 ^ j) (omega arith) (omega arith) (omega arith) parts.right in
            tells_along _ _ _ _ (rw (left, place) refl) (cut_at-node_right j l r n v short high) (tells_map _ (λ c. node l c) _ right)
        | inr low ↦
            let right = before j r (a + 2 ^ j) (n - 2 ^ j) (a + v) (omega arith) in
            let left = cut_at-tells j l a (2 ^ j) v some low (omega arith) parts.left in
            tells_along _ _ _ _ (rw right (or_false _)) (cut_at-node_left j l r n v short low) (tells_map _ (λ c. single c) _ left)
      ]
      | inr all ↦ tells_whole (suc j) (node l r) a n v h all
    ]
cut_at-tells (suc j) (single l) a n v some within few h =
    let parts = fits_single-is j l n h in
    elim (cases_lt v n) [
      | inl short ↦ tells_along _ _ _ _ refl (cut_at-single j l n v short) (tells_map _ (λ c. single c) _ (cut_at-tells j l a n v some within parts.few parts.left))
      | inr all ↦ tells_whole (suc j) (single l) a n v h all
    ]

-- there are more positions than the left half of the height has
pub record IsHigh (j n : ℕ) : Type 0 where
  pub below : (i : ℕ) → i < j → 2 ^ i < n

half-high : (j : ℕ) → IsHigh j (2 ^ j)
half-high j = record { below = λ i less. pow-lt less }

pub cut_in-tells : (j : ℕ) (p : Tree) (n v : ℕ) → 0 < v → v ≤ n → n ≤ 2 ^ j → IsHigh j n → fits_at j p n ≡ true
    → Tells (straddled_at j p 0 n v) (cut_in j p n v)
unfolding straddled_at
cut_in-tells zero p n v some within few high h =
    let start : v ≡ 0 + v = omega arith in
    tells_along _ _ _ _ (ap (straddled_at 0 p 0 n) start) (cut_in-low 0 p n v refl) (cut_at-tells 0 p 0 n v some within few h)
cut_in-tells (suc j) (hidden x) n v some within few high h =
    let more = high.below j (omega arith) in
    elim (cases_lt (2 ^ j) v) [
      | inl up ↦
          let start : v ≡ 0 + v = omega arith in
          tells_along _ _ _ _ (ap (straddled_at (suc j) (hidden x) 0 n) start) (cut_in-up j (hidden x) n v up) (cut_at-tells (suc j) (hidden x) 0 n v some within few h)
      | inr low ↦ inl (rw (lt-ltb 0 v some, lt-ltb v (0 + n) (omega arith)) refl, cut_in-down j (hidden x) n v low)
    ]
cut_in-tells (suc j) (leaf t) n v some within few high h =
    let wrong = fits_at-leaf_high (suc j) t n (omega arith) in absurd cc
cut_in-tells (suc j) (node l r) n v some within few high h =
    let parts = fits_node-is j l r n h in
    elim (cases_lt (2 ^ j) v) [
      | inl up ↦
          let start : v ≡ 0 + v = omega arith in
          tells_along _ _ _ _ (ap (straddled_at (suc j) (node l r) 0 n) start) (cut_in-up j (node l r) n v up) (cut_at-tells (suc j) (node l r) 0 n v some within few h)
      | inr low ↦
          let right = before j r (0 + 2 ^ j) (n - 2 ^ j) v (omega arith) in
          tells_along _ _ _ _ (rw right (or_false _)) (cut_in-down j (node l r) n v low) (cut_in-tells j l (2 ^ j) v some low (omega arith) (half-high j) parts.left)
    ]
cut_in-tells (suc j) (single l) n v some within few high h =
    let parts = fits_single-is j l n h in
    let few' = parts.few in
    let more = high.below j (omega arith) in absurd (omega arith)

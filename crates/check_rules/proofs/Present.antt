-- What a partial list has: places in front of others, and the leaves of a tree as those of its positions.
use Rattle.std.proofs.Common.{◌≡◌, ℕ, zero, suc, ◌+◌, ◌-◌, ◌^◌, ◌<◌, ◌≤◌, Bool, true, false, not, ◌&&◌, cond, List, [], ◌∷◌, ◌++◌, length, take, drop, Option, Some, None, refl, sym, ap, ◌∙◌, append_assoc, arith}
use Rattle.std.specs.Prelude.{is_some, nat_lt, option_and_then, slice_get}
use mir.Val.{bool_byte}
use Rattle.std.specs.Option.{option_map}
use Rattle.std.proofs.lemmas.Bool.{ltb-true, ltb-false, lt-ltb, le-ltb}
use Rattle.std.proofs.lemmas.List.{length-append}
use Rattle.std.proofs.Math.Seq.{take-append_seam, drop-append_seam}
use Rattle.std.proofs.lemmas.Nat.{pow_pos}
use Rattle.std.proofs.Math.Nat.{pow-suc}
use Rattle.fr_bytes.specs.Bytes.{Text}
use Rattle.std.specs.List.{AllByRecursion}
use Rattle.op_types.specs.declared.op.Leaf.{Leaf}
use Rattle.op_types.specs.Spelling.{IsLeaf}
use Rattle.tree_model.specs.History.{depth}
use Rattle.tree_model.proofs.HistoryLaws.{depth-fits}
use Rattle.hist_proof.specs.Pruned.{Tree, hidden, leaf, node, single, fits, fits_at}
use Rattle.hist_proof.specs.Shown.{shown, shown_at}
use Rattle.hist_proof.proofs.Trees.{shown-is, shown-made}
use Rattle.check_rules.specs.Heard.{leaf_of, holds_leaves}
use Rattle.check_rules.specs.Shown.{leaf_shown, with_some, present, leaves_among, leaves_from, leaves_in, shows_among, anchor}

-- ---- what there is at so many places

pub present-same : {A : Type 0} (f g : ℕ → Option A) (k m n : ℕ) → ((i : ℕ) → i < n → f (k + i) ≡ g (m + i))
    → present f k n ≡ present g m n
unfolding present
present-same f g k m zero same = refl
present-same f g k m (suc n) same =
    ap (λ (o : Option _). with_some o (present f (k + 1) n)) (at-first f g k m (same 0 (omega arith)))
    ∙ ap (with_some (g m)) (present-same f g (k + 1) (m + 1) n (λ i lt. shifted f g k m i (same (i + 1)
    (omega arith))))
  where
    at-first : {A : Type 0} (f g : ℕ → Option A) (k m : ℕ) → f (k + 0) ≡ g (m + 0) → f k ≡ g m
    at-first f g k m e = let a : k ≡ k + 0 = omega arith in let b : m + 0 ≡ m = omega arith in ap f a ∙ e ∙ ap g b

    shifted : {A : Type 0} (f g : ℕ → Option A) (k m i : ℕ) → f (k + (i + 1)) ≡ g (m + (i + 1))
        → f (k + 1 + i) ≡ g (m + 1 + i)
    shifted f g k m i e = let a : k + 1 + i ≡ k + (i + 1) = omega arith in let b : m +
        (i + 1) ≡ m + 1 + i = omega arith in ap f a ∙ e ∙ ap g b

pub present-none : {A : Type 0} (f : ℕ → Option A) (k n : ℕ) → ((i : ℕ) → i < n → f (k + i) ≡ None)
    → present f k n ≡ []
unfolding present
present-none f k zero none = refl
present-none f k (suc n) none =
    ap (λ (o : Option _). with_some o (present f (k + 1) n)) (let a : k ≡ k + 0 = omega arith in ap f a
    ∙ none 0 (omega arith))
    ∙ present-none f (k + 1) n (λ i lt. let a : k + 1 + i ≡ k + (i + 1) = omega arith in ap f a
    ∙ none (i + 1) (omega arith))

with-append : {A : Type 0} (o : Option A) (xs ys : List A) → with_some o (xs ++ ys) ≡ with_some o xs ++ ys
with-append None xs ys = refl
with-append (Some x) xs ys = refl

pub present-append : {A : Type 0} (f : ℕ → Option A) (k a b : ℕ)
    → present f k (a + b) ≡ present f k a ++ present f (k + a) b
unfolding present
present-append f k zero b =
    let e : k ≡ k + 0 = omega arith in
    let z : 0 + b ≡ b = omega arith in
    ap (present f k) z ∙ ap (λ (n : ℕ). present f n b) e
present-append f k (suc a) b =
    let s : suc a + b ≡ suc (a + b) = omega arith in
    let e : k + 1 + a ≡ k + suc a = omega arith in
    ap (present f k) s ∙ ap (with_some (f k)) (present-append f (k + 1) a b)
    ∙ with-append (f k) (present f (k + 1) a) (present f (k + 1 + a) b)
    ∙ ap (λ (n : ℕ). with_some (f k) (present f (k + 1) a) ++ present f n b) e

present-one : {A : Type 0} (f : ℕ → Option A) (k : ℕ) → present f k 1 ≡ with_some (f k) []
unfolding present
present-one f k = refl

pub present-more : {A : Type 0} (f : ℕ → Option A) (k n : ℕ)
    → present f k (n + 1) ≡ present f k n ++ with_some (f (k + n)) []
present-more f k n = present-append f k n 1 ∙ ap (λ (xs : List _). present f k n ++ xs) (present-one f (k + n))

pub present-zero : {A : Type 0} (f : ℕ → Option A) (k : ℕ) → present f k 0 ≡ []
unfolding present
present-zero f k = refl

pub present-few : {A : Type 0} (f : ℕ → Option A) (k n : ℕ) → length (present f k n) ≤ n
unfolding present
present-few f k zero = omega arith
present-few f k (suc n) = by (f k) (present-few f (k + 1) n)
  where
    by : (o : Option _) → length (present f (k + 1) n) ≤ n → length (with_some o (present f (k + 1) n)) ≤ suc n
    by None le = omega arith
    by (Some x) le = omega arith

-- ---- the leaves of a tree

both-true : (a b : Bool) → (a && b) ≡ true → (a ≡ true) × (b ≡ true)
both-true true b e = (refl, e)
both-true false b e = absurd cc

abbrev pub leaf_in : ℕ → Tree → ℕ → Option Leaf
leaf_in j tree k = option_and_then leaf_of (shown_at j tree k)

one-only : (n : ℕ) → 0 < n → n ≤ 2 ^ 0 → n ≡ 1
one-only n some most = omega arith

first-half : (j : ℕ) (l r : Tree) (k : ℕ) → k < 2 ^ j → leaf_in (suc j) (node l r) k ≡ leaf_in j l k
unfolding shown_at
first-half j l r k lt = ap (λ (b : Bool). option_and_then leaf_of (cond b (shown_at j l k) (shown_at j r
    (k - 2 ^ j)))) (lt-ltb k (2 ^ j) lt)

second-half : (j : ℕ) (l r : Tree) (i : ℕ) → leaf_in (suc j) (node l r) (2 ^ j + i) ≡ leaf_in j r i
unfolding shown_at
second-half j l r i =
    let e : 2 ^ j + i - 2 ^ j ≡ i = omega arith in
    let le : 2 ^ j ≤ 2 ^ j + i = omega arith in
    ap (λ (b : Bool). option_and_then leaf_of (cond b (shown_at j l (2 ^ j + i)) (shown_at j r
    (2 ^ j + i - 2 ^ j)))) (le-ltb (2 ^ j + i) (2 ^ j) le)
    ∙ ap (λ (n : ℕ). option_and_then leaf_of (shown_at j r n)) e

pub in-order : (j : ℕ) (tree : Tree) (n : ℕ) → fits_at j tree n ≡ true → 0 < n → n ≤ 2 ^ j
    → leaves_in tree ≡ present (leaf_in j tree) 0 n
unfolding fits_at shown_at leaves_in
in-order zero (hidden x) n fit some most = sym (present-none (leaf_in 0 (hidden x)) 0 n (λ i lt. refl))
in-order zero (leaf t) n fit some most =
    sym (ap (present (leaf_in 0 (leaf t)) 0) (one-only n some most) ∙ present-one (leaf_in 0 (leaf t)) 0)
in-order zero (node l r) n fit some most = absurd cc
in-order zero (single l) n fit some most = absurd cc
in-order (suc j) (hidden x) n fit some most = sym (present-none (leaf_in (suc j) (hidden x)) 0 n (λ i lt. refl))
in-order (suc j) (leaf t) n fit some most = absurd cc
in-order (suc j) (node l r) n fit some most =
    let more = both-true (nat_lt (2 ^ j) n) (fits_at j l (2 ^ j) && fits_at j r (n - 2 ^ j)) fit in
    let halves = both-true (fits_at j l (2 ^ j)) (fits_at j r (n - 2 ^ j)) more.1 in
    let past : 2 ^ j < n = ltb-true (2 ^ j) n more.0 in
    let left = in-order j l (2 ^ j) halves.0 (power-some j) (omega arith) in
    let right = in-order j r (n - 2 ^ j) halves.1 (omega arith) (half-most j n most) in
    let sum : 2 ^ j + (n - 2 ^ j) ≡ n = omega arith in
    ap (λ (xs : List Leaf). xs ++ leaves_in r) left
    ∙ ap (λ (xs : List Leaf). present (leaf_in j l) 0 (2 ^ j) ++ xs) right
    ∙ ap (λ (xs : List Leaf). xs ++ present (leaf_in j r) 0 (n - 2 ^ j))
    (sym (present-same (leaf_in (suc j) (node l r)) (leaf_in j l) 0 0 (2 ^ j) (λ i lt. first-half j l r (0 + i)
    (omega arith))))
    ∙ ap (λ (xs : List Leaf). present (leaf_in (suc j) (node l r)) 0 (2 ^ j) ++ xs)
    (sym (present-same (leaf_in (suc j) (node l r)) (leaf_in j r) (0 + 2 ^ j) 0 (n - 2 ^ j)
    (λ i lt. right-half j l r i)))
    ∙ sym (present-append (leaf_in (suc j) (node l r)) 0 (2 ^ j) (n - 2 ^ j))
    ∙ ap (present (leaf_in (suc j) (node l r)) 0) sum
  where
    power-some : (j : ℕ) → 0 < 2 ^ j
    power-some j = pow_pos j

    half-most : (j n : ℕ) → n ≤ 2 ^ suc j → n - 2 ^ j ≤ 2 ^ j
    half-most j n le = let e = pow-suc 2 j in omega (arith, e)

    right-half : (j : ℕ) (l r : Tree) (i : ℕ) → leaf_in (suc j) (node l r) (0 + 2 ^ j + i) ≡ leaf_in j r (0 + i)
    right-half j l r i =
        let a : 0 + 2 ^ j + i ≡ 2 ^ j + i = omega arith in
        let b : i ≡ 0 + i = omega arith in
        ap (leaf_in (suc j) (node l r)) a ∙ second-half j l r i ∙ ap (leaf_in j r) b
in-order (suc j) (single l) n fit some most =
    let parts = not-past j n (fits_at j l n) fit in
    in-order j l n parts.1 some parts.0
  where
    not-past : (j n : ℕ) (rest : Bool) → (not (nat_lt (2 ^ j) n) && rest) ≡ true → (n ≤ 2 ^ j) × (rest ≡ true)
    not-past j n rest e = by (nat_lt (2 ^ j) n) refl e
      where
        by : (b : Bool) → nat_lt (2 ^ j) n ≡ b → (not b && rest) ≡ true → (n ≤ 2 ^ j) × (rest ≡ true)
        by true is e = absurd cc
        by false is e = (ltb-false (2 ^ j) n is, e)

pub all-leaves : (tree : Tree) (n : ℕ) → fits tree n ≡ true → leaves_in tree ≡ leaves_among tree n 0 n
unfolding fits
all-leaves tree n fit =
    let parts = both-true (nat_lt 0 n) (fits_at (depth n) tree n) fit in
    in-order (depth n) tree n parts.1 (ltb-true 0 n parts.0) (depth-fits n)
    ∙ sym (present-same (leaf_shown tree n) (leaf_in (depth n) tree) 0 0 n
    (λ i lt. ap (option_and_then leaf_of) (shown-made tree n (0 + i) fit (omega arith))))

-- Where each text is a leaf's, each shown position has a leaf.
has-leaf : (j : ℕ) (tree : Tree) (k : ℕ) (t : Text) → holds_leaves tree ≡ true → shown_at j tree k ≡ Some t
    → is_some (leaf_of t) ≡ true
unfolding shown_at holds_leaves
has-leaf zero (hidden x) k t h e = absurd cc
has-leaf zero (leaf u) k t h e = let same : u ≡ t = cc in rw (← same) h
has-leaf zero (node l r) k t h e = absurd cc
has-leaf zero (single l) k t h e = absurd cc
has-leaf (suc j) (hidden x) k t h e = absurd cc
has-leaf (suc j) (leaf u) k t h e = absurd cc
has-leaf (suc j) (node l r) k t h e =
    let parts = both-true (holds_leaves l) (holds_leaves r) h in
    by (nat_lt k (2 ^ j)) e (λ (f : shown_at j l k ≡ Some t). has-leaf j l k t parts.0 f) (λ (f : shown_at j r
    (k - 2 ^ j) ≡ Some t). has-leaf j r (k - 2 ^ j) t parts.1 f)
  where
    by : {P : Type 0} (b : Bool) {x y z : Option Text} → cond b x y ≡ z → (x ≡ z → P) → (y ≡ z → P) → P
    by true e f g = f e
    by false e f g = g e
has-leaf (suc j) (single l) k t h e = has-leaf j l k t h e

pub is-leaf : (tree : Tree) (n k : ℕ) → holds_leaves tree ≡ true
    → is_some (shown tree n k) ≡ is_some (leaf_shown tree n k)
is-leaf tree n k h = by (shown tree n k) refl
  where
    by : (o : Option Text) → shown tree n k ≡ o → is_some o ≡ is_some (option_and_then leaf_of o)
    by None e = refl
    by (Some t) e = sym (has-leaf (depth n) tree k t h (shown-is tree n k t e).2)

-- ---- what the calls see of positions

pub seen : {A B : Type 0} (f : A → B) (r : Option A) (s : Option B) (b : Bool) → option_map f r ≡ s → is_some r ≡ b
    → is_some s ≡ b
seen f None s b e h = ap is_some (sym e) ∙ h
seen f (Some x) s b e h = ap is_some (sym e) ∙ h

counts : (o : Option Leaf) (b : Bool) → b ≡ is_some o → length (with_some o []) ≡ bool_byte b
counts None b e = ap (λ (c : Bool). bool_byte c) (sym e)
counts (Some x) b e = ap (λ (c : Bool). bool_byte c) (sym e)

pub count-first : (tree : Tree) (size from : ℕ) → 0 ≡ length (leaves_among tree size from (from - from))
count-first tree size from = let e : 0 ≡ from - from = omega arith in
    ap length (sym (present-zero (leaf_shown tree size) from))
    ∙ ap (λ (n : ℕ). length (leaves_among tree size from n)) e

pub count-more : (tree : Tree) (size from k : ℕ) (b : Bool) → holds_leaves tree ≡ true → from ≤ k
    → is_some (shown tree size k) ≡ b
    → length (leaves_among tree size from (k + 1 - from)) ≡ length (leaves_among tree size from
    (k - from)) + bool_byte b
count-more tree size from k b holds le e =
    let a : k + 1 - from ≡ k - from + 1 = omega arith in
    let p : from + (k - from) ≡ k = omega arith in
    ap (λ (n : ℕ). length (leaves_among tree size from n)) a
    ∙ ap length (present-more (leaf_shown tree size) from (k - from))
    ∙ length-append (present (leaf_shown tree size) from (k - from)) (with_some (leaf_shown tree size (from +
    (k - from))) [])
    ∙ ap (λ (n : ℕ). length (leaves_among tree size from (k - from)) + n)
    (counts (leaf_shown tree size (from + (k - from))) b (sym e ∙ is-leaf tree size k holds
    ∙ ap (λ (n : ℕ). is_some (leaf_shown tree size n)) (sym p)))

pub count-most : (tree : Tree) (size from n : ℕ) → length (leaves_among tree size from n) ≤ n
count-most tree size from n = present-few (leaf_shown tree size) from n

pub shows-more : (tree : Tree) (size k : ℕ) (b : Bool) → k < size → is_some (shown tree size k) ≡ b
    → shows_among tree size k (size - k) ≡ b && shows_among tree size (k + 1) (size - (k + 1))
unfolding shows_among
shows-more tree size k b lt e = let s : size - k ≡ suc (size - (k + 1)) = omega arith in
    ap (shows_among tree size k) s ∙ ap (λ (c : Bool). c && shows_among tree size (k + 1) (size - (k + 1))) e

pub shows-end : (tree : Tree) (size k : ℕ) → size ≤ k → shows_among tree size k (size - k) ≡ true
unfolding shows_among
shows-end tree size k le = let z : size - k ≡ 0 = omega arith in ap (shows_among tree size k) z

-- ---- the leaves in front of a position, and from it on

split-at : (tree : Tree) (size from : ℕ) → from ≤ size
    → leaves_among tree size 0 size ≡ leaves_among tree size 0 from ++ leaves_among tree size from (size - from)
split-at tree size from le =
    let s : size ≡ from + (size - from) = omega arith in
    let z : 0 + from ≡ from = omega arith in
    ap (leaves_among tree size 0) s ∙ present-append (leaf_shown tree size) 0 from (size - from)
    ∙ ap (λ (n : ℕ). leaves_among tree size 0 from ++ leaves_among tree size n (size - from)) z

take-front : {A : Type 0} (xs ys : List A) (n : ℕ) → n ≡ length xs → take n (xs ++ ys) ≡ xs
take-front xs ys n e = rw e (take-append_seam xs ys)

drop-front : {A : Type 0} (xs ys : List A) (n : ℕ) → n ≡ length xs → drop n (xs ++ ys) ≡ ys
drop-front xs ys n e = rw e (drop-append_seam xs ys)

place : (leaves front behind : List Leaf) (count : ℕ) → leaves ≡ front ++ behind → count ≡ length behind
    → length leaves - count ≡ length front
place leaves front behind count e c = let l = ap length e ∙ length-append front behind in omega (arith, l, c)

pub parted : (tree : Tree) (size from count : ℕ) (leaves : List Leaf) → fits tree size ≡ true → from ≤ size
    → leaves ≡ leaves_in tree
    → count ≡ length (leaves_from tree size from)
    → (take (length leaves - count) leaves ≡ leaves_among tree size 0 from) × (drop
    (length leaves - count) leaves ≡ leaves_from tree size from)
parted tree size from count leaves fit le read is =
    let whole : leaves ≡ leaves_among tree size 0 from ++ leaves_from tree size from = read
    ∙ all-leaves tree size fit ∙ split-at tree size from le in
    let at = place leaves (leaves_among tree size 0 from) (leaves_from tree size from) count whole is in (
      ap (take (length leaves - count)) whole
          ∙ take-front (leaves_among tree size 0 from) (leaves_from tree size from) (length leaves - count) at,
      ap (drop (length leaves - count)) whole
          ∙ drop-front (leaves_among tree size 0 from) (leaves_from tree size from) (length leaves - count) at,
    )

pub count-in : (tree : Tree) (size from count : ℕ) (leaves : List Leaf) → fits tree size ≡ true → from ≤ size
    → leaves ≡ leaves_in tree
    → count ≡ length (leaves_from tree size from) → count ≤ length leaves
count-in tree size from count leaves fit le read is =
    let whole : leaves ≡ leaves_among tree size 0 from ++ leaves_from tree size from = read
    ∙ all-leaves tree size fit ∙ split-at tree size from le in
    let l = ap length whole ∙ length-append (leaves_among tree size 0 from) (leaves_from tree size from) in omega
    (arith, l, is)

-- ---- the anchor

last-at : (xs : List Leaf) (x : Leaf) → slice_get (xs ++ x ∷ []) (length xs) ≡ Some x
last-at [] x = refl
last-at (y ∷ xs) x = last-at xs x

last-of : (xs : List Leaf) (o : Option Leaf) → is_some o ≡ true
    → slice_get (xs ++ with_some o []) (length (xs ++ with_some o []) - 1) ≡ o
last-of xs None e = absurd cc
last-of xs (Some x) e = let n : length (xs ++ x ∷ []) - 1 ≡ length xs = omega (arith, length-append xs (x ∷ [])) in
    ap (slice_get (xs ++ x ∷ [])) n ∙ last-at xs x

pub anchored : (tree : Tree) (size from : ℕ) (before : List Leaf) → 0 < from → holds_leaves tree ≡ true
    → is_some (shown tree size (from - 1)) ≡ true → before ≡ leaves_among tree size 0 from
    → slice_get before (length before - 1) ≡ anchor tree size from
anchored tree size from before some holds seen e =
    let n : from ≡ from - 1 + 1 = omega arith in
    let z : 0 + (from - 1) ≡ from - 1 = omega arith in
    let list : before ≡ leaves_among tree size 0 (from - 1) ++ with_some (leaf_shown tree size (from - 1)) [] =
    e ∙ ap (leaves_among tree size 0) n ∙ present-more (leaf_shown tree size) 0 (from - 1)
    ∙ ap (λ (m : ℕ). leaves_among tree size 0 (from - 1) ++ with_some (leaf_shown tree size m) []) z in
    ap (λ (xs : List Leaf). slice_get xs (length xs - 1)) list
    ∙ last-of (leaves_among tree size 0 (from - 1)) (leaf_shown tree size (from - 1)) (sym (is-leaf tree size
    (from - 1) holds) ∙ seen)
    ∙ ap (λ (b : Bool). cond b (leaf_shown tree size (from - 1)) None) (sym (lt-ltb 0 from some))

pub all-behind : (leaves : List Leaf) (n : ℕ) → AllByRecursion IsLeaf leaves → AllByRecursion IsLeaf (drop n leaves)
all-behind leaves zero each = each
all-behind [] (suc n) each = tt
all-behind (x ∷ leaves) (suc n) each = all-behind leaves n each.1

pub few-behind : (tree : Tree) (size from : ℕ) (leaves : List Leaf) → from ≤ size → leaves ≡ leaves_from tree size from
    → from + length leaves ≤ size
few-behind tree size from leaves le e =
    let l = ap length e in
    let most = present-few (leaf_shown tree size) from (size - from) in
    omega (arith, l, most)

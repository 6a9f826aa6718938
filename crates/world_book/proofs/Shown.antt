-- The leaves that a pruned tree shows, where each text in it spells a leaf.
use Rattle.std.proofs.Common.{◌≡◌, inl, inr, ℕ, zero, suc, ◌+◌, ◌-◌, ◌^◌, ◌<◌, true, List, ◌∷◌, length, Option, Some, None, refl, ap, sym, subst, ◌∙◌, arith}
use Rattle.std.specs.Prelude.{is_some, nat_lt, option_and_then, slice_get}
use Rattle.std.proofs.lemmas.Bool.{and_parts, cases_Bool, cond-true, cond-false, lt-ltb}
use Rattle.op_types.specs.declared.op.Leaf.{Leaf}
use Rattle.op_types.specs.Spelling.{IsLeaf, SpellsLeaf, leaf_text}
use Rattle.op_types.proofs.Ops.{leaf_again}
use Rattle.tree_model.specs.History.{depth}
use Rattle.hist_proof.specs.Pruned.{Tree, hidden, leaf, node, single}
use Rattle.hist_proof.specs.Shown.{shown, shown_at}
use Rattle.hist_proof.proofs.Trees.{shown-is}
use Rattle.check_rules.specs.Heard.{leaf_of}
use Rattle.check_rules.specs.Shown.{anchor, leaf_shown, leaves_among, present, leaves_from, shows_among, shows_from, with_some}
use Rattle.world_book.specs.Kept.{HoldsLeaves}

-- a leaf that is shown at a position
pub record ShowsLeaf (tree : Tree) (size k : ℕ) (l : Leaf) : Type 0 where
  pub text : shown tree size k ≡ Some (leaf_text l)
  pub is_leaf : IsLeaf l

spelled-at : (j : ℕ) (p : Tree) (k : ℕ) (t : List ℕ) → HoldsLeaves p → shown_at j p k ≡ Some t
    → (l : Leaf) × SpellsLeaf l t
unfolding shown_at HoldsLeaves
spelled-at zero (hidden x) k t holds e = absurd cc
spelled-at zero (leaf u) k t holds e = let same : u ≡ t = cc in (holds.0, subst (SpellsLeaf holds.0) same holds.1)
spelled-at zero (node l r) k t holds e = absurd cc
spelled-at zero (single l) k t holds e = absurd cc
spelled-at (suc j) (hidden x) k t holds e = absurd cc
spelled-at (suc j) (leaf u) k t holds e = absurd cc
spelled-at (suc j) (node l r) k t holds e = elim (cases_Bool (nat_lt k (2 ^ j))) [
  | inl left ↦ spelled-at j l k t holds.0
      (sym (cond-true (nat_lt k (2 ^ j)) (shown_at j l k) (shown_at j r (k - 2 ^ j)) left) ∙ e)
  | inr right ↦ spelled-at j r (k - 2 ^ j) t holds.1
      (sym (cond-false (nat_lt k (2 ^ j)) (shown_at j l k) (shown_at j r (k - 2 ^ j)) right) ∙ e)
]
spelled-at (suc j) (single l) k t holds e = spelled-at j l k t holds e

pub is-there : {A : Type 0} (x : Option A) → is_some x ≡ true → (a : A) × (x ≡ Some a)
is-there None e = absurd cc
is-there (Some a) e = (a, refl)

-- what is shown is a leaf's text
pub shown-leaf : (tree : Tree) (size k : ℕ) → HoldsLeaves tree → is_some (shown tree size k) ≡ true
    → (l : Leaf) × ShowsLeaf tree size k l × (leaf_shown tree size k ≡ Some l)
shown-leaf tree size k holds there =
    let it = is-there (shown tree size k) there in
    let l = spelled-at (depth size) tree k it.0 holds (shown-is tree size k it.0 it.1).2 in (
      l.0,
      record { text = it.1 ∙ ap Some l.1.text; is_leaf = l.1.is_leaf },
      ap (option_and_then leaf_of) it.1 ∙ leaf_again it.0 l.0 l.1,
    )

-- the leaves that are shown at so many positions, all of which are shown
pub record ShowsLeaves (tree : Tree) (size k count : ℕ) (leaves : List Leaf) : Type 0 where
  pub many : length leaves ≡ count
  pub each : (i : ℕ) (l : Leaf) → slice_get leaves i ≡ Some l → ShowsLeaf tree size (k + i) l

each-ahead : (tree : Tree) (size k count : ℕ) (l : Leaf) (others : List Leaf) → ShowsLeaf tree size k l
    → ShowsLeaves tree size (k + 1) count others
    → (i : ℕ) (x : Leaf) → slice_get (l ∷ others) i ≡ Some x → ShowsLeaf tree size (k + i) x
each-ahead tree size k count l others here rest zero x at =
    let same : l ≡ x = cc in
    let e : k ≡ k + 0 = omega arith in
    subst (λ (n : ℕ). ShowsLeaf tree size n x) e (subst (ShowsLeaf tree size k) same here)
each-ahead tree size k count l others here rest (suc i) x at =
    let e : k + 1 + i ≡ k + suc i = omega arith in
    subst (λ (n : ℕ). ShowsLeaf tree size n x) e (rest.each i x at)

-- one more, in front
ahead : (tree : Tree) (size k count : ℕ) (l : Leaf) (others : List Leaf) → ShowsLeaf tree size k l
    → ShowsLeaves tree size (k + 1) count others → ShowsLeaves tree size k (suc count) (l ∷ others)
ahead tree size k count l others here rest =
    record { many = ap suc rest.many; each = each-ahead tree size k count l others here rest }

pub shown-among : (tree : Tree) (size k count : ℕ) → HoldsLeaves tree → shows_among tree size k count ≡ true
    → ShowsLeaves tree size k count (leaves_among tree size k count)
unfolding present shows_among
shown-among tree size k zero holds shows = record { many = refl; each = λ i l at. absurd cc }
shown-among tree size k (suc count) holds shows =
    let both = and_parts (is_some (shown tree size k)) (shows_among tree size (k + 1) count) shows in
    let first = shown-leaf tree size k holds both.0 in
    let rest = shown-among tree size (k + 1) count holds both.1 in
    let others = leaves_among tree size (k + 1) count in
    subst (ShowsLeaves tree size k (suc count)) (sym (ap (λ (o : Option Leaf). with_some o others) first.2))
    (ahead tree size k count first.0 others first.1 rest)

-- behind the position in front of `from`
behind : (tree : Tree) (size from : ℕ) → 0 < from → from < size → shows_from tree size (from - 1) ≡ true
    → (is_some (shown tree size (from - 1)) ≡ true) × (shows_among tree size from (size - from) ≡ true)
unfolding shows_among
behind tree size from pos some shows =
    let e : size - (from - 1) ≡ suc (size - from) = omega arith in
    let g : from - 1 + 1 ≡ from = omega arith in
    let all : shows_among tree size (from - 1) (suc (size - from)) ≡ true =
    sym (ap (shows_among tree size (from - 1)) e) ∙ shows in
    let both =
    and_parts (is_some (shown tree size (from - 1))) (shows_among tree size (from - 1 + 1) (size - from)) all in
    (both.0, sym (ap (λ (n : ℕ). shows_among tree size n (size - from)) g) ∙ both.1)

-- Where the positions from the one in front of `from` on are shown, so are its leaves and its anchor.
pub shown-from : (tree : Tree) (size from : ℕ) → HoldsLeaves tree → from < size → shows_from tree size (from - 1) ≡ true
    → ShowsLeaves tree size from (size - from) (leaves_from tree size from)
shown-from tree size zero holds some shows = shown-among tree size 0 (size - 0) holds shows
shown-from tree size (suc from) holds some shows = shown-among tree size (suc from) (size - suc from) holds
    (behind tree size (suc from) (omega arith) some shows).1

pub shown-anchor : (tree : Tree) (size from : ℕ) → HoldsLeaves tree → 0 < from → from < size
    → shows_from tree size (from - 1) ≡ true
    → (l : Leaf) × ShowsLeaf tree size (from - 1) l × (anchor tree size from ≡ Some l)
shown-anchor tree size from holds pos some shows =
    let first = shown-leaf tree size (from - 1) holds (behind tree size from pos some shows).0 in (
      first.0,
      first.1,
      cond-true (nat_lt 0 from) (leaf_shown tree size (from - 1)) None (lt-ltb 0 from pos) ∙ first.2,
    )

-- What is read at the front of a text, by its tag.
use Rattle.std.proofs.Common.{◌≡◌, ℕ, zero, suc, ◌-◌, ◌<◌, false, [], ◌∷◌, Some, None, refl, sym, inl, inr, arith}
use Rattle.std.proofs.Math.Dec.{eqb}
use Rattle.std.proofs.lemmas.Bool.Decides.{eqb_tells}
use Rattle.fr_bytes.specs.Bytes.{Text}
use Rattle.fr_bytes.specs.Reading.{Reader}
use Rattle.hist_proof.specs.Pruned.{Tree, node, single}
use Rattle.hist_proof.specs.Spelling.{behind_at, hidden_at, leaf_at, node_at, none_at, single_at, tree_at}
use Rattle.hist_proof.proofs.Views.{tree_views}

pub tree_at-empty : (j : ℕ) → tree_at j [] ≡ None
unfolding tree_at
tree_at-empty zero = refl
tree_at-empty (suc j) = refl

pub tree_at-hidden : (j : ℕ) (bytes : Text) → tree_at j (0 ∷ bytes) ≡ hidden_at bytes
unfolding tree_at behind_at
tree_at-hidden zero bytes = refl
tree_at-hidden (suc j) bytes = refl

pub tree_at-leaf : (j : ℕ) (bytes : Text) → tree_at j (1 ∷ bytes) ≡ leaf_at bytes
unfolding tree_at behind_at
tree_at-leaf zero bytes = refl
tree_at-leaf (suc j) bytes = refl

pub tree_at-node_low : (j : ℕ) (bytes : Text) → j ≡ 0 → tree_at j (2 ∷ bytes) ≡ None
unfolding tree_at behind_at node_at
tree_at-node_low zero bytes low = refl
tree_at-node_low (suc j) bytes low = absurd (omega arith)

pub tree_at-single_low : (j : ℕ) (bytes : Text) → j ≡ 0 → tree_at j (3 ∷ bytes) ≡ None
unfolding tree_at behind_at single_at
tree_at-single_low zero bytes low = refl
tree_at-single_low (suc j) bytes low = absurd (omega arith)

pub tree_at-node : (j : ℕ) (bytes : Text) → 0 < j → tree_at j (2 ∷ bytes) ≡ node_at (tree_at (j - 1)) bytes
unfolding tree_at behind_at
tree_at-node zero bytes above = absurd (omega arith)
tree_at-node (suc j) bytes above = let below : suc j - 1 ≡ j = omega arith in rw below refl

pub tree_at-single : (j : ℕ) (bytes : Text) → 0 < j → tree_at j (3 ∷ bytes) ≡ single_at (tree_at (j - 1)) bytes
unfolding tree_at behind_at
tree_at-single zero bytes above = absurd (omega arith)
tree_at-single (suc j) bytes above = let below : suc j - 1 ≡ j = omega arith in rw below refl

differ-eqb : (a b : ℕ) → (a ≡ b → ⊥) → eqb a b ≡ false
differ-eqb a b apart = elim (eqb_tells a b) [ inl same ↦ absurd (apart same.1) | inr not ↦ not.0 ]

other_tag : (below : Reader Tree) (tag : ℕ) (bytes : Text) → (tag ≡ 0 → ⊥) → (tag ≡ 1 → ⊥) → (tag ≡ 2 → ⊥)
    → (tag ≡ 3 → ⊥) → behind_at below tag bytes ≡ None
unfolding behind_at
other_tag below tag bytes n0 n1 n2 n3 =
    rw (differ-eqb 0 tag (λ e. n0 (sym e)), differ-eqb 1 tag (λ e. n1 (sym e)), differ-eqb 2 tag (λ e. n2 (sym e)), differ-eqb 3 tag (λ e. n3 (sym e))) refl

pub tree_at-other : (j tag : ℕ) (bytes : Text) → (tag ≡ 0 → ⊥) → (tag ≡ 1 → ⊥) → (tag ≡ 2 → ⊥) → (tag ≡ 3 → ⊥)
    → tree_at j (tag ∷ bytes) ≡ None
unfolding tree_at
tree_at-other zero tag bytes n0 n1 n2 n3 = other_tag none_at tag bytes n0 n1 n2 n3
tree_at-other (suc j) tag bytes n0 n1 n2 n3 = other_tag (tree_at j) tag bytes n0 n1 n2 n3

-- ---- behind the tag of a node

pub node_at-both : (below : Reader Tree) (bytes : Text) (l : Tree) (middle : Text) (r : Tree) (rest : Text)
    → below bytes ≡ Some (l, middle) → below middle ≡ Some (r, rest)
    → node_at below bytes ≡ Some (node l r, rest)
unfolding node_at
node_at-both below bytes l middle r rest one two = rw (one, two) refl

pub node_at-no_left : (below : Reader Tree) (bytes : Text) → below bytes ≡ None → node_at below bytes ≡ None
unfolding node_at
node_at-no_left below bytes one = rw one refl

pub node_at-no_right : (below : Reader Tree) (bytes : Text) (l : Tree) (middle : Text)
    → below bytes ≡ Some (l, middle) → below middle ≡ None → node_at below bytes ≡ None
unfolding node_at
node_at-no_right below bytes l middle one two = rw (one, two) refl

pub single_at-some : (below : Reader Tree) (bytes : Text) (l : Tree) (rest : Text)
    → below bytes ≡ Some (l, rest) → single_at below bytes ≡ Some (single l, rest)
unfolding single_at
single_at-some below bytes l rest one = rw one refl

pub single_at-none : (below : Reader Tree) (bytes : Text) → below bytes ≡ None → single_at below bytes ≡ None
unfolding single_at
single_at-none below bytes one = rw one refl

pub ruleset read_steps = (tree_views, tree_at-empty, tree_at-hidden, tree_at-leaf, tree_at-node_low, tree_at-single_low, tree_at-node, tree_at-single, tree_at-other, node_at-both, node_at-no_left, node_at-no_right, single_at-some, single_at-none)

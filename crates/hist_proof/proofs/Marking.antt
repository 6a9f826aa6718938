-- The digests that stand beside a tree, and the digest of what is cut of it.
use Rattle.std.proofs.Common.{◌≡◌, ℕ, List, Option, Some, None, refl, inl, inr}
use Rattle.std.specs.Option.{option_map}
use Rattle.fr_digest.specs.Digest.{Digest}
use Rattle.tree_model.specs.History.{pair_string, single_string}
use Rattle.hist_proof.specs.Pruned.{Tree, hidden, leaf, node, single, digest_of}
use Rattle.hist_proof.specs.Digested.{Marks, absent, mark_leaf, mark_node, mark_single, marks_of, IsMarked}
use Rattle.hist_proof.proofs.Views.{tree_views, marks_views}

-- ---- the digest of a node over what is cut of one of its halves

pub digest_of-single : (d : Digest) (o : Option Tree)
    → option_map (digest_of d) (option_map (λ c. single c) o) ≡ option_map (λ x. d (single_string x)) (option_map (digest_of d) o)
unfolding digest_of
digest_of-single d None = refl
digest_of-single d (Some c) = refl

pub digest_of-node : (d : Digest) (l : Tree) (o : Option Tree)
    → option_map (digest_of d) (option_map (λ c. node l c) o) ≡ option_map (λ x. d (pair_string (digest_of d l) x)) (option_map (digest_of d) o)
unfolding digest_of
digest_of-node d l None = refl
digest_of-node d l (Some c) = refl

-- ---- what is kept at a node is its digest

pub marked-leaf : (d : Digest) (x : List ℕ) (p : Tree) → IsMarked d (mark_leaf x) p → x ≡ digest_of d p
unfolding marks_of
marked-leaf d x (hidden y) (inl e) = absurd cc
marked-leaf d x (hidden y) (inr e) = absurd cc
marked-leaf d x (leaf t) (inl e) = absurd cc
marked-leaf d x (leaf t) (inr e) = cc
marked-leaf d x (node l r) (inl e) = absurd cc
marked-leaf d x (node l r) (inr e) = absurd cc
marked-leaf d x (single l) (inl e) = absurd cc
marked-leaf d x (single l) (inr e) = absurd cc

pub marked-node : (d : Digest) (x : List ℕ) (a b : Marks) (p : Tree) → IsMarked d (mark_node x a b) p
    → x ≡ digest_of d p
unfolding marks_of
marked-node d x a b (hidden y) (inl e) = absurd cc
marked-node d x a b (hidden y) (inr e) = absurd cc
marked-node d x a b (leaf t) (inl e) = absurd cc
marked-node d x a b (leaf t) (inr e) = absurd cc
marked-node d x a b (node l r) (inl e) = absurd cc
marked-node d x a b (node l r) (inr e) = cc
marked-node d x a b (single l) (inl e) = absurd cc
marked-node d x a b (single l) (inr e) = absurd cc

pub marked-single : (d : Digest) (x : List ℕ) (a : Marks) (p : Tree) → IsMarked d (mark_single x a) p
    → x ≡ digest_of d p
unfolding marks_of
marked-single d x a (hidden y) (inl e) = absurd cc
marked-single d x a (hidden y) (inr e) = absurd cc
marked-single d x a (leaf t) (inl e) = absurd cc
marked-single d x a (leaf t) (inr e) = absurd cc
marked-single d x a (node l r) (inl e) = absurd cc
marked-single d x a (node l r) (inr e) = absurd cc
marked-single d x a (single l) (inl e) = absurd cc
marked-single d x a (single l) (inr e) = cc

-- ---- what is kept below a node

pub below-node : (d : Digest) (x : List ℕ) (a b : Marks) (l r : Tree) → IsMarked d (mark_node x a b) (node l r)
    → IsMarked d a l × IsMarked d b r
unfolding marks_of
below-node d x a b l r (inl e) = absurd cc
below-node d x a b l r (inr e) = (inr cc, inr cc)

pub below-single : (d : Digest) (x : List ℕ) (a : Marks) (l : Tree) → IsMarked d (mark_single x a) (single l)
    → IsMarked d a l
unfolding marks_of
below-single d x a l (inl e) = absurd cc
below-single d x a l (inr e) = inr cc

-- a leaf's or a single node's digests aren't those of a node of two halves, nor the other way round
pub not_node-leaf : (d : Digest) (x : List ℕ) (l r : Tree) → IsMarked d (mark_leaf x) (node l r) → ⊥
unfolding marks_of
not_node-leaf d x l r (inl e) = absurd cc
not_node-leaf d x l r (inr e) = absurd cc

pub not_node-single : (d : Digest) (x : List ℕ) (a : Marks) (l r : Tree) → IsMarked d (mark_single x a) (node l r) → ⊥
unfolding marks_of
not_node-single d x a l r (inl e) = absurd cc
not_node-single d x a l r (inr e) = absurd cc

pub not_single-leaf : (d : Digest) (x : List ℕ) (l : Tree) → IsMarked d (mark_leaf x) (single l) → ⊥
unfolding marks_of
not_single-leaf d x l (inl e) = absurd cc
not_single-leaf d x l (inr e) = absurd cc

pub not_single-node : (d : Digest) (x : List ℕ) (a b : Marks) (l : Tree) → IsMarked d (mark_node x a b) (single l) → ⊥
unfolding marks_of
not_single-node d x a b l (inl e) = absurd cc
not_single-node d x a b l (inr e) = absurd cc

pub none_kept : (d : Digest) (p : Tree) → IsMarked d absent p
none_kept d p = inl refl

pub all_kept : (d : Digest) (m : Marks) (p : Tree) → m ≡ marks_of d p → IsMarked d m p
all_kept d m p e = inr e

pub ruleset marking = (tree_views, marks_views, marked-leaf, marked-node, marked-single)

pub ruleset mapped = (digest_of-single, digest_of-node)

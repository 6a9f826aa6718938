-- What a line of leaves keeps.
use Rattle.std.proofs.Common.{◌≡◌, ◌∙◌, inl, inr, ℕ, zero, suc, ◌+◌, ◌-◌, ◌<◌, ◌≤◌, List, [], ◌∷◌, ◌++◌, length, map, take, get_or, Some, refl, sym, ap, subst, arith}
use Rattle.std.specs.Prelude.{slice_get}
use Rattle.std.specs.List.{AllByRecursion}
use Rattle.std.specs.Option.{option_map}
use Rattle.std.proofs.lemmas.List.{length-append, length-map, map-append, take-append-le, take_all}
use Rattle.std.proofs.lemmas.Option.{slice_get-map, slice_get_within}
use Rattle.fr_bytes.specs.Bytes.{Text}
use Rattle.fr_bytes.proofs.Lists.{each-append}
use Rattle.op_types.specs.declared.op.Leaf.{Leaf}
use Rattle.op_types.specs.Spelling.{IsLeaf, leaf_text}
use Rattle.wall_law.specs.declared.state.State.{State}
use Rattle.wall_law.specs.State.{after, opening, state_of}
use Rattle.wall_law.proofs.Histories.{state_of-epoch, state_of-snoc}
use Rattle.world_book.proofs.Places.{place-either}
use Rattle.audit_run.specs.Line.{HasStates, History}
use Rattle.audit_run.specs.declared.line.LeafText.{LeafText}
use Rattle.audit_run.specs.declared.line.Placed.{Placed}
use Rattle.audit_run.proofs.Owned.{at-place}
use Rattle.audit_run.proofs.Places.{take-next}

abbrev pub leaves_in : List Placed → List Leaf
leaves_in placed = map (λ (p : Placed). p.leaf.now) placed

abbrev pub states_in : List Placed → List State
states_in placed = map (λ (p : Placed). p.after) placed

-- the state behind the leaf in front of a position
pub state-at : (h : History) (placed : List Placed) (owner k : ℕ) (p : Placed)
    → HasStates owner (leaves_in placed) (states_in placed) → owner ≡ h.owner → leaves_in placed ≡ h.leaves
    → (k ≡ 0 → ⊥) → k ≤ length h.leaves → p ≡ get_or placed (k - 1) p
    → p.after ≡ state_of h.owner (take k h.leaves)
state-at h placed owner k p states own are some within is =
    let long = ap length are in
    let many = length-map placed (λ (q : Placed). q.leaf.now) in
    let e : k - 1 + 1 ≡ k = omega arith in
    let there = slice_get-map (λ (q : Placed). q.after) placed (k - 1)
    ∙ ap (option_map (λ (q : Placed). q.after)) (at-place placed (k - 1) p (omega arith) is) in
    states (k - 1) p.after there ∙ ap (λ (n : ℕ). state_of owner (take n (leaves_in placed))) e
    ∙ ap (λ (o : ℕ). state_of o (take k (leaves_in placed))) own
    ∙ ap (λ (ls : List Leaf). state_of h.owner (take k ls)) are

-- the epoch before one more leaf
pub epoch-fits : (owner : ℕ) (leaves : List Leaf) (s : State) (k n : ℕ) → s ≡ state_of owner (take k leaves)
    → k ≡ length leaves → length leaves < n → s.epoch < n
epoch-fits owner leaves s k n is whole few =
    let most = state_of-epoch owner leaves in
    let all : s.epoch ≡ (state_of owner leaves).epoch =
    ap (λ (t : State). t.epoch) is
    ∙ ap (λ (ls : List Leaf). (state_of owner ls).epoch) (take_all k leaves (omega arith)) in
    omega arith

-- ---- one leaf more

pub states-more : (owner : ℕ) (placed : List Placed) (p : Placed) → HasStates owner (leaves_in placed) (states_in placed)
    → p.after ≡ after (state_of owner (leaves_in placed)) p.leaf.now.op
    → HasStates owner (leaves_in (placed ++ p ∷ [])) (states_in (placed ++ p ∷ []))
states-more owner placed p states is k s at =
    let M = leaves_in placed in
    let many = length-map placed (λ (q : Placed). q.leaf.now) in
    let count = length-map placed (λ (q : Placed). q.after) in
    let more : leaves_in (placed ++ p ∷ []) ≡ M ++ p.leaf.now ∷ [] = map-append (λ (q : Placed). q.leaf.now) placed (p ∷ []) in
    let split : states_in (placed ++ p ∷ []) ≡ states_in placed ++ p.after ∷ [] = map-append (λ (q : Placed). q.after) placed (p ∷ []) in
    elim (place-either (states_in placed) (p.after ∷ []) k s (ap (λ (ss : List State). slice_get ss k) (sym split) ∙ at)) [
      | inl there ↦
          let within = slice_get_within (states_in placed) k s there in
          states k s there
          ∙ ap (state_of owner) (sym (take-append-le (k + 1) M (p.leaf.now ∷ []) (omega arith)))
          ∙ ap (λ (ls : List Leaf). state_of owner (take (k + 1) ls)) (sym more)
      | inr behind ↦
          let last = only (p.after) (k - length (states_in placed)) s behind.1 in
          let place = behind.0 in
          let zero_is = last.0 in
          let long : length (M ++ p.leaf.now ∷ []) ≡ length M + 1 = length-append M (p.leaf.now ∷ []) in
          sym last.1 ∙ is ∙ sym (state_of-snoc owner M p.leaf.now)
          ∙ ap (state_of owner) (sym (take_all (k + 1) (M ++ p.leaf.now ∷ []) (omega arith)))
          ∙ ap (λ (ls : List Leaf). state_of owner (take (k + 1) ls)) (sym more)
    ]
  where
    only : (x : State) (i : ℕ) (s : State) → slice_get (x ∷ []) i ≡ Some s → (i ≡ 0) × (x ≡ s)
    only x zero s at = (refl, let same : x ≡ s = cc in same)
    only x (suc i) s at = absurd cc

pub leaves-more : (placed : List Placed) (p : Placed) → AllByRecursion IsLeaf (leaves_in placed) → IsLeaf p.leaf.now
    → AllByRecursion IsLeaf (leaves_in (placed ++ p ∷ []))
leaves-more placed p each one =
    subst (AllByRecursion IsLeaf) (sym (map-append (λ (q : Placed). q.leaf.now) placed (p ∷ [])))
    (each-append IsLeaf (leaves_in placed) (p.leaf.now ∷ []) each (one, tt))

pub texts-more : (placed : List Placed) (p : Placed) (texts : List LeafText) (t : LeafText)
    → map (λ (x : LeafText). x.text) texts ≡ map leaf_text (leaves_in placed) → t.text ≡ leaf_text p.leaf.now
    → map (λ (x : LeafText). x.text) (texts ++ t ∷ []) ≡ map leaf_text (leaves_in (placed ++ p ∷ []))
texts-more placed p texts t are is =
    map-append (λ (x : LeafText). x.text) texts (t ∷ [])
    ∙ ap (λ (xs : List Text). xs ++ t.text ∷ []) are
    ∙ ap (λ (x : Text). map leaf_text (leaves_in placed) ++ x ∷ []) is
    ∙ sym (ap (map leaf_text) (map-append (λ (q : Placed). q.leaf.now) placed (p ∷ []))
    ∙ map-append leaf_text (leaves_in placed) (p.leaf.now ∷ []))

-- the state behind all leaves
pub state-last : (h : History) (placed : List Placed) (owner n : ℕ) (s : State) → s ≡ state_of h.owner (take n h.leaves)
    → n ≡ length h.leaves → owner ≡ h.owner → leaves_in placed ≡ h.leaves → s ≡ state_of owner (leaves_in placed)
state-last h placed owner n s is whole own are =
    is ∙ ap (state_of h.owner) (take_all n h.leaves (omega (arith, whole)))
    ∙ ap (λ (o : ℕ). state_of o h.leaves) (sym own)
    ∙ ap (state_of owner) (sym are)

pub all-kept : (owner : ℕ) (first : State) (placed new : List Placed) (p : Placed) (texts more : List LeafText)
    (t : LeafText)
    → (first ≡ opening owner) × HasStates owner (leaves_in placed) (states_in placed)
    × AllByRecursion IsLeaf (leaves_in placed)
    × (map (λ (x : LeafText). x.text) texts ≡ map leaf_text (leaves_in placed))
    → new ≡ placed ++ p ∷ [] → more ≡ texts ++ t ∷ []
    → p.after ≡ after (state_of owner (leaves_in placed)) p.leaf.now.op → IsLeaf p.leaf.now
    → t.text ≡ leaf_text p.leaf.now
    → (first ≡ opening owner) × HasStates owner (leaves_in new) (states_in new) × AllByRecursion IsLeaf (leaves_in new)
    × (map (λ (x : LeafText). x.text) more ≡ map leaf_text (leaves_in new))
all-kept owner first placed new p texts more t old is are state one text = (
  old.0,
  subst (λ (ps : List Placed). HasStates owner (leaves_in ps) (states_in ps)) (sym is)
      (states-more owner placed p old.1 state),
  subst (λ (ps : List Placed). AllByRecursion IsLeaf (leaves_in ps)) (sym is) (leaves-more placed p old.2 one),
  ap (map (λ (x : LeafText). x.text)) are ∙ texts-more placed p texts t old.3 text
      ∙ sym (ap (λ (ps : List Placed). map leaf_text (leaves_in ps)) is),
)

-- each leaf of the line has a spelling
pub leaf-at : (placed : List Placed) (leaves : List Leaf) (k : ℕ) (l : Leaf) → AllByRecursion IsLeaf (leaves_in placed)
    → leaves_in placed ≡ leaves → slice_get leaves k ≡ Some l → IsLeaf l
leaf-at placed leaves k l each are at = by leaves (subst (AllByRecursion IsLeaf) are each) k at
  where
    by : (ls : List Leaf) → AllByRecursion IsLeaf ls → (n : ℕ) → slice_get ls n ≡ Some l → IsLeaf l
    by [] each n at = absurd cc
    by (x ∷ xs) each zero at = let same : x ≡ l = cc in subst IsLeaf same each.0
    by (x ∷ xs) each (suc n) at = by xs each.1 n at

-- the text at a position
pub text-at : (placed : List Placed) (leaves : List Leaf) (texts : List LeafText) (k : ℕ) (t : LeafText)
    → map (λ (x : LeafText). x.text) texts ≡ map leaf_text (leaves_in placed) → leaves_in placed ≡ leaves
    → slice_get texts k ≡ Some t → slice_get (map leaf_text leaves) k ≡ Some t.text
text-at placed leaves texts k t same are at =
    ap (λ (ls : List Leaf). slice_get (map leaf_text ls) k) (sym are)
    ∙ ap (λ (xs : List Text). slice_get xs k) (sym same)
    ∙ slice_get-map (λ (x : LeafText). x.text) texts k
    ∙ ap (option_map (λ (x : LeafText). x.text)) at

pub front-more : (old new h : History) (k : ℕ) (l : Leaf) → old ≡ record h { leaves = take k h.leaves }
    → new ≡ record old { leaves = old.leaves ++ l ∷ [] } → slice_get h.leaves k ≡ Some l
    → new ≡ record h { leaves = take (k + 1) h.leaves }
front-more old new h k l is more at =
    more ∙ ap (λ (o : History). record o { leaves = o.leaves ++ l ∷ [] }) is
    ∙ ap (λ (ls : List Leaf). record h { leaves = ls }) (take-next h.leaves k l at)

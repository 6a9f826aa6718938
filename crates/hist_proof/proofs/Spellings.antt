-- That reading and spelling of pruned trees agree, and what follows of it.
use Rattle.std.proofs.Common.{◌≡◌, ℕ, zero, suc, ◌-◌, ◌^◌, ◌<◌, [], ◌∷◌, ◌++◌, length, Option, None, Some, Result, Ok, Err, refl, ap, sym, subst, ◌∙◌, inl, inr, arith, lit<}
use Rattle.std.specs.Option.{option_map}
use Rattle.std.specs.Prelude.{IfOk, IfSome, IsErrOf}
use Rattle.std.proofs.lemmas.Bool.{cases_lt}
use Rattle.fr_bytes.specs.declared.refusals.NoMemory.{NoMemory}
use Rattle.fr_bytes.specs.declared.refusals.ReadRefusal.{ReadRefusal}
use Rattle.fr_bytes.specs.declared.refusals.ReadRefusal.TheVariants as refusals
use Rattle.fr_bytes.specs.Bytes.{IsBytes, Text}
use Rattle.fr_bytes.specs.Reading.{GivesAll, Reader, all_of}
use Rattle.fr_bytes.specs.Format.{IsExact, format}
use Rattle.fr_bytes.specs.Parts.{HasTag, both, limited, piece}
use Rattle.fr_bytes.proofs.Formats.{all_again, all_found, exact_both, exact_piece, unique}
use Rattle.fr_bytes.proofs.Formats.{exact_as}
use Rattle.fr_bytes.proofs.Parts.{exact_limited, exact_never, exact_tagged, exact_told}
use Rattle.fr_digest.specs.Digest.{digest_bytes}
use Rattle.hist_proof.specs.declared.pruned.Pruned.{Pruned}
use Rattle.hist_proof.specs.declared.limits.TheConstants.{HIDDEN_TAG, LEAF_TAG, NODE_TAG, SINGLE_TAG, LEAF_BYTES_MAX, LEVELS_MAX}
use Rattle.tree_model.specs.History.{depth}
use Rattle.hist_proof.specs.Pruned.{Tree, hidden, leaf, node, single, cut, cut_at, cut_in}
use Rattle.hist_proof.specs.Shown.{HasDigests}
use Rattle.hist_proof.specs.Spelling.{HasCounts, IsLeveled, IsNone, IsSpelled, IsTop, Spells, behind_at, cases_of, halves, hidden_at, leaf_at, leveled_format, node_at, none_at, pruned_at, pruned_format, rest_text, single_at, tag_of, top_at, tree_at, tree_text}
use Rattle.hist_proof.specs.View.{tree_view}
use Rattle.hist_proof.proofs.Fronts.{left_some}
use Rattle.hist_proof.proofs.Halving.{cut_at-all, cut_at-hidden_not, cut_at-leaf_not, cut_at-left_inv, cut_at-low_not, cut_at-right_inv, cut_at-single_inv, cut_in-down, cut_in-low, cut_in-up}
use Rattle.hist_proof.proofs.Trees.{cut-is}

-- ---- the tags

tag-below : (p : Tree) → tag_of p < 256
tag-below (hidden x) = lit< tt
tag-below (leaf t) = lit< tt
tag-below (node l r) = lit< tt
tag-below (single l) = lit< tt

has_tag : (below : Reader Tree) (p : Tree) → HasTag (cases_of below) (tag_of p)
has_tag below (hidden x) = inl refl
has_tag below (leaf t) = inr (inl refl)
has_tag below (node l r) = inr (inr (inl refl))
has_tag below (single l) = inr (inr (inr (inl refl)))

-- ---- one level of nodes

told : (p : Tree) → tag_of p ∷ rest_text p ≡ tree_text p
unfolding tree_text
told (hidden x) = refl
told (leaf t) = refl
told (node l r) = refl
told (single l) = refl

module _ (IsBelow : Tree → Type 0) (below : Reader Tree) where
  abbrev Tagged : ℕ → Tree → Type 0
  Tagged tag p = IsTop IsBelow p × (tag_of p ≡ tag)

  of_hidden : (p : Tree) → Tagged HIDDEN_TAG p → (x : Text) × ((length x ≡ digest_bytes) × IsBytes x) × (hidden x ≡ p)
  of_hidden (hidden x) h = (x, h.0, refl)
  of_hidden (leaf t) h = absurd cc
  of_hidden (node l r) h = absurd cc
  of_hidden (single l) h = absurd cc

  of_leaf : (p : Tree) → Tagged LEAF_TAG p → (t : Text) × ((limited LEAF_BYTES_MAX).fits t) × (leaf t ≡ p)
  of_leaf (hidden x) h = absurd cc
  of_leaf (leaf t) h = (t, h.0, refl)
  of_leaf (node l r) h = absurd cc
  of_leaf (single l) h = absurd cc

  of_node : (p : Tree) → Tagged NODE_TAG p → (q : Tree × Tree) × (IsBelow q.0 × IsBelow q.1) × (halves q ≡ p)
  of_node (hidden x) h = absurd cc
  of_node (leaf t) h = absurd cc
  of_node (node l r) h = ((l, r), h.0, refl)
  of_node (single l) h = absurd cc

  of_single : (p : Tree) → Tagged SINGLE_TAG p → (l : Tree) × IsBelow l × (single l ≡ p)
  of_single (hidden x) h = absurd cc
  of_single (leaf t) h = absurd cc
  of_single (node l r) h = absurd cc
  of_single (single l) h = (l, h.0, refl)

  exact_hidden : IsExact (format (Tagged HIDDEN_TAG) rest_text hidden_at)
  unfolding hidden_at
  exact_hidden =
      exact_as (piece digest_bytes) (Tagged HIDDEN_TAG) rest_text hidden (exact_piece digest_bytes) (λ x h. ((h, refl), refl)) of_hidden

  exact_leaf : IsExact (format (Tagged LEAF_TAG) rest_text leaf_at)
  unfolding leaf_at
  exact_leaf =
      exact_as (limited LEAF_BYTES_MAX) (Tagged LEAF_TAG) rest_text leaf (exact_limited LEAF_BYTES_MAX (lit< tt)) (λ t h. ((h, refl), refl)) of_leaf

  module _ (exact : IsExact (format IsBelow tree_text below)) where
    exact_node : IsExact (format (Tagged NODE_TAG) rest_text (node_at below))
    unfolding node_at
    exact_node =
        exact_as (both (format IsBelow tree_text below) (λ l. format IsBelow tree_text below)) (Tagged NODE_TAG) rest_text halves
        (exact_both (format IsBelow tree_text below) (λ l. format IsBelow tree_text below) exact (λ l h. exact))
        (λ q h. ((h, refl), refl)) of_node

    exact_single : IsExact (format (Tagged SINGLE_TAG) rest_text (single_at below))
    unfolding single_at
    exact_single =
        exact_as (format IsBelow tree_text below) (Tagged SINGLE_TAG) rest_text single exact (λ l h. ((h, refl), refl)) of_single

    exact_tags : IsExact (format (IsTop IsBelow) (λ p. tag_of p ∷ rest_text p) (top_at below))
    unfolding behind_at
    exact_tags =
        exact_tagged (IsTop IsBelow) tag_of rest_text (cases_of below) tag-below
        (exact_hidden, (exact_leaf, (exact_node, (exact_single, tt)))) (has_tag below)

    exact_top : IsExact (format (IsTop IsBelow) tree_text (top_at below))
    exact_top =
        exact_told (format (IsTop IsBelow) (λ p. tag_of p ∷ rest_text p) (top_at below)) (IsTop IsBelow) tree_text exact_tags
        (λ p h. (h, told p)) (λ p h. h)

-- ---- all levels

pub exact_levels : (levels : ℕ) → IsExact (leveled_format levels)
unfolding IsLeveled tree_at
exact_levels zero = exact_top IsNone none_at (exact_never IsNone tree_text (λ p h. h))
exact_levels (suc levels) = exact_top (IsLeveled levels) (tree_at levels) (exact_levels levels)

pub exact_pruned : IsExact pruned_format
unfolding IsSpelled pruned_at
exact_pruned = exact_levels LEVELS_MAX

-- ---- what a reader of all of the bytes answers

pub found_spelled : (bytes : Text) (result : Result Pruned ReadRefusal) → IsBytes bytes
    → GivesAll tree_view result (all_of pruned_at bytes) → IfOk result (λ p. Spells (tree_view p) bytes)
found_spelled bytes (Ok p) fits read =
    let it = all_found pruned_format exact_pruned bytes (tree_view p) fits read in record { is_spelled = it.0; text = it.1 }
found_spelled bytes (Err e) fits read = tt

pub only_spelled : (bytes : Text) (result : Result Pruned ReadRefusal)
    → GivesAll tree_view result (all_of pruned_at bytes) → IsErrOf result refusals.NotForm → (p : Tree)
    → Spells p bytes → ⊥
only_spelled bytes (Ok x) read none p h = absurd cc
only_spelled bytes (Err refusals.NotForm) read none p h =
    let again = all_again pruned_format exact_pruned p h.is_spelled in
    let e = sym read ∙ ap (all_of pruned_at) h.text ∙ again in cc
only_spelled bytes (Err refusals.NoMemory) read none p h = cc

-- ---- one spelling

pub one_value : (p q : Tree) (bytes : Text) → Spells p bytes → Spells q bytes → p ≡ q
one_value p q bytes hp hq =
    (unique pruned_format exact_pruned p q [] [] hp.is_spelled hq.is_spelled (ap (λ (t : Text). t ++ []) (sym hp.text ∙ hq.text))).0

pub one_text : (p : Tree) (a b : Text) → Spells p a → Spells p b → a ≡ b
one_text p a b ha hb = ha.text ∙ sym hb.text

-- ---- what has a spelling

counts_leveled : (levels : ℕ) (p : Tree) → IsLeveled levels p → HasCounts p
unfolding IsLeveled HasCounts
counts_leveled levels (hidden x) h = tt
counts_leveled zero (leaf t) h = omega (arith, h.0)
counts_leveled (suc levels) (leaf t) h = omega (arith, h.0)
counts_leveled zero (node l r) h = absurd h.0
counts_leveled (suc levels) (node l r) h = (counts_leveled levels l h.0, counts_leveled levels r h.1)
counts_leveled zero (single l) h = absurd h
counts_leveled (suc levels) (single l) h = counts_leveled levels l h

-- each leaf's text can be counted
pub counts_spelled : (p : Tree) → IsSpelled p → HasCounts p
unfolding IsSpelled
counts_spelled p h = counts_leveled LEVELS_MAX p h

digests_leveled : (levels : ℕ) (p : Tree) → IsLeveled levels p → HasDigests p
unfolding IsLeveled HasDigests
digests_leveled zero (hidden x) h = h.0
digests_leveled (suc levels) (hidden x) h = h.0
digests_leveled levels (leaf t) h = tt
digests_leveled zero (node l r) h = absurd h.0
digests_leveled (suc levels) (node l r) h = (digests_leveled levels l h.0, digests_leveled levels r h.1)
digests_leveled zero (single l) h = absurd h
digests_leveled (suc levels) (single l) h = digests_leveled levels l h

-- each hidden part has a digest's length
pub digests_spelled : (p : Tree) → IsSpelled p → HasDigests p
unfolding IsSpelled
digests_spelled p h = digests_leveled LEVELS_MAX p h

-- ---- what is cut has a spelling too

leveled-more : (levels : ℕ) (p : Tree) → IsLeveled levels p → IsLeveled (suc levels) p
unfolding IsLeveled
leveled-more zero (hidden x) h = h
leveled-more (suc levels) (hidden x) h = h
leveled-more zero (leaf t) h = h
leveled-more (suc levels) (leaf t) h = h
leveled-more zero (node l r) h = absurd h.0
leveled-more (suc levels) (node l r) h = (leveled-more levels l h.0, leveled-more levels r h.1)
leveled-more zero (single l) h = absurd h
leveled-more (suc levels) (single l) h = leveled-more levels l h

-- the left half of a node in range
left_leveled : (levels : ℕ) (l r : Tree) → IsLeveled levels (node l r) → IsLeveled levels l
unfolding IsLeveled
left_leveled zero l r h = absurd h.0
left_leveled (suc levels) l r h = leveled-more levels l h.0

cut_at-leveled : (levels j : ℕ) (p : Tree) (n v : ℕ) (c : Tree) → IsLeveled levels p → cut_at j p n v ≡ Some c
    → IsLeveled levels c
unfolding IsLeveled
cut_at-leveled levels zero p n v c h e =
    elim (cases_lt v n) [
      | inl short ↦ absurd (cut_at-low_not p n v c short e)
      | inr all ↦ subst (IsLeveled levels) (cut_at-all 0 p n v c all e) h
    ]
cut_at-leveled levels (suc j) (hidden x) n v c h e =
    elim (cases_lt v n) [
      | inl short ↦ absurd (cut_at-hidden_not (suc j) x n v c short e)
      | inr all ↦ subst (IsLeveled levels) (cut_at-all (suc j) (hidden x) n v c all e) h
    ]
cut_at-leveled levels (suc j) (leaf t) n v c h e =
    elim (cases_lt v n) [
      | inl short ↦ absurd (cut_at-leaf_not (suc j) t n v c short e)
      | inr all ↦ subst (IsLeveled levels) (cut_at-all (suc j) (leaf t) n v c all e) h
    ]
cut_at-leveled zero (suc j) (node l r) n v c h e = absurd h.0
cut_at-leveled (suc levels) (suc j) (node l r) n v c h e =
    elim (cases_lt v n) [
      | inl short ↦ elim (cases_lt (2 ^ j) v) [
        | inl high ↦
            let inv = cut_at-right_inv j l r n v c short high e in
            subst (IsLeveled (suc levels)) inv.2 (h.0, cut_at-leveled levels j r (n - 2 ^ j) (v - 2 ^ j) inv.0 h.1 inv.1)
        | inr low ↦
            let inv = cut_at-left_inv j l r n v c short low e in
            subst (IsLeveled (suc levels)) inv.2 (cut_at-leveled levels j l (2 ^ j) v inv.0 h.0 inv.1)
      ]
      | inr all ↦ subst (IsLeveled (suc levels)) (cut_at-all (suc j) (node l r) n v c all e) h
    ]
cut_at-leveled zero (suc j) (single l) n v c h e = absurd h
cut_at-leveled (suc levels) (suc j) (single l) n v c h e =
    elim (cases_lt v n) [
      | inl short ↦
          let inv = cut_at-single_inv j l n v c short e in
          subst (IsLeveled (suc levels)) inv.2 (cut_at-leveled levels j l n v inv.0 h inv.1)
      | inr all ↦ subst (IsLeveled (suc levels)) (cut_at-all (suc j) (single l) n v c all e) h
    ]

cut_in-leveled : (levels j : ℕ) (p : Tree) (n v : ℕ) (c : Tree) → IsLeveled levels p → cut_in j p n v ≡ Some c
    → IsLeveled levels c
cut_in-leveled levels zero p n v c h e = cut_at-leveled levels 0 p n v c h (sym (cut_in-low 0 p n v refl) ∙ e)
cut_in-leveled levels (suc j) p n v c h e =
    elim (cases_lt (2 ^ j) v) [
      | inl high ↦ cut_at-leveled levels (suc j) p n v c h (sym (cut_in-up j p n v high) ∙ e)
      | inr low ↦
          let inv = left_some (λ l. cut_in j l (2 ^ j) v) p c (sym (cut_in-down j p n v low) ∙ e) in
          cut_in-leveled levels j inv.0 (2 ^ j) v c (left_leveled levels inv.0 inv.1 (subst (IsLeveled levels) inv.2 h)) inv.3
    ]

pub cut-spelled : (p : Tree) (n v : ℕ) (c : Tree) → IsSpelled p → cut p n v ≡ Some c → IsSpelled c
unfolding IsSpelled
cut-spelled p n v c h e = cut_in-leveled LEVELS_MAX (depth n) p n v c h (cut-is p n v c e).here

-- the same, of what the program cuts
pub cuts_spelled : (p : Tree) (n v : ℕ) (result : Result (Option Pruned) NoMemory)
    → IfOk result (λ c. option_map tree_view c ≡ cut p n v) → IsSpelled p
    → IfOk result (λ c. IfSome c (λ q. IsSpelled (tree_view q)))
cuts_spelled p n v (Ok None) h spelled = tt
cuts_spelled p n v (Ok (Some q)) h spelled = cut-spelled p n v (tree_view q) spelled (sym h)
cuts_spelled p n v (Err e) h spelled = tt

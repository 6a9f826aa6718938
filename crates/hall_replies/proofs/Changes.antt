-- The marks of the changes, and what the tree of the changes shows.
use Rattle.std.proofs.Common.{◌≡◌, ℕ, zero, suc, ◌+◌, ◌<◌, ◌≤◌, Bool, true, false, ◌||◌, List, [], ◌∷◌, ◌++◌, length, take, map, Option, Some, None, refl, ap, sym, subst, ◌∙◌, inl, inr, arith}
use Rattle.std.specs.Prelude.{nat_eq, slice_get, if◌then◌else◌}
use Rattle.std.specs.List.{list_any}
use Rattle.std.proofs.lemmas.Bool.{cases_eq, eq-eqb, ne_eqb}
use Rattle.std.proofs.lemmas.List.{length-map, length-take-le}
use Rattle.fr_bytes.specs.Bytes.{Text}
use Rattle.fr_digest.specs.Digest.{Digest}
use Rattle.op_types.specs.declared.op.Leaf.{Leaf}
use Rattle.op_types.specs.Kinds.{is_change}
use Rattle.op_types.specs.Spelling.{leaf_text}
use Rattle.tree_model.specs.History.{depth, part}
use Rattle.hist_proof.specs.Pruned.{Prunes}
use Rattle.hist_proof.specs.Shown.{shown}
use Rattle.tree_prune.specs.LeastHistory.{least, listed, marked, numbered, slots}
use Rattle.tree_prune.proofs.LeastLaws.{prunes, shows}
use Rattle.tree_prune.proofs.Marks.{numbered-same}
use Rattle.honest_replies.specs.HonestNews.{texts_of}
use Rattle.honest_replies.proofs.Lists.{below-at}
use Rattle.hall_replies.proofs.Vouches.{take-at}
use Rattle.hall_replies.specs.KeyOps.{change_marks, key_tree}

-- ---- which positions are changes

-- the leaf at a place is there and changes the access list
abbrev pub is_change_at : List Leaf → ℕ → Bool
is_change_at [] k = false
is_change_at (l ∷ L) zero = is_change l.op.kind
is_change_at (l ∷ L) (suc k) = is_change_at L k

-- The positions are those of the changes among the leaves.
abbrev pub AreChanges : List Leaf → List ℕ → Type 0
AreChanges L positions = (k : ℕ) → list_any (nat_eq k) positions ≡ is_change_at L k

numbered-next : {A : Type 0} (f : ℕ → A) (first n : ℕ) → numbered f (suc first) n ≡ numbered (λ k. f (suc k)) first n
numbered-next f first zero = refl
numbered-next f first (suc n) = ap (λ xs. f (suc first) ∷ xs) (numbered-next f (suc first) n)

marks-at : (L : List Leaf) → numbered (is_change_at L) 0 (length L) ≡ change_marks L
marks-at [] = refl
marks-at (l ∷ L) = ap (λ ms. is_change l.op.kind ∷ ms) (numbered-next (is_change_at (l ∷ L)) 0 (length L) ∙ marks-at L)

pub changes-listed : (L : List Leaf) (positions : List ℕ) → AreChanges L positions → listed positions (length L) ≡ change_marks L
changes-listed L positions are =
    numbered-same (λ k. list_any (nat_eq k) positions) (is_change_at L) 0 (length L) (λ k low below. are k) ∙ marks-at L

-- ---- one leaf more

behind : (L : List Leaf) (l : Leaf) (k : ℕ) → is_change l.op.kind ≡ false → is_change_at (L ++ l ∷ []) k ≡ is_change_at L k
behind [] l zero isnt = isnt
behind [] l (suc k) isnt = refl
behind (x ∷ L) l zero isnt = refl
behind (x ∷ L) l (suc k) isnt = behind L l k isnt

pub no-change-more : (L : List Leaf) (l : Leaf) (positions : List ℕ) → AreChanges L positions → is_change l.op.kind ≡ false
    → AreChanges (L ++ l ∷ []) positions
no-change-more L l positions are isnt k = are k ∙ sym (behind L l k isnt)

or_none : (b : Bool) → (b || false) ≡ b
or_none true = refl
or_none false = refl

or_true : (b : Bool) → (b || true) ≡ true
or_true true = refl
or_true false = refl

or_assoc : (a b c : Bool) → ((a || b) || c) ≡ (a || (b || c))
or_assoc true b c = refl
or_assoc false b c = refl

any-more : (k : ℕ) (positions : List ℕ) (n : ℕ) → list_any (nat_eq k) (positions ++ n ∷ []) ≡ (list_any (nat_eq k) positions || nat_eq k n)
any-more k [] n = or_none (nat_eq k n)
any-more k (p ∷ positions) n = ap (λ b. nat_eq k p || b) (any-more k positions n)
    ∙ sym (or_assoc (nat_eq k p) (list_any (nat_eq k) positions) (nat_eq k n))

at-here : (L : List Leaf) (l : Leaf) → is_change l.op.kind ≡ true → is_change_at (L ++ l ∷ []) (length L) ≡ true
at-here [] l is = is
at-here (x ∷ L) l is = at-here L l is

at-other : (L : List Leaf) (l : Leaf) (k : ℕ) → (k ≡ length L → ⊥) → is_change_at (L ++ l ∷ []) k ≡ is_change_at L k
at-other [] l zero other = absurd (other refl)
at-other [] l (suc k) other = refl
at-other (x ∷ L) l zero other = refl
at-other (x ∷ L) l (suc k) other = at-other L l k (λ same. other (ap suc same))

at-last : (L : List Leaf) (l : Leaf) (k : ℕ) → is_change l.op.kind ≡ true
    → is_change_at (L ++ l ∷ []) k ≡ (is_change_at L k || nat_eq k (length L))
at-last L l k is = elim (cases_eq k (length L)) [
  | inl same ↦ ap (is_change_at (L ++ l ∷ [])) same ∙ at-here L l is
      ∙ sym (ap (λ b. is_change_at L k || b) (eq-eqb k (length L) same) ∙ or_true (is_change_at L k))
  | inr other ↦ at-other L l k other
      ∙ sym (ap (λ b. is_change_at L k || b) (ne_eqb k (length L) other) ∙ or_none (is_change_at L k))
]

pub change-more : (L : List Leaf) (l : Leaf) (positions : List ℕ) → AreChanges L positions → is_change l.op.kind ≡ true
    → AreChanges (L ++ l ∷ []) (positions ++ length L ∷ [])
change-more L l positions are is k =
    any-more k positions (length L) ∙ ap (λ b. b || nat_eq k (length L)) (are k) ∙ sym (at-last L l k is)

-- ---- steps along the leaves

pub changed-step : (L : List Leaf) (k : ℕ) (l : Leaf) (positions new : List ℕ) → slice_get L k ≡ Some l → AreChanges (take k L) positions
    → is_change l.op.kind ≡ true → new ≡ positions ++ k ∷ [] → AreChanges (take (k + 1) L) new
changed-step L k l positions new at are is made =
    let below = below-at L k l at in
    let size = length-take-le k L (omega arith) in
    let own : AreChanges (take k L ++ l ∷ []) (positions ++ k ∷ []) =
    subst (λ n. AreChanges (take k L ++ l ∷ []) (positions ++ n ∷ [])) size (change-more (take k L) l positions are is) in
    subst (λ ls. AreChanges ls new) (sym (take-at L k l at))
    (subst (λ (ps : List ℕ). AreChanges (take k L ++ l ∷ []) ps) (sym made) own)

pub unchanged-step : (L : List Leaf) (k : ℕ) (l : Leaf) (positions new : List ℕ) → slice_get L k ≡ Some l → AreChanges (take k L) positions
    → is_change l.op.kind ≡ false → new ≡ positions → AreChanges (take (k + 1) L) new
unchanged-step L k l positions new at are isnt same =
    subst (λ ls. AreChanges ls new) (sym (take-at L k l at))
    (subst (λ (ps : List ℕ). AreChanges (take k L ++ l ∷ []) ps) (sym same) (no-change-more (take k L) l positions are isnt))

pub changes-end : (L : List Leaf) (k size : ℕ) (positions : List ℕ) → k ≡ size → size ≤ length L → AreChanges (take k L) positions
    → listed positions size ≡ change_marks (take size L)
changes-end L k size positions same within are =
    let count = length-take-le size L within in
    ap (listed positions) (sym count)
    ∙ changes-listed (take size L) positions (subst (λ n. AreChanges (take n L) positions) same are)

-- ---- the tree

-- the text of a leaf that changes the access list, and of no other
abbrev pub change_text : Leaf → Option Text
change_text leaf = if is_change leaf.op.kind then Some (leaf_text leaf) else None

numbered-at : {A B : Type 0} (f : ℕ → A) (g : B → A) (first : ℕ) (xs : List B) → numbered f first (length xs) ≡ map g xs
    → (k : ℕ) (x : B) → slice_get xs k ≡ Some x → f (first + k) ≡ g x
numbered-at f g first [] same k x at = absurd cc
numbered-at f g first (y ∷ ys) same zero x at =
    let e : first + 0 ≡ first = omega arith in
    let head : f first ≡ g y = cc in
    let own : y ≡ x = cc in
    ap f e ∙ head ∙ ap g own
numbered-at f g first (y ∷ ys) same (suc k) x at =
    let e : first + suc k ≡ suc first + k = omega arith in
    let rest : numbered f (suc first) (length ys) ≡ map g ys = cc in
    ap f e ∙ numbered-at f g (suc first) ys rest k x at

length-texts : (L : List Leaf) → length (texts_of L) ≡ length L
length-texts L = length-map L leaf_text

marked-changes : (L : List Leaf) → marked (texts_of L) (change_marks L) ≡ map change_text L
marked-changes [] = refl
marked-changes (l ∷ L) = ap (λ xs. change_text l ∷ xs) (marked-changes L)

module _ (d : Digest) (L : List Leaf) (some : 0 < length L) where
  tree-is : key_tree d L ≡ least (part d) (depth (length (texts_of L))) (texts_of L) (change_marks L) []
  unfolding key_tree
  tree-is = ap (λ n. least (part d) (depth n) (texts_of L) (change_marks L) []) (sym (length-texts L))

  pub key-prunes : Prunes d (key_tree d L) (texts_of L)
  key-prunes = rw tree-is (prunes d (texts_of L) (change_marks L) [] (let size = length-texts L in omega arith))

  key-slots : slots (key_tree d L) (length L) ≡ map change_text L
  key-slots =
      let size = length-texts L in
      let marks : length (change_marks L) ≡ length (texts_of L) = length-map L (λ (l : Leaf). is_change l.op.kind) ∙ sym size in
      ap (slots (key_tree d L)) (sym size) ∙ ap (λ p. slots p (length (texts_of L))) tree-is
      ∙ shows d (texts_of L) (change_marks L) [] (omega arith) marks ∙ marked-changes L

  pub key-shows : (k : ℕ) (l : Leaf) → slice_get L k ≡ Some l → shown (key_tree d L) (length L) k ≡ change_text l
  key-shows k l at =
      let e : k ≡ 0 + k = omega arith in
      ap (shown (key_tree d L) (length L)) e
      ∙ numbered-at (shown (key_tree d L) (length L)) change_text 0 L key-slots k l at

-- Lawful histories leaf by leaf.
use Rattle.std.proofs.Common.{◌≡◌, ◌↔◌, ℕ, zero, suc, ◌+◌, ◌<◌, ◌≤◌, List, [], ◌∷◌, ◌++◌, length, take, Some, None, refl, ap, sym, subst, ◌∙◌, inl, inr, arith}
use Rattle.std.specs.Prelude.{slice_get}
use Rattle.std.proofs.lemmas.Bool.{cases_lt}
use Rattle.std.proofs.lemmas.List.{take-take}
use Rattle.fr_digest.specs.Digest.{Digest}
use Rattle.op_types.specs.declared.op.Leaf.{Leaf}
use Rattle.wall_law.specs.State.{state_of}
use Rattle.wall_law.specs.Law.{law}
use Rattle.wall_law.specs.Lawful.{told, told_of, ComesNext, IsLawfulAt, Lawful}
use Rattle.wall_law.proofs.Histories.{lawful-take, state_of-next}

pub lawful-nil : (d : Digest) (owner wall : ℕ) → Lawful d owner wall []
lawful-nil d owner wall k leaf at = absurd cc

-- ---- the first leaves decide

take-fewer : (n k : ℕ) (left right : List Leaf) → take n left ≡ take n right → k ≤ n → take k left ≡ take k right
take-fewer n k left right same fewer = sym (take-take k n left fewer) ∙ ap (take k) same ∙ take-take k n right fewer

-- whether a position is lawful depends on the leaves up to it alone
pub lawful_at-prefix : (d : Digest) (owner wall : ℕ) (left right : List Leaf) (n k : ℕ) (leaf : Leaf) → take n left ≡ take n right → k < n → IsLawfulAt d owner wall left k leaf → IsLawfulAt d owner wall right k leaf
lawful_at-prefix d owner wall left right n k leaf same below at =
    let before = take-fewer n k left right same (omega arith) in
    let behind = take-fewer n (k + 1) left right same (omega arith) in
    record {
      lawful = subst (λ (ls : List Leaf). law (state_of owner ls) wall k leaf.op ≡ None) before at.lawful;
      tells = subst (λ (ls : List Leaf). told leaf ≡ told_of d (state_of owner ls)) behind at.tells;
    }

place-take : (n k : ℕ) (leaves : List Leaf) (leaf : Leaf) → k < n → slice_get leaves k ≡ Some leaf → slice_get (take n leaves) k ≡ Some leaf
place-take zero k leaves leaf below at = absurd (omega arith)
place-take (suc n) k [] leaf below at = at
place-take (suc n) zero (l ∷ leaves) leaf below at = at
place-take (suc n) (suc k) (l ∷ leaves) leaf below at = place-take n k leaves leaf (omega arith) at

-- a history whose first leaves are a lawful history, and whose later positions are lawful one by one
pub lawful-rest : (d : Digest) (owner wall : ℕ) (leaves : List Leaf) (n : ℕ) → Lawful d owner wall (take n leaves) → ((k : ℕ) (leaf : Leaf) → n ≤ k → slice_get leaves k ≡ Some leaf → IsLawfulAt d owner wall leaves k leaf) → Lawful d owner wall leaves
lawful-rest d owner wall leaves n first rest k leaf at = elim (cases_lt k n) [
  | inl below ↦ lawful_at-prefix d owner wall (take n leaves) leaves n k leaf (take-take n n leaves (omega arith)) below (first k leaf (place-take n k leaves leaf below at))
  | inr behind ↦ rest k leaf behind at
]

-- ---- one leaf more

take-front : (leaves more : List Leaf) → take (length leaves) (leaves ++ more) ≡ leaves
take-front [] more = refl
take-front (l ∷ leaves) more = ap (λ (ls : List Leaf). l ∷ ls) (take-front leaves more)

last-place : (leaves : List Leaf) (leaf : Leaf) → slice_get (leaves ++ leaf ∷ []) (length leaves) ≡ Some leaf
last-place [] leaf = refl
last-place (l ∷ leaves) leaf = last-place leaves leaf

only-last : (leaves : List Leaf) (leaf other : Leaf) (k : ℕ) → length leaves ≤ k → slice_get (leaves ++ leaf ∷ []) k ≡ Some other → (k ≡ length leaves) × (leaf ≡ other)
only-last [] leaf other zero behind at = (refl, let same : leaf ≡ other = cc in same)
only-last [] leaf other (suc k) behind at = absurd cc
only-last (l ∷ leaves) leaf other zero behind at = absurd (omega arith)
only-last (l ∷ leaves) leaf other (suc k) behind at = let it = only-last leaves leaf other k (omega arith) at in ((let same = it.0 in omega arith), it.1)

-- a position is lawful exactly where its leaf comes next after those before it
pub lawful_at-next : (d : Digest) (owner wall : ℕ) (leaves : List Leaf) (k : ℕ) (leaf : Leaf) → slice_get leaves k ≡ Some leaf → IsLawfulAt d owner wall leaves k leaf ↔ ComesNext d (state_of owner (take k leaves)) wall k leaf
lawful_at-next d owner wall leaves k leaf at =
    let next = state_of-next owner leaves k leaf at in
    ((λ it. (it.lawful, it.tells ∙ ap (told_of d) next)), (λ it. record { lawful = it.0; tells = it.1 ∙ sym (ap (told_of d) next) }))

-- A history and one leaf more is lawful exactly where the history is and the leaf comes next.
pub lawful-snoc : (d : Digest) (owner wall : ℕ) (leaves : List Leaf) (leaf : Leaf) → Lawful d owner wall (leaves ++ leaf ∷ []) ↔ Lawful d owner wall leaves × ComesNext d (state_of owner leaves) wall (length leaves) leaf
lawful-snoc d owner wall leaves leaf =
    let front = take-front leaves (leaf ∷ []) in
    let last = lawful_at-next d owner wall (leaves ++ leaf ∷ []) (length leaves) leaf (last-place leaves leaf) in
    let there = λ (it : Lawful d owner wall (leaves ++ leaf ∷ [])).
    let first = subst (λ (ls : List Leaf). Lawful d owner wall ls) front (lawful-take d owner wall (leaves ++ leaf ∷ []) (length leaves) it) in
    let next = subst (λ (ls : List Leaf). ComesNext d (state_of owner ls) wall (length leaves) leaf) front (last.0 (it (length leaves) leaf (last-place leaves leaf))) in
    let both : Lawful d owner wall leaves × ComesNext d (state_of owner leaves) wall (length leaves) leaf = (first, next) in both in
    let back = λ (it : Lawful d owner wall leaves × ComesNext d (state_of owner leaves) wall (length leaves) leaf).
    let first = subst (λ (ls : List Leaf). Lawful d owner wall ls) (sym front) it.0 in
    let next = last.1 (subst (λ (ls : List Leaf). ComesNext d (state_of owner ls) wall (length leaves) leaf) (sym front) it.1) in
    lawful-rest d owner wall (leaves ++ leaf ∷ []) (length leaves) first
    (λ k other behind at.
    let place = only-last leaves leaf other k behind at in
    let here = subst (λ (l : Leaf). IsLawfulAt d owner wall (leaves ++ leaf ∷ []) (length leaves) l) place.1 next in
    subst (λ (n : ℕ). IsLawfulAt d owner wall (leaves ++ leaf ∷ []) n other) (sym place.0) here) in
    (there, back)

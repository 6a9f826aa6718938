-- The items of leaves: their leaves, their texts, and one more of them.
use Rattle.std.proofs.Common.{◌≡◌, ◌∙◌, ℕ, List, [], ◌∷◌, ◌++◌, length, refl, ap}
use Rattle.std.proofs.lemmas.List.{length-map}
use Rattle.std.specs.Prelude.{map}
use Rattle.fr_bytes.proofs.Lists.{scan-append}
use Rattle.op_types.specs.declared.op.Leaf.{Leaf}
use Rattle.op_types.specs.Spelling.{leaf_text}
use Rattle.wall_law.specs.declared.state.State.{State}
use Rattle.wall_law.specs.State.{after, opening, state_of}
use Rattle.hall_core.specs.declared.item.Item.{Item}
use Rattle.hall_core.specs.PlainWall.{texts_of}
use Rattle.hall_core.specs.Standing.{item_of, items_from, items_of}

pub items-leaves : (D : Type 0) (s : State) (leaves : List Leaf)
    → map (λ (item : Item D). item.leaf) (items_from {D = D} s leaves) ≡ leaves
items-leaves D s [] = refl
items-leaves D s (leaf ∷ leaves) = ap (λ (xs : List Leaf). leaf ∷ xs) (items-leaves D (after s leaf.op) leaves)

pub items-texts : (D : Type 0) (s : State) (leaves : List Leaf)
    → map (λ (item : Item D). item.text) (items_from {D = D} s leaves) ≡ texts_of leaves
items-texts D s [] = refl
items-texts D s (leaf ∷ leaves) =
    ap (λ (xs : List (List ℕ)). leaf_text leaf ∷ xs) (items-texts D (after s leaf.op) leaves)

pub items-more : (D : Type 0) (owner : ℕ) (leaves : List Leaf) (leaf : Leaf)
    → items_of {D = D} owner (leaves ++ leaf ∷ []) ≡ items_of {D = D} owner leaves
    ++ item_of (state_of owner leaves) leaf ∷ []
items-more D owner leaves leaf =
    scan-append (λ (t : State) (l : Leaf). after t l.op) item_of (opening owner) leaves (leaf ∷ [])

-- ---- of a history that has these items

pub history-texts : (D : Type 0) (owner : ℕ) (leaves : List Leaf) (history : List (Item D))
    → history ≡ items_of owner leaves
    → map (λ (item : Item D). item.text) history ≡ texts_of leaves
history-texts D owner leaves history same =
    ap (λ (items : List (Item D)). map (λ (item : Item D). item.text) items) same ∙ items-texts D (opening owner) leaves

pub history-leaves : (D : Type 0) (owner : ℕ) (leaves : List Leaf) (history : List (Item D))
    → history ≡ items_of owner leaves
    → map (λ (item : Item D). item.leaf) history ≡ leaves
history-leaves D owner leaves history same =
    ap (λ (items : List (Item D)). map (λ (item : Item D). item.leaf) items) same
    ∙ items-leaves D (opening owner) leaves

pub length-leaves : (D : Type 0) (history : List (Item D))
    → length (map (λ (item : Item D). item.leaf) history) ≡ length history
length-leaves D history = length-map history (λ (item : Item D). item.leaf)

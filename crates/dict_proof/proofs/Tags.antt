-- What is read at the front of a text, by its tag.
use Rattle.std.proofs.Common.{◌≡◌, ℕ, zero, suc, ◌-◌, ◌<◌, false, [], ◌∷◌, None, refl, sym, inl, inr, arith}
use Rattle.std.proofs.Math.Dec.{eqb}
use Rattle.std.proofs.lemmas.Bool.Decides.{eqb_tells}
use Rattle.fr_bytes.specs.Bytes.{Text}
use Rattle.fr_bytes.specs.Reading.{Reader}
use Rattle.pruned_list.specs.PrunedList.{PrunedList}
use Rattle.dict_proof.specs.Spelling.{behind_at, hidden_at, list_at, node_at}
use Rattle.dict_proof.proofs.Views.{list_views}

pub list_at-low : (n : ℕ) (bytes : Text) → n ≡ 0 → list_at n bytes ≡ None
unfolding list_at
list_at-low zero bytes low = refl
list_at-low (suc n) bytes low = absurd (omega arith)

pub list_at-empty : (n : ℕ) → list_at n [] ≡ None
unfolding list_at
list_at-empty zero = refl
list_at-empty (suc n) = refl

pub list_at-hidden : (n : ℕ) (bytes : Text) → 0 < n → list_at n (0 ∷ bytes) ≡ hidden_at bytes
unfolding list_at behind_at
list_at-hidden zero bytes above = absurd (omega arith)
list_at-hidden (suc n) bytes above = refl

pub list_at-node : (n : ℕ) (bytes : Text) → 0 < n → list_at n (1 ∷ bytes) ≡ node_at (list_at (n - 1)) bytes
unfolding list_at behind_at
list_at-node zero bytes above = absurd (omega arith)
list_at-node (suc n) bytes above = let below : suc n - 1 ≡ n = omega arith in rw below refl

differ-eqb : (a b : ℕ) → (a ≡ b → ⊥) → eqb a b ≡ false
differ-eqb a b apart = elim (eqb_tells a b) [ inl same ↦ absurd (apart same.1) | inr not ↦ not.0 ]

other_tag : (below : Reader PrunedList) (tag : ℕ) (bytes : Text) → (tag ≡ 0 → ⊥) → (tag ≡ 1 → ⊥)
    → behind_at below tag bytes ≡ None
unfolding behind_at
other_tag below tag bytes n0 n1 = rw (differ-eqb 0 tag (λ e. n0 (sym e)), differ-eqb 1 tag (λ e. n1 (sym e))) refl

pub list_at-other : (n tag : ℕ) (bytes : Text) → (tag ≡ 0 → ⊥) → (tag ≡ 1 → ⊥) → list_at n (tag ∷ bytes) ≡ None
unfolding list_at
list_at-other zero tag bytes n0 n1 = refl
list_at-other (suc n) tag bytes n0 n1 = other_tag (list_at n) tag bytes n0 n1

pub ruleset read_steps = (list_views, list_at-low, list_at-empty, list_at-hidden, list_at-node, list_at-other)

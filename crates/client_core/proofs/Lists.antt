-- Facts of each element, and folds from a place on.
use Rattle.std.proofs.Common.{◌≡◌, ℕ, zero, suc, ◌+◌, ◌<◌, List, [], ◌∷◌, length, drop, get_or, set, true, false, refl, arith, drop-cons, add-one}
use Rattle.std.specs.List.{AllByRecursion}
use Rattle.op_types.specs.declared.op.Leaf.{Leaf}
use Rattle.op_types.specs.declared.op.Op.{Op}
use Rattle.op_types.specs.Kinds.{is_change}
use Rattle.check_rules.specs.Shown.{changes_of}
use Rattle.client_core.specs.Keys.{KeysView, after_change, after_changes}
use Rattle.client_core.specs.Taking.{epoch_after}

pub all_at : {A : Type 0} (P : A → Type 0) (xs : List A) (i : ℕ) (d : A) → AllByRecursion P xs → i < length xs
    → P (get_or xs i d)
all_at P [] i d a h = absurd (omega arith)
all_at P (x ∷ xs) zero d a h = a.0
all_at P (x ∷ xs) (suc i) d a h = all_at P xs i d a.1 (omega arith)

pub all_set : {A : Type 0} (P : A → Type 0) (xs : List A) (i : ℕ) (v : A) → AllByRecursion P xs → P v
    → AllByRecursion P (set xs i v)
all_set P [] i v a h = a
all_set P (x ∷ xs) zero v a h = (h, a.1)
all_set P (x ∷ xs) (suc i) v a h = (a.0, all_set P xs i v a.1 h)

-- ---- the epoch after leaves

pub epoch-step : (leaves : List Leaf) (i e : ℕ) (d : Leaf) → i < length leaves
    → epoch_after e (drop i leaves) ≡ epoch_after (get_or leaves i d).epoch (drop (i + 1) leaves)
epoch-step leaves i e d h = rw (add-one, drop-cons leaves i d) refl

-- ---- changes among leaves

pub changes-yes : (leaves : List Leaf) (i : ℕ) (d : Leaf) → i < length leaves
    → is_change (get_or leaves i d).op.kind ≡ true
    → changes_of (drop i leaves) ≡ (get_or leaves i d).op ∷ changes_of (drop (i + 1) leaves)
changes-yes leaves i d h is = rw (add-one, drop-cons leaves i d, is) refl

pub changes-no : (leaves : List Leaf) (i : ℕ) (d : Leaf) → i < length leaves
    → is_change (get_or leaves i d).op.kind ≡ false
    → changes_of (drop i leaves) ≡ changes_of (drop (i + 1) leaves)
changes-no leaves i d h other = rw (add-one, drop-cons leaves i d, other) refl

-- ---- changes that are learnt

pub learnt-step : (keys : KeysView) (ops : List Op) (i : ℕ) (d : Op) → i < length ops
    → after_changes keys (drop i ops) ≡ after_changes (after_change keys (get_or ops i d)) (drop (i + 1) ops)
learnt-step keys ops i d h = rw (add-one, drop-cons ops i d) refl

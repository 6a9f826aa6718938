-- Lists that are read or tested element after element.
use Rattle.std.proofs.Common.{◌≡◌, ℕ, ◌+◌, ◌<◌, ◌≤◌, List, [], ◌∷◌, ◌++◌, length, get_or, drop, add-one, Ok, Err, refl, sym, subst, ◌∙◌}
use Rattle.std.specs.Prelude.{⊤}
use Rattle.std.proofs.lemmas.List.{drop_all}
use Rattle.std.proofs.Math.Seq.{drop-cons}
use Rattle.serde_json.specs.Data.{Data}
use Rattle.serde_json.specs.View.{view, items_view}
use Rattle.serde_json.specs.declared.value.Value.{Value}
use Rattle.serde_json.proofs.Views.{items_len-items_view, members_len-members_view}
use Rattle.script_read.specs.declared.refusal.ScriptRefusal.{ScriptRefusal}
use Rattle.script_read.specs.Refusal.{Checked, ◌>>=◌, Gives}
use Rattle.script_read.specs.Elements.{each, every}
use Rattle.script_read.proofs.Steps.{passed}

pub ruleset counts = (items_len-items_view, members_len-members_view)

-- the element at a place, and those behind it
pub rest_at : {X : Type 0} (xs : List X) (i : ℕ) (x : X) → i < length xs → x ≡ get_or xs i x
    → drop i xs ≡ x ∷ drop (i + 1) xs
rest_at xs i x lt e = drop-cons xs i x lt ∙ rw (← e, add-one) refl

-- ---- elements that are read

module _ {A : Type 0} (one : List A → Data → Checked A) (values : List Value) (whole : Checked (List A)) where
  -- what the elements from a place on give, behind those before it
  abbrev pub from_at : List A → ℕ → Checked (List A)
  from_at done i = each one done (items_view (drop i values))

  -- the element at the place first, and then those behind it
  each_step : (done : List A) (i : ℕ) (value : Value) → i < length values → value ≡ get_or values i value
      → from_at done i ≡ (one done (view value) >>= λ x. from_at (done ++ x ∷ []) (i + 1))
  each_step done i value lt is = rw (rest_at values i value lt is) refl

  pub each_more : (done : List A) (i : ℕ) (value : Value) (x : A)
      → i < length values → value ≡ get_or values i value
      → one done (view value) ≡ Ok x → from_at done i ≡ whole → from_at (done ++ x ∷ []) (i + 1) ≡ whole
  each_more done i value x lt is read so = rw read at (sym (each_step done i value lt is) ∙ so)

  pub each_refused : (done : List A) (i : ℕ) (value : Value) (e : ScriptRefusal)
      → i < length values → value ≡ get_or values i value → Gives {X = A} (λ x. x) (Err e) (one done (view value))
      → from_at done i ≡ whole → Gives {X = List A} (λ v. v) (Err e) whole
  each_refused done i value e lt is read so =
      subst (λ step. Gives {X = List A} (λ v. v) (Err e) step) (sym (each_step done i value lt is) ∙ so)
      (passed (λ x. x) (λ (v : List A). v) e (one done (view value)) (λ x. from_at (done ++ x ∷ []) (i + 1)) read)

  pub each_done : (done : List A) (i : ℕ) → length values ≤ i → from_at done i ≡ whole → whole ≡ Ok done
  each_done done i le so = sym so ∙ rw (drop_all i values le) refl

-- ---- elements that are tested

module _ {A : Type 0} (one : A → Checked ⊤) (xs : List A) (whole : Checked ⊤) where
  every_step : (i : ℕ) (x : A) → i < length xs → x ≡ get_or xs i x
      → every one (drop i xs) ≡ (one x >>= λ u. every one (drop (i + 1) xs))
  every_step i x lt is = rw (rest_at xs i x lt is) refl

  pub every_more : (i : ℕ) (x : A) (u : ⊤) → i < length xs → x ≡ get_or xs i x → one x ≡ Ok u
      → every one (drop i xs) ≡ whole → every one (drop (i + 1) xs) ≡ whole
  every_more i x u lt is read so = rw read at (sym (every_step i x lt is) ∙ so)

  pub every_refused : (i : ℕ) (x : A) (e : ScriptRefusal)
      → i < length xs → x ≡ get_or xs i x → Gives {X = ⊤} (λ u. u) (Err e) (one x)
      → every one (drop i xs) ≡ whole → Gives {X = ⊤} (λ u. u) (Err e) whole
  every_refused i x e lt is read so =
      subst (λ step. Gives {X = ⊤} (λ u. u) (Err e) step) (sym (every_step i x lt is) ∙ so)
      (passed (λ u. u) (λ (u : ⊤). u) e (one x) (λ u. every one (drop (i + 1) xs)) read)

  pub every_done : (i : ℕ) → length xs ≤ i → every one (drop i xs) ≡ whole → whole ≡ Ok tt
  every_done i le so = sym so ∙ rw (drop_all i xs le) refl

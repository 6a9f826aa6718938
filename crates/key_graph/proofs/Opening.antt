-- A book's keys after wraps, taken one after the other.
use Rattle.std.proofs.Common.{◌≡◌, ℕ, ◌+◌, ◌/◌, inl, inr, Bool, true, false, cond, Less, Equal, Greater, ◌&&◌, List, [], ◌∷◌, Option, Some, None, get_or, take, length, ◌<◌, refl, ap, sym, ◌∙◌}
use Rattle.std.specs.Prelude.{if◌then◌else◌, nat_eq, nat_lt, unwrap_or}
use Rattle.std.proofs.lemmas.Bool.{eq-eqb}
use Rattle.std.proofs.lemmas.List.Sums.{fold_more}
use Rattle.std.specs.BTreeMap.{BTreeMap, Updates}
use Rattle.std.specs.Ordering.{nat_cmp, is_eq}
use Rattle.std.proofs.lemmas.Bool.Decides.{eqb_tells}
use Rattle.fr_bytes.specs.Bytes.{Text}
use Rattle.op_types.specs.declared.kind.Wrap.{Wrap}
use Rattle.pad_wrap.specs.Pad.{padded}
use Rattle.key_graph.specs.declared.node_keys.NodeKey.{NodeKey}
use Rattle.key_graph.specs.KeyTree.{wrap_stream}
use Rattle.key_graph.specs.KeyBook.{Keys, with_key, with_opened, child_key, opened, opened_all}
use Rattle.key_graph.specs.NodeKeys.{key_in}
use Rattle.key_graph.specs.Held.{in_place, keys_of}

pub and_false : (b : Bool) → (b && false) ≡ false
and_false true = refl
and_false false = refl

and_true : (b : Bool) → (b && true) ≡ b
and_true true = refl
and_true false = refl

pub flipped : (g h : ℕ) → (h ≡ g → ⊥) → nat_eq g h ≡ false
flipped g h n = elim (eqb_tells g h) [ inl e ↦ absurd (n (sym e.1)) | inr e ↦ e.0 ]

-- a key of another generation stays
pub with_key-other : (keys : Keys) (n g : ℕ) (key : Text) (x h : ℕ) → nat_eq g h ≡ false → with_key keys n g key x h ≡ keys x h
with_key-other keys n g key x h e = rw (e, and_false (nat_eq n x)) refl

pub opened-other : (t : ℕ) (leaf : Text) (slot : Option ℕ) (g : ℕ) (keys : Keys) (w : Wrap) (x h : ℕ) → nat_eq g h ≡ false → opened t leaf slot g keys w x h ≡ keys x h
opened-other t leaf slot g keys w x h e =
    elim (child_key t leaf slot keys w.child w.child_gen) as (λ o. with_opened keys g w o x h ≡ keys x h) [
      | None ↦ refl
      | Some key ↦ with_key-other keys (w.child / 2) g (padded key (wrap_stream (w.child / 2) g) w.body) x h e
    ]

pub all-other : (t : ℕ) (leaf : Text) (slot : Option ℕ) (g : ℕ) (keys : Keys) (ws : List Wrap) (x h : ℕ) → nat_eq g h ≡ false → opened_all t leaf slot g keys ws x h ≡ keys x h
all-other t leaf slot g keys [] x h e = refl
all-other t leaf slot g keys (w ∷ ws) x h e =
    all-other t leaf slot g (opened t leaf slot g keys w) ws x h e ∙ opened-other t leaf slot g keys w x h e

-- the list stands for the keys of its generation
same_keys : (keys after : Keys) (g : ℕ) (fresh : List NodeKey) → ((x : ℕ) → key_in x fresh ≡ after x g)
    → ((x h : ℕ) → nat_eq g h ≡ false → after x h ≡ keys x h) → (x h : ℕ) → in_place keys g fresh x h ≡ after x h
same_keys keys after g fresh here others x h =
    elim (eqb_tells h g) [
      | inl e ↦ (rw (e.0) (here x ∙ ap (after x) (sym e.1)))
      | inr e ↦ (rw (e.0) (sym (others x h (flipped g h e.1))))
    ]

same_function : (keys after : Keys) (g : ℕ) (fresh : List NodeKey) → ((x : ℕ) → key_in x fresh ≡ after x g)
    → ((x h : ℕ) → nat_eq g h ≡ false → after x h ≡ keys x h) → in_place keys g fresh ≡ after
same_function keys after g fresh here others = λ i x h. same_keys keys after g fresh here others x h i

module _ (t : ℕ) (leaf : Text) (slot : Option ℕ) (g : ℕ) (keys : Keys) (ws : List Wrap) where
  abbrev sofar : ℕ → Keys
  sofar i = opened_all t leaf slot g keys (take i ws)

  step : (i : ℕ) (d : Wrap) → i < length ws → sofar (i + 1) ≡ opened t leaf slot g (sofar i) (get_or ws i d)
  step i d h = fold_more (opened t leaf slot g) keys ws i d h

  -- a wrap whose child's key isn't held
  pub skipped : (i : ℕ) (d : Wrap) (fresh : List NodeKey) → i < length ws → ((x : ℕ) → key_in x fresh ≡ sofar i x g)
      → None ≡ child_key t leaf slot (in_place keys g fresh) (get_or ws i d).child (get_or ws i d).child_gen
      → (x : ℕ) → key_in x fresh ≡ sofar (i + 1) x g
  skipped i d fresh h here none x =
      let same : in_place keys g fresh ≡ sofar i = same_function keys (sofar i) g fresh here (λ y k. all-other t leaf slot g keys (take i ws) y k) in
      let w = get_or ws i d in
      let e : None ≡ child_key t leaf slot (sofar i) w.child w.child_gen = none ∙ ap (λ ks. child_key t leaf slot ks w.child w.child_gen) same in
      here x ∙ (ap (λ o. with_opened (sofar i) g w o x g) e ∙ sym (ap (λ ks. ks x g) (step i d h)))

  -- a wrap that is opened
  pub put : (i : ℕ) (d : Wrap) (fresh fresh' : List NodeKey) (key : Text) → i < length ws → ((x : ℕ) → key_in x fresh ≡ sofar i x g)
      → Some key ≡ child_key t leaf slot (in_place keys g fresh) (get_or ws i d).child (get_or ws i d).child_gen
      → ((x : ℕ) → key_in x fresh' ≡ (if nat_eq ((get_or ws i d).child / 2) x then Some (padded key (wrap_stream ((get_or ws i d).child / 2) g) (get_or ws i d).body) else key_in x fresh))
      → (x : ℕ) → key_in x fresh' ≡ sofar (i + 1) x g
  put i d fresh fresh' key h here some new x =
      let same : in_place keys g fresh ≡ sofar i = same_function keys (sofar i) g fresh here (λ y k. all-other t leaf slot g keys (take i ws) y k) in
      let w = get_or ws i d in
      let e : Some key ≡ child_key t leaf slot (sofar i) w.child w.child_gen = some ∙ ap (λ ks. child_key t leaf slot ks w.child w.child_gen) same in
      let n : key_in x fresh' ≡ with_opened (sofar i) g w (Some key) x g =
      new x ∙ (rw (here x, eq-eqb g g refl, and_true (nat_eq (w.child / 2) x)) refl) in
      n ∙ (ap (λ o. with_opened (sofar i) g w o x g) e ∙ sym (ap (λ ks. ks x g) (step i d h)))

-- ---- a book's keys, by generation

unequal : (b : Bool) → is_eq (cond b Less (cond false Equal Greater)) ≡ false
unequal true = refl
unequal false = refl

apart : (g h : ℕ) → (g ≡ h → ⊥) → is_eq (nat_cmp g h) ≡ false
apart g h n = rw (flipped g h (λ e. n (sym e))) (unequal (nat_lt g h))

kept_at : (t : ℕ) (leaf : Text) (slot : Option ℕ) (g : ℕ) (m n : BTreeMap ℕ (List NodeKey)) (ws : List Wrap) (fresh : List NodeKey)
    → Updates nat_cmp m n g (Some fresh) → ((x : ℕ) → key_in x fresh ≡ opened_all t leaf slot g (keys_of m) ws x g)
    → (x h : ℕ) → keys_of n x h ≡ opened_all t leaf slot g (keys_of m) ws x h
kept_at t leaf slot g m n ws fresh u here x h =
    elim (eqb_tells g h) [
      | inl e ↦ (ap (keys_of n x) (sym e.1) ∙ (ap (λ o. key_in x (unwrap_or o [])) u.1 ∙ (here x ∙ ap (opened_all t leaf slot g (keys_of m) ws x) e.1)))
      | inr e ↦ (ap (λ o. key_in x (unwrap_or o [])) (u.2 h (apart g h e.1)) ∙ sym (all-other t leaf slot g (keys_of m) ws x h e.0))
    ]

pub kept_by : (t : ℕ) (leaf : Text) (slot : Option ℕ) (g : ℕ) (m n : BTreeMap ℕ (List NodeKey)) (ws : List Wrap) (fresh : List NodeKey)
    → Updates nat_cmp m n g (Some fresh) → ((x : ℕ) → key_in x fresh ≡ opened_all t leaf slot g (keys_of m) ws x g)
    → keys_of n ≡ opened_all t leaf slot g (keys_of m) ws
kept_by t leaf slot g m n ws fresh u here = λ i x h. kept_at t leaf slot g m n ws fresh u here x h i

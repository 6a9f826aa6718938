-- The keys of a client that learns the changes of a wall.
use Rattle.std.proofs.Common.{◌≡◌, ◌∙◌, ◌⊎◌, inl, inr, ℕ, ◌+◌, ◌<◌, ◌≤◌, true, List, [], ◌∷◌, ◌++◌, length, take, drop, map, filter, refl, sym, ap, arith, length-append, eq-eqb}
use Rattle.std.specs.Prelude.{nat_eq}
use Rattle.std.proofs.lemmas.Bool.{cases_Bool, cases_lt, cond-false, cond-true, eqb-true}
use Rattle.std.proofs.lemmas.List.{map-append, take-append-drop}
use Rattle.std.proofs.lemmas.List.Elements.{filter-append}
use Rattle.std.proofs.lemmas.List.Sums.{fold-append}
use Rattle.fr_bytes.specs.Bytes.{Text}
use Rattle.op_types.specs.declared.kind.Kind.{Kind}
use Rattle.op_types.specs.declared.kind.Kind.TheVariants.{Post, Admit, Remove}
use Rattle.op_types.specs.declared.op.Leaf.{Leaf}
use Rattle.op_types.specs.declared.op.Op.{Op}
use Rattle.op_types.specs.Kinds.{is_change}
use Rattle.key_graph.specs.KeyBook.{learnt}
use Rattle.key_graph.specs.KeyTree.{Tree, followed_by}
use Rattle.check_rules.specs.Shown.{changes_of}
use Rattle.client_core.specs.Keys.{KeysView, after_change, after_changes, epochs_of, followed, fresh, held, member, owner}
use Rattle.client_core.specs.Taking.{keys_after}
use Rattle.run_laws.specs.Following.{keys_of}
use Rattle.run_laws.proofs.Fronts.{drop-between}

-- ---- one change

tree-epochs : (tree : Tree) (secrets : List (ℕ × Text)) (g : ℕ) (kind : Kind) → is_change kind ≡ true
    → (followed tree secrets g kind).epochs ≡ tree.epochs ++ g ∷ []
unfolding followed_by
tree-epochs tree secrets g (Post body) is = absurd cc
tree-epochs tree secrets g (Admit user role slot wraps) is = refl
tree-epochs tree secrets g (Remove user slot wraps) is = refl

tree-setting : (tree : Tree) (secrets : List (ℕ × Text)) (g : ℕ) (kind : Kind)
    → (followed tree secrets g kind).setting ≡ tree.setting
unfolding followed_by
tree-setting tree secrets g (Post body) = refl
tree-setting tree secrets g (Admit user role slot wraps) = refl
tree-setting tree secrets g (Remove user slot wraps) = refl

change-epochs : (keys : KeysView) (op : Op) → is_change op.kind ≡ true
    → epochs_of (after_change keys op) ≡ epochs_of keys ++ (op.seq + 1) ∷ []
unfolding after_change learnt
change-epochs (owner tree secrets) op is = tree-epochs tree secrets (op.seq + 1) op.kind is
change-epochs (member book) op is = refl

change-held : (keys : KeysView) (op : Op) → is_change op.kind ≡ true → held (after_change keys op) ≡ held keys + 1
change-held keys op is =
    ap length (change-epochs keys op is) ∙ length-append (epochs_of keys) ((op.seq + 1) ∷ [])

change-fresh : (keys : KeysView) (op : Op) → fresh (after_change keys op) ≡ fresh keys
unfolding after_change learnt
change-fresh (owner tree secrets) op =
    ap (λ setting. owner (record { setting = setting; followed = []; epochs = [] }) secrets)
    (tree-setting tree secrets (op.seq + 1) op.kind)
change-fresh (member book) op = refl

-- ---- changes among leaves

pub changes-append : (xs ys : List Leaf) → changes_of (xs ++ ys) ≡ changes_of xs ++ changes_of ys
changes-append xs ys =
    ap (filter (λ (op : Op). is_change op.kind)) (map-append (λ (l : Leaf). l.op) xs ys)
    ∙ filter-append (λ (op : Op). is_change op.kind) (map (λ (l : Leaf). l.op) xs) (map (λ (l : Leaf). l.op) ys)

changes-held : (keys : KeysView) (leaves : List Leaf)
    → held (after_changes keys (changes_of leaves)) ≡ held keys + length (changes_of leaves)
changes-held keys [] = (let e : held keys ≡ held keys + 0 = omega arith in e)
changes-held keys (l ∷ leaves) = elim (cases_Bool (is_change l.op.kind)) [
  | inl is ↦
      let rest = changes-held (after_change keys l.op) leaves in
      let one = change-held keys l.op is in
      rw is (omega (arith, rest, one))
  | inr not ↦ rw not (changes-held keys leaves)
]

pub changes-fresh : (keys : KeysView) (ops : List Op) → fresh (after_changes keys ops) ≡ fresh keys
changes-fresh keys [] = refl
changes-fresh keys (op ∷ ops) = changes-fresh (after_change keys op) ops ∙ change-fresh keys op

pub fresh-fresh : (keys : KeysView) → fresh (fresh keys) ≡ fresh keys
fresh-fresh (owner tree secrets) = refl
fresh-fresh (member book) = refl

fresh-held : (keys : KeysView) → held (fresh keys) ≡ 0
fresh-held (owner tree secrets) = refl
fresh-held (member book) = refl

-- ---- all changes of a list

pub keys-fresh : (keys : KeysView) (leaves : List Leaf) → fresh (keys_of keys leaves) ≡ fresh keys
keys-fresh keys leaves = changes-fresh (fresh keys) (changes_of leaves) ∙ fresh-fresh keys

-- who holds all changes of a list holds all of another after learning those anew
pub keys-anew : (keys : KeysView) (xs ys : List Leaf) → keys_of (keys_of keys xs) ys ≡ keys_of keys ys
keys-anew keys xs ys = ap (λ k. after_changes k (changes_of ys)) (keys-fresh keys xs)

pub keys-count : (keys : KeysView) (leaves : List Leaf) → held (keys_of keys leaves) ≡ length (changes_of leaves)
keys-count keys leaves =
    let all = changes-held (fresh keys) leaves in
    let none = fresh-held keys in
    omega arith

-- the next changes are learnt behind those of a front
keys-next : (keys : KeysView) (front rest : List Leaf)
    → after_changes (keys_of keys front) (changes_of rest) ≡ keys_of keys (front ++ rest)
keys-next keys front rest =
    sym (fold-append after_change (fresh keys) (changes_of front) (changes_of rest))
    ∙ ap (after_changes (fresh keys)) (sym (changes-append front rest))

no-changes : {A : Type 0} (xs : List A) → length xs ≡ 0 → xs ≡ []
no-changes [] e = refl
no-changes (x ∷ xs) e = absurd cc

-- where none of the leaves between is a change
keys-skip : (keys : KeysView) (front mid rest : List Leaf) → length (changes_of mid) ≡ 0
    → keys_of keys (front ++ rest) ≡ keys_of keys (front ++ (mid ++ rest))
keys-skip keys front mid rest none =
    ap (after_changes (fresh keys)) (changes-append front rest
    ∙ ap (λ (ops : List Op). changes_of front ++ ops)
    (sym (changes-append mid rest ∙ ap (λ (ops : List Op). ops ++ changes_of rest) (no-changes (changes_of mid) none)))
    ∙ sym (changes-append front (mid ++ rest)))

-- The keys after the leaves from `from` on are shown to one who holds the changes of a front: all changes, or as before,
-- and then some change isn't held.
pub keys-shown : (keys : KeysView) (have from : ℕ) (L : List Leaf) → keys ≡ keys_of keys (take have L) → have ≤ from
    → from ≤ length L
    → (keys_after keys (length (changes_of L)) (drop from L) ≡ keys_of keys L)
    ⊎ ((keys_after keys (length (changes_of L)) (drop from L) ≡ keys) × (held keys < length (changes_of L)))
unfolding keys_after
keys-shown keys have from L holds le within =
    let front = take have L in
    let mid = drop have (take from L) in
    let rest = drop from L in
    let e = length (changes_of L) in
    let split : L ≡ front ++ (mid ++ rest) =
    sym (take-append-drop have L) ∙ ap (λ (ls : List Leaf). front ++ ls) (drop-between have from L le within) in
    let counts : e ≡ length (changes_of front) + (length (changes_of mid) + length (changes_of rest)) =
    ap (λ (ls : List Leaf). length (changes_of ls)) split
    ∙ ap length (changes-append front (mid ++ rest))
    ∙ length-append (changes_of front) (changes_of (mid ++ rest))
    ∙ ap (λ (n : ℕ). length (changes_of front) + n) (ap length (changes-append mid rest)
    ∙ length-append (changes_of mid) (changes_of rest)) in
    let mine : held keys ≡ length (changes_of front) = ap held holds ∙ keys-count keys front in
    elim (cases_Bool (nat_eq (held keys + length (changes_of rest)) e)) [
      | inl is ↦
          let all : held keys + length (changes_of rest) ≡ e = eqb-true (held keys + length (changes_of rest)) e is in
          let none : length (changes_of mid) ≡ 0 = omega arith in
          inl (cond-true (nat_eq (held keys + length (changes_of rest)) e) (after_changes keys (changes_of rest)) keys is
          ∙ ap (λ (k : KeysView). after_changes k (changes_of rest)) holds
          ∙ keys-next keys front rest ∙ keys-skip keys front mid rest none
          ∙ ap (keys_of keys) (sym split))
      | inr not ↦ elim (cases_lt (held keys) e) [
        | inl less ↦ inr (
          cond-false (nat_eq (held keys + length (changes_of rest)) e)
              (after_changes keys (changes_of rest)) keys not,
          less,
        )
        | inr more ↦
            let all : held keys + length (changes_of rest) ≡ e = omega arith in
            let is = eq-eqb (held keys + length (changes_of rest)) e all in absurd cc
      ]
    ]

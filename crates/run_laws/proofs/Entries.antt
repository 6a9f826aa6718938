-- The access lists of a wall have no more entries than there are users who may be admitted.
use Rattle.std.proofs.Common.{◌≡◌, ◌∙◌, inl, inr, ℕ, ◌+◌, ◌<◌, ◌≤◌, Bool, true, false, not, List, [], ◌∷◌, ◌++◌, length, filter, take, refl, sym, subst, arith, eq-eqb, ne_eqb}
use Rattle.std.specs.Prelude.{fold, nat_eq, if◌then◌else◌}
use Rattle.std.specs.List.{AllByRecursion}
use Rattle.std.proofs.lemmas.Bool.{cases_Bool}
use Rattle.std.proofs.lemmas.List.{take-append-drop}
use Rattle.fr_bytes.proofs.Lists.{each-append}
use Rattle.op_types.specs.declared.kind.Kind.{Kind}
use Rattle.op_types.specs.declared.kind.Kind.TheVariants as kinds
use Rattle.op_types.specs.declared.op.Leaf.{Leaf}
use Rattle.tree_model.specs.declared.entry.Entry.{Entry}
use Rattle.tree_model.specs.AccessList.{IsRising, change_by, numbered, with_next}
use Rattle.wall_law.specs.declared.state.State.{State}
use Rattle.wall_law.specs.State.{after, change_of, opening, state_of}
use Rattle.wall_law.proofs.Histories.{state_of-rising}
use Rattle.honest_replies.specs.HonestReply.{FewEntries}
use Rattle.session_laws.specs.Histories.{IsUser}
use Rattle.run_laws.specs.Listed.{IsOfUsers, IsOpOfUsers}
use Rattle.run_laws.proofs.Fronts.{all-parts}

-- ---- as many as users

abbrev is_other : ℕ → ℕ → Bool
is_other v u = not (nat_eq u v)

filter-most : (v : ℕ) (users : List ℕ) → length (filter (is_other v) users) ≤ length users
filter-most v [] = omega arith
filter-most v (u ∷ users) = elim (cases_Bool (nat_eq u v)) [
  | inl is ↦ let rest = filter-most v users in rw is (omega arith)
  | inr off ↦ let rest = filter-most v users in rw off (omega arith)
]

filter-fewer : (v : ℕ) (users : List ℕ) → IsUser users v → length (filter (is_other v) users) + 1 ≤ length users
filter-fewer v [] is = absurd is
filter-fewer v (u ∷ users) (inl here) =
    let rest = filter-most v users in rw (eq-eqb u v here) (omega arith)
filter-fewer v (u ∷ users) (inr behind) = elim (cases_Bool (nat_eq u v)) [
  | inl is ↦ let rest = filter-most v users in rw is (omega arith)
  | inr off ↦ let rest = filter-fewer v users behind in rw off (omega arith)
]

-- another one stays
filter-stays : (v u : ℕ) (users : List ℕ) → (u ≡ v → ⊥) → IsUser users u → IsUser (filter (is_other v) users) u
filter-stays v u [] other is = absurd is
filter-stays v u (x ∷ users) other (inl here) =
    rw (ne_eqb x v (λ e. other (sym here ∙ e))) (inl here)
filter-stays v u (x ∷ users) other (inr behind) = elim (cases_Bool (nat_eq x v)) [
  | inl is ↦ rw is (filter-stays v u users other behind)
  | inr off ↦ rw off (inr (filter-stays v u users other behind))
]

abbrev AreOf : List ℕ → List Entry → Type 0
AreOf users es = AllByRecursion (λ (e : Entry). IsUser users e.user) es

others-stay : (v : ℕ) (users : List ℕ) (es : List Entry) → AllByRecursion (λ (x : Entry). v < x.user) es
    → AreOf users es → AreOf (filter (is_other v) users) es
others-stay v users [] above are = tt
others-stay v users (e ∷ es) above are = (
  filter-stays v e.user users (λ same. let less = above.0 in absurd (omega arith)) are.0,
  others-stay v users es above.1 are.1,
)

pub as-many : (es : List Entry) (users : List ℕ) → IsRising es → AreOf users es → length es ≤ length users
as-many [] users rise are = omega arith
as-many (e ∷ es) users rise are =
    let fewer = filter-fewer e.user users are.0 in
    let rest = as-many es (filter (is_other e.user) users) rise.1 (others-stay e.user users es rise.0 are.1) in
    omega arith

-- ---- changes

numbered-user : (user next : ℕ) (e : Entry) → (numbered user next e).user ≡ e.user
numbered-user user next e = by (nat_eq e.user user)
  where
    by : (b : Bool) → (let x : Entry = if b then (record e { next = next }) else e in x).user ≡ e.user
    by true = refl
    by false = refl

next-of : (users : List ℕ) (user next : ℕ) (es : List Entry) → AreOf users es → AreOf users (with_next user next es)
next-of users user next [] are = tt
next-of users user next (e ∷ es) are =
    (subst (IsUser users) (sym (numbered-user user next e)) are.0, next-of users user next es are.1)

some-of : (users : List ℕ) (p : Entry → Bool) (es : List Entry) → AreOf users es → AreOf users (filter p es)
some-of users p [] are = tt
some-of users p (e ∷ es) are = elim (cases_Bool (p e)) [
  | inl is ↦ rw is (are.0, some-of users p es are.1)
  | inr off ↦ rw off (some-of users p es are.1)
]

changed-of : (users : List ℕ) (kind : Kind) (es : List Entry) → IsOfUsers users kind → AreOf users es
    → AreOf users (change_by (change_of kind) es)
changed-of users (kinds.Post body) es is are = are
changed-of users (kinds.Admit user role slot wraps) es is are =
    let e : Entry = record { user = user; role = role; next = 0 } in
    each-append (λ (x : Entry). IsUser users x.user) (filter _ es ++ e ∷ []) (filter _ es)
    (each-append (λ (x : Entry). IsUser users x.user) (filter _ es) (e ∷ []) (some-of users _ es are) (is, tt))
    (some-of users _ es are)
changed-of users (kinds.Remove user slot wraps) es is are = some-of users _ es are

-- ---- the leaves of a wall

abbrev LeafOf : List ℕ → Leaf → Type 0
LeafOf users leaf = IsOpOfUsers users leaf.op

states-of : (users : List ℕ) (s : State) (leaves : List Leaf) → AreOf users s.entries
    → AllByRecursion (LeafOf users) leaves
    → AreOf users (fold (λ (t : State) (leaf : Leaf). after t leaf.op) s leaves).entries
states-of users s [] are all = are
states-of users s (l ∷ leaves) are all =
    states-of users (after s l.op) leaves
    (changed-of users l.op.kind (with_next l.op.author (l.op.seq + 1) s.entries) all.0
    (next-of users l.op.author (l.op.seq + 1) s.entries are)) all.1

-- A wall that admits none but so many users has few entries.
pub few-of : (owner : ℕ) (users : List ℕ) (leaves : List Leaf) → length users ≤ 32 → IsUser users owner
    → AllByRecursion (λ (leaf : Leaf). IsOpOfUsers users leaf.op) leaves → FewEntries owner leaves
few-of owner users leaves few owns all k =
    let front : AllByRecursion (LeafOf users) (take k leaves) =
    (all-parts (LeafOf users) (take k leaves) _ (subst (AllByRecursion (LeafOf users)) (sym (take-append-drop k leaves))
    all)).0 in
    let are = states-of users (opening owner) (take k leaves) (owns, tt) front in
    let most = as-many (state_of owner (take k leaves)).entries users (state_of-rising owner (take k leaves)) are in
    omega arith

-- The laws of lawful histories.
use Rattle.std.proofs.Common.{◌≡◌, ℕ, zero, suc, ◌+◌, ◌<◌, ◌≤◌, Bool, true, false, cond, not, ltb, List, [], ◌∷◌, ◌++◌, length, take, Option, Some, None, refl, ap, sym, ◌∙◌, arith}
use Rattle.std.specs.Prelude.{fold, slice_get, nat_eq, option_and_then}
use Rattle.std.proofs.lemmas.Bool.{ltb-false, eqb-true}
use Rattle.std.proofs.lemmas.List.{take-take}
use Rattle.fr_digest.specs.Digest.{Digest}
use Rattle.op_types.specs.declared.op.Op.{Op}
use Rattle.op_types.specs.declared.op.Leaf.{Leaf}
use Rattle.op_types.specs.Kinds.{is_change, changed_user}
use Rattle.tree_model.specs.declared.entry.Entry.{Entry}
use Rattle.tree_model.specs.AccessList.{IsRising, entry_of}
use Rattle.tree_model.proofs.ListChanges.{rising-changed_set}
use Rattle.wall_law.specs.declared.state.State.{State}
use Rattle.wall_law.specs.State.{opening, change_of, epoch_after, after, state_of}
use Rattle.wall_law.specs.Law.{may_add, next_of, is_bad_change, law_of, law}
use Rattle.wall_law.specs.Lawful.{Lawful}

-- ---- states of histories

abbrev step : State → Leaf → State
step s leaf = after s leaf.op

fold-snoc : (s : State) (leaves : List Leaf) (leaf : Leaf) → fold step s (leaves ++ leaf ∷ []) ≡ after (fold step s leaves) leaf.op
fold-snoc s [] leaf = refl
fold-snoc s (l ∷ leaves) leaf = fold-snoc (after s l.op) leaves leaf

-- one leaf more
pub state_of-snoc : (owner : ℕ) (leaves : List Leaf) (leaf : Leaf) → state_of owner (leaves ++ leaf ∷ []) ≡ after (state_of owner leaves) leaf.op
state_of-snoc owner leaves leaf = fold-snoc (opening owner) leaves leaf

fold-next : (s : State) (leaves : List Leaf) (k : ℕ) (leaf : Leaf) → slice_get leaves k ≡ Some leaf → fold step s (take (suc k) leaves) ≡ after (fold step s (take k leaves)) leaf.op
fold-next s [] k leaf at = absurd cc
fold-next s (l ∷ leaves) zero leaf at = let same : l ≡ leaf = cc in ap (λ (x : Leaf). after s x.op) same
fold-next s (l ∷ leaves) (suc k) leaf at = fold-next (after s l.op) leaves k leaf at

pub state_of-next : (owner : ℕ) (leaves : List Leaf) (k : ℕ) (leaf : Leaf) → slice_get leaves k ≡ Some leaf → state_of owner (take (k + 1) leaves) ≡ after (state_of owner (take k leaves)) leaf.op
state_of-next owner leaves k leaf at = ap (λ (n : ℕ). state_of owner (take n leaves)) (let next : k + 1 ≡ suc k = omega arith in next) ∙ fold-next (opening owner) leaves k leaf at

-- ---- each state's users rise

pub after-rising : (s : State) (op : Op) → IsRising s.entries → IsRising (after s op).entries
after-rising s op h = rising-changed_set s.entries op.author (op.seq + 1) (change_of op.kind) h

fold-rising : (s : State) (leaves : List Leaf) → IsRising s.entries → IsRising (fold step s leaves).entries
fold-rising s [] h = h
fold-rising s (l ∷ leaves) h = fold-rising (after s l.op) leaves (after-rising s l.op h)

pub state_of-rising : (owner : ℕ) (leaves : List Leaf) → IsRising (state_of owner leaves).entries
state_of-rising owner leaves = fold-rising (opening owner) leaves (tt, tt)

-- ---- the epoch is at most the length

epoch_after-most : (epoch : ℕ) (op : Op) → epoch_after epoch op ≤ epoch + 1
epoch_after-most epoch op = elim (is_change op.kind) as (λ b. cond b (epoch + 1) epoch ≤ epoch + 1) [ true ↦ omega arith | false ↦ omega arith ]

fold-epoch : (s : State) (leaves : List Leaf) → (fold step s leaves).epoch ≤ s.epoch + length leaves
fold-epoch s [] = omega arith
fold-epoch s (l ∷ leaves) =
    let later = fold-epoch (after s l.op) leaves in
    let first = epoch_after-most s.epoch l.op in omega arith

pub state_of-epoch : (owner : ℕ) (leaves : List Leaf) → (state_of owner leaves).epoch ≤ length leaves
state_of-epoch owner leaves = let most = fold-epoch (opening owner) leaves in omega arith

-- ---- what the law's silence says

none_else : {A : Type 0} (b : Bool) (x : A) (rest : Option A) → cond b (Some x) rest ≡ None → (b ≡ false) × (rest ≡ None)
none_else true x rest e = absurd cc
none_else false x rest e = (refl, e)

not-false : (b : Bool) → not b ≡ false → b ≡ true
not-false true e = refl
not-false false e = sym e

-- what an operation is that the law lets stand
pub record Stands (author changed : Option Entry) (epoch wall k : ℕ) (op : Op) : Type 0 where
  pub same_wall : op.wall ≡ wall
  pub allowed : may_add author ≡ true
  pub same_epoch : op.epoch ≡ epoch
  pub fresh : next_of author ≤ op.seq
  pub good_change : is_bad_change author changed op.kind ≡ false
  pub early_view : op.view.size ≤ k

pub law_of-stands : (author changed : Option Entry) (epoch wall k : ℕ) (op : Op) → law_of author changed epoch wall k op ≡ None → Stands author changed epoch wall k op
unfolding law_of
law_of-stands author changed epoch wall k op none =
    let e1 = none_else (not (nat_eq op.wall wall)) _ _ none in
    let e2 = none_else (not (may_add author)) _ _ e1.1 in
    let e3 = none_else (not (nat_eq op.epoch epoch)) _ _ e2.1 in
    let e4 = none_else (ltb op.seq (next_of author)) _ _ e3.1 in
    let e5 = none_else (is_bad_change author changed op.kind) _ _ e4.1 in
    let e6 = none_else (ltb k op.view.size) _ _ e5.1 in
    record {
      same_wall = eqb-true op.wall wall (not-false _ e1.0);
      allowed = not-false _ e2.0;
      same_epoch = eqb-true op.epoch epoch (not-false _ e3.0);
      fresh = ltb-false op.seq (next_of author) e4.0;
      good_change = e5.0;
      early_view = ltb-false k op.view.size e6.0;
    }

pub law-stands : (s : State) (wall k : ℕ) (op : Op) → law s wall k op ≡ None → Stands (entry_of s.entries op.author) (option_and_then (λ (user : ℕ). entry_of s.entries user) (changed_user op.kind)) s.epoch wall k op
unfolding law
law-stands s wall k op none = law_of-stands _ _ s.epoch wall k op none

-- in a lawful history each embedded view covers earlier positions alone
pub lawful-view : (d : Digest) (owner wall : ℕ) (leaves : List Leaf) (k : ℕ) (leaf : Leaf) → Lawful d owner wall leaves → slice_get leaves k ≡ Some leaf → leaf.op.view.size ≤ k
lawful-view d owner wall leaves k leaf lawful at = (law-stands _ wall k leaf.op (lawful k leaf at).lawful).early_view

-- ---- prefixes

pub slice_get-take : (n k : ℕ) (leaves : List Leaf) (leaf : Leaf) → slice_get (take n leaves) k ≡ Some leaf → (k < n) × (slice_get leaves k ≡ Some leaf)
slice_get-take zero k leaves leaf at = absurd cc
slice_get-take (suc n) k [] leaf at = absurd cc
slice_get-take (suc n) zero (l ∷ leaves) leaf at = (omega arith, at)
slice_get-take (suc n) (suc k) (l ∷ leaves) leaf at = let it = slice_get-take n k leaves leaf at in (let less = it.0 in omega arith, it.1)

-- each prefix of a lawful history is lawful
pub lawful-take : (d : Digest) (owner wall : ℕ) (leaves : List Leaf) (n : ℕ) → Lawful d owner wall leaves → Lawful d owner wall (take n leaves)
lawful-take d owner wall leaves n lawful k leaf at =
    let place = slice_get-take n k leaves leaf at in
    let less = place.0 in
    let it = lawful k leaf place.1 in
    let before = take-take k n leaves (omega arith) in
    let behind = take-take (k + 1) n leaves (omega arith) in
    record { lawful = rw before it.lawful; tells = rw behind it.tells }

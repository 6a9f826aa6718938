-- The operations behind a position, as they vouch, one by one; and where a reply begins.
use Rattle.std.proofs.Common.{◌≡◌, ◌⊎◌, inl, inr, ℕ, zero, suc, ◌+◌, ◌-◌, ◌<◌, ◌≤◌, List, [], ◌∷◌, ◌++◌, length, take, drop, map, Some, refl, ap, sym, ◌∙◌, arith}
use Rattle.std.specs.Prelude.{slice_get}
use Rattle.std.proofs.lemmas.Bool.{cases_lt}
use Rattle.std.proofs.lemmas.List.{drop-append-le, drop_all, length-drop, length-map, length-take-le, map-append, take_all}
use Rattle.op_types.specs.declared.op.Leaf.{Leaf}
use Rattle.vouch_rule.specs.declared.vouch.Vouch.{Vouch}
use Rattle.vouch_rule.specs.Vouching.{IsVouchPoint, IsVouched, vouchers}
use Rattle.check_rules.specs.Verdict.{vouches}
use Rattle.hall_replies.specs.Shown.{view_sizes}
use Rattle.honest_replies.proofs.Lists.{below-at}

pub take-at : {A : Type 0} (xs : List A) (k : ℕ) (x : A) → slice_get xs k ≡ Some x → take (k + 1) xs ≡ take k xs ++ x ∷ []
take-at [] k x at = absurd cc
take-at (y ∷ ys) zero x at = let same : y ≡ x = cc in ap (λ z. z ∷ []) same
take-at (y ∷ ys) (suc k) x at =
    let e : suc k + 1 ≡ suc (k + 1) = omega arith in
    ap (λ n. take n (y ∷ ys)) e ∙ ap (λ zs. y ∷ zs) (take-at ys k x at)

pub vouches-none : (L : List Leaf) (from : ℕ) → from ≤ length L → [] ≡ vouches (drop from (take from L))
vouches-none L from within =
    let size = length-take-le from L within in
    ap vouches (sym (drop_all from (take from L) (omega arith)))

pub vouches-more : (L : List Leaf) (from k : ℕ) (l : Leaf) → from ≤ k → slice_get L k ≡ Some l
    → vouches (drop from (take (k + 1) L)) ≡ vouches (drop from (take k L)) ++ record { author = l.op.author; size = l.op.view.size } ∷ []
vouches-more L from k l low at =
    let below = below-at L k l at in
    let size = length-take-le k L (omega arith) in
    ap (λ ls. vouches (drop from ls)) (take-at L k l at)
    ∙ ap vouches (drop-append-le from (take k L) (l ∷ []) (omega arith))
    ∙ map-append (λ (x : Leaf). let v : Vouch = record { author = x.op.author; size = x.op.view.size } in v) (drop from (take k L)) (l ∷ [])

pub vouches-all : (L : List Leaf) (from n : ℕ) → length L ≤ n → vouches (drop from (take n L)) ≡ vouches (drop from L)
vouches-all L from n all = ap (λ ls. vouches (drop from ls)) (take_all n L all)

-- a vouched position stands in front of an operation
vouched-before : (ops : List Vouch) (have f m : ℕ) → IsVouched ops have f m → m - have < length ops
vouched-before ops have f m it = elim (cases_lt (m - have) (length ops)) [
  | inl less ↦ less
  | inr past ↦ absurd (
      let none : vouchers (drop (m - have) ops) m ≡ 0 = ap (λ xs. vouchers xs m) (drop_all (m - have) ops past) in
      let some = it.1 in omega arith)
]

length-vouches : (L : List Leaf) (have : ℕ) → length (vouches (drop have L)) ≡ length L - have
length-vouches L have =
    length-map (drop have L) (λ (x : Leaf). let v : Vouch = record { author = x.op.author; size = x.op.view.size } in v) ∙ length-drop have L

told-within : (L : List Leaf) (have f from : ℕ) → have < length L
    → (from ≡ have) ⊎ IsVouched (vouches (drop have L)) have f from → from < length L
told-within L have f from more (inl level) = omega arith
told-within L have f from more (inr it) =
    let before = vouched-before (vouches (drop have L)) have f from it in
    let count = length-vouches L have in
    let past = it.0 in
    omega arith

-- and so does the vouch point, where there is one
pub point-within : (L : List Leaf) (have f from : ℕ) → have < length L → IsVouchPoint (vouches (drop have L)) have f from
    → from < length L
point-within L have f from more point = told-within L have f from more point.found

pub vouches-step : (L : List Leaf) (from k : ℕ) (l : Leaf) (ops new : List Vouch) → from ≤ k → slice_get L k ≡ Some l
    → ops ≡ vouches (drop from (take k L)) → new ≡ ops ++ record { author = l.op.author; size = l.op.view.size } ∷ []
    → new ≡ vouches (drop from (take (k + 1) L))
vouches-step L from k l ops new low at are made =
    made ∙ ap (λ (vs : List Vouch). vs ++ record { author = l.op.author; size = l.op.view.size } ∷ []) are ∙ sym (vouches-more L from k l low at)

pub sizes-of : (L : List Leaf) → map (λ (o : Vouch). o.size) (vouches L) ≡ view_sizes L
sizes-of [] = refl
sizes-of (l ∷ L) = ap (λ ns. l.op.view.size ∷ ns) (sizes-of L)

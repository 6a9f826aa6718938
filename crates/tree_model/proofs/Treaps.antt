-- A set has one treap, and the digest of a set is that of its treap.
use Rattle.std.proofs.Common.{◌≡◌, ◌≢◌, ℕ, zero, suc, ◌<◌, ◌≤◌, Bool, true, false, cond, ltb, List, [], ◌∷◌, ◌++◌, length, take, drop, Some, refl, ap, sym, subst, ◌∙◌, inl, inr, arith}
use Rattle.std.specs.Prelude.{slice_get, filter}
use Rattle.std.proofs.lemmas.Bool.{ltb-true, cases_Bool}
use Rattle.fr_digest.specs.Digest.{Digest}
use Rattle.tree_model.specs.declared.entry.Entry.{Entry}
use Rattle.tree_model.specs.AccessList.{IsRising, smaller, greater, is_above, greatest, top_of, set_digest, dict}
use Rattle.tree_model.specs.Treap.{Treap, empty, node, in_order, IsAboveEach, IsHeap, IsTreap, treap_digest}
use Rattle.tree_model.proofs.AccessLists.{Among, greatest-among, smaller-take, greater-drop, smaller-fewer, greater-fewer, greatest-step, set_digest-top, set_digest-none, set_digest-dict}
use Rattle.tree_model.proofs.ListChanges.{rising-filter}
use Rattle.tree_model.proofs.Parts.{around-same}
use Rattle.tree_model.proofs.Tops.{NoneAbove, above-asym, above-other, greatest-most}

-- ---- a list around an entry

at_middle : (xs ys : List Entry) (e : Entry) → slice_get (xs ++ (e ∷ ys)) (length xs) ≡ Some e
at_middle [] ys e = refl
at_middle (x ∷ xs) ys e = at_middle xs ys e

take-left : (xs ys : List Entry) → take (length xs) (xs ++ ys) ≡ xs
take-left [] ys = refl
take-left (x ∷ xs) ys = ap (λ (es : List Entry). x ∷ es) (take-left xs ys)

drop-right : (xs ys : List Entry) (e : Entry) → drop (suc (length xs)) (xs ++ (e ∷ ys)) ≡ ys
drop-right [] ys e = refl
drop-right (x ∷ xs) ys e = drop-right xs ys e

smaller-middle : (xs ys : List Entry) (e : Entry) → IsRising (xs ++ (e ∷ ys)) → smaller e.user (xs ++ (e ∷ ys)) ≡ xs
smaller-middle xs ys e h = smaller-take (xs ++ (e ∷ ys)) (length xs) e h (at_middle xs ys e) ∙ take-left xs (e ∷ ys)

greater-middle : (xs ys : List Entry) (e : Entry) → IsRising (xs ++ (e ∷ ys)) → greater e.user (xs ++ (e ∷ ys)) ≡ ys
greater-middle xs ys e h = greater-drop (xs ++ (e ∷ ys)) (length xs) e h (at_middle xs ys e) ∙ drop-right xs ys e

rising-left : (xs ys : List Entry) (e : Entry) → IsRising (xs ++ (e ∷ ys)) → IsRising xs
rising-left xs ys e h = subst IsRising (smaller-middle xs ys e h) (rising-filter (λ (x : Entry). ltb x.user e.user) (xs ++ (e ∷ ys)) h)

rising-right : (xs ys : List Entry) (e : Entry) → IsRising (xs ++ (e ∷ ys)) → IsRising ys
rising-right xs ys e h = subst IsRising (greater-middle xs ys e h) (rising-filter (λ (x : Entry). ltb e.user x.user) (xs ++ (e ∷ ys)) h)

-- ---- the root of a heap is the entry of greatest priority

greatest-stays : (e : Entry) (es : List Entry) → IsAboveEach e.user es → greatest e es ≡ e
unfolding greatest
greatest-stays e [] above = refl
greatest-stays e (x ∷ es) above = rw (above-asym e.user x.user above.0) (greatest-stays e es above.1)

greatest-comes : (best e : Entry) (xs ys : List Entry) → is_above e.user best.user ≡ true → IsAboveEach e.user xs → IsAboveEach e.user ys → greatest best (xs ++ (e ∷ ys)) ≡ e
unfolding greatest
greatest-comes best e [] ys above left right = greatest-step best e (e ∷ ys) 0 refl ∙ rw above (greatest-stays e ys right)
greatest-comes best e (x ∷ xs) ys above left right =
    elim (is_above x.user best.user) as (λ b. greatest (cond b x best) (xs ++ (e ∷ ys)) ≡ e) [
      | true ↦ greatest-comes x e xs ys left.0 left.1 right
      | false ↦ greatest-comes best e xs ys above left.1 right
    ]

top-middle : (e : Entry) (xs ys : List Entry) → IsAboveEach e.user xs → IsAboveEach e.user ys → top_of (xs ++ (e ∷ ys)) ≡ Some e
unfolding top_of
top-middle e [] ys left right = ap (λ (x : Entry). Some x) (greatest-stays e ys right)
top-middle e (x ∷ xs) ys left right = ap (λ (y : Entry). Some y) (greatest-comes x e xs ys left.0 left.1 right)

-- ---- one treap for a list

apart-node : (xs ys : List Entry) (e : Entry) → [] ≡ xs ++ (e ∷ ys) → ⊥
apart-node [] ys e same = cc
apart-node (x ∷ xs) ys e same = cc

-- Two treaps with one list in order are equal.
pub treap-same : (t s : Treap) → IsTreap t → IsTreap s → in_order t ≡ in_order s → t ≡ s
treap-same empty empty ht hs same = refl
treap-same empty (node e l r) ht hs same = absurd (apart-node (in_order l) (in_order r) e same)
treap-same (node e l r) empty ht hs same = absurd (apart-node (in_order l) (in_order r) e (sym same))
treap-same (node e l r) (node f m q) ht hs same =
    let top = sym (top-middle e (in_order l) (in_order r) ht.1.0 ht.1.1) ∙ ap top_of same ∙ top-middle f (in_order m) (in_order q) hs.1.0 hs.1.1 in
    let root : e ≡ f = cc in
    let left = sym (smaller-middle (in_order l) (in_order r) e ht.0) ∙ ap (λ (es : List Entry). smaller e.user es) same ∙ ap (λ (x : Entry). smaller x.user (in_order (node f m q))) root ∙ smaller-middle (in_order m) (in_order q) f hs.0 in
    let right = sym (greater-middle (in_order l) (in_order r) e ht.0) ∙ ap (λ (es : List Entry). greater e.user es) same ∙ ap (λ (x : Entry). greater x.user (in_order (node f m q))) root ∙ greater-middle (in_order m) (in_order q) f hs.0 in
    let l-same = treap-same l m (rising-left (in_order l) (in_order r) e ht.0, ht.1.2) (rising-left (in_order m) (in_order q) f hs.0, hs.1.2) left in
    let r-same = treap-same r q (rising-right (in_order l) (in_order r) e ht.0, ht.1.3) (rising-right (in_order m) (in_order q) f hs.0, hs.1.3) right in
    cc

-- ---- the digest of a set is that of its treap

pub treap_digest-set : (d : Digest) (t : Treap) → IsTreap t → treap_digest d t ≡ set_digest d (in_order t)
unfolding treap_digest
treap_digest-set d empty h = sym (set_digest-none d [] refl)
treap_digest-set d (node e l r) h =
    let top = set_digest-top d (in_order (node e l r)) e (top-middle e (in_order l) (in_order r) h.1.0 h.1.1) in
    let left = treap_digest-set d l (rising-left (in_order l) (in_order r) e h.0, h.1.2) in
    let right = treap_digest-set d r (rising-right (in_order l) (in_order r) e h.0, h.1.3) in
    rw (left, right) (sym (rw (smaller-middle (in_order l) (in_order r) e h.0, greater-middle (in_order l) (in_order r) e h.0) at top))

-- ---- each set has a treap

-- so it is above each entry of another user
above-part : (user : ℕ) (p : Entry → Bool) → ((x : Entry) → p x ≡ true → x.user ≢ user) → (es : List Entry) → NoneAbove user es → IsAboveEach user (filter p es)
above-part user p others [] none = tt
above-part user p others (e ∷ es) none = elim (cases_Bool (p e)) [
  | inl passes ↦ rw passes (above-other e.user user (others e passes) none.0, above-part user p others es none.1)
  | inr fails ↦ rw fails (above-part user p others es none.1)
]

-- a treap whose list in order this is
abbrev pub HasTreap : List Entry → Type 0
HasTreap es = (t : Treap) × IsTreap t × (in_order t ≡ es)

join-treaps : (top : Entry) (es : List Entry) → IsRising es → Among top es → NoneAbove top.user es → HasTreap (smaller top.user es) → HasTreap (greater top.user es) → HasTreap es
join-treaps top es h among none left right =
    let order : in_order (node top left.0 right.0) ≡ es = rw (left.2, right.2) (around-same es top h among) in
    let below = above-part top.user (λ (x : Entry). ltb x.user top.user) (λ x less same. let it = ltb-true x.user top.user less in omega arith) es none in
    let above = above-part top.user (λ (x : Entry). ltb top.user x.user) (λ x more same. let it = ltb-true top.user x.user more in omega arith) es none in
    let heap : IsHeap (node top left.0 right.0) = (rw left.2 below, rw right.2 above, left.1.1, right.1.1) in
    (node top left.0 right.0, (rw order h, heap), order)

treap-within : (n : ℕ) (es : List Entry) → length es ≤ n → IsRising es → HasTreap es
treap-within n [] most h = (empty, (tt, tt), refl)
treap-within zero (e ∷ es) most h = absurd (omega arith)
treap-within (suc n) (e ∷ es) most h =
    let top = greatest e es in
    let fewer = smaller-fewer e es in
    let fewer' = greater-fewer e es in
    let left = treap-within n (smaller top.user (e ∷ es)) (omega arith) (rising-filter (λ (x : Entry). ltb x.user top.user) (e ∷ es) h) in
    let right = treap-within n (greater top.user (e ∷ es)) (omega arith) (rising-filter (λ (x : Entry). ltb top.user x.user) (e ∷ es) h) in
    join-treaps top (e ∷ es) h (greatest-among e es) (greatest-most e es) left right

-- each list whose users rise is that of a treap
pub treap-of_set : (es : List Entry) → IsRising es → HasTreap es
treap-of_set es h = treap-within (length es) es (omega arith) h

-- the digest of an access list is that of its treap
pub treap_digest-dict : (d : Digest) (t : Treap) → IsTreap t → 0 < length (in_order t) → treap_digest d t ≡ Some (dict d (in_order t))
treap_digest-dict d t h some = treap_digest-set d t h ∙ set_digest-dict d (in_order t) some

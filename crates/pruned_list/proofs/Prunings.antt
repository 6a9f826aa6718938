-- What prunes a set: its digest, what a search finds in it, and how large it is.
use Rattle.std.proofs.Common.{◌≡◌, ℕ, ◌+◌, ◌*◌, ◌<◌, ◌≤◌, ltb, List, [], ◌∷◌, length, Option, Some, None, refl, ap, sym, subst, ◌∙◌, inl, inr, arith, length-append}
use Rattle.std.specs.Prelude.{unwrap_or}
use Rattle.std.proofs.lemmas.Bool.{lt-ltb, le-ltb, cases_order, eq-eqb, ne_eqb}
use Rattle.fr_digest.specs.Digest.{Digest}
use Rattle.tree_model.specs.declared.entry.Entry.{Entry}
use Rattle.tree_model.specs.AccessList.{IsRising, entry_of, smaller, greater, top_of, set_digest, dict}
use Rattle.tree_model.proofs.AccessLists.{Among, set_digest-dict, set_digest-none, set_digest-top}
use Rattle.tree_model.proofs.ListChanges.{rising-filter}
use Rattle.tree_model.proofs.Members.{among-entry_of}
use Rattle.tree_model.proofs.Parts.{around-same}
use Rattle.tree_model.proofs.Tops.{top-among}
use Rattle.pruned_list.specs.PrunedList.{PrunedList, absent, hidden, node, part_digest, digest_of, PrunesList, PrunesDict, IsWhole, in_order, levels, byte_count, found, seek}
use Rattle.pruned_list.proofs.LookUps.{greater-looked_up, smaller-looked_up}

-- ---- the digest

-- the digest of a pruning is that of the set
pub digest-set : (d : Digest) (p : PrunedList) (E : List Entry) → PrunesList d p E → part_digest d p ≡ set_digest d E
unfolding PrunesList part_digest
digest-set d absent E h = sym (set_digest-none d E (ap (λ (es : List Entry). length es) h))
digest-set d (hidden x) E h = sym h
digest-set d (node e l r) E h =
    rw (digest-set d l (smaller e.user E) h.1, digest-set d r (greater e.user E) h.2) (sym (set_digest-top d E e h.0))

pub digest-dict : (d : Digest) (p : PrunedList) (E : List Entry) → PrunesDict d p E → digest_of d p ≡ dict d E
digest-dict d p E h =
    ap (λ (x : Option (List ℕ)). unwrap_or x []) (digest-set d p E h.parts ∙ set_digest-dict d E h.some)

-- ---- parts

pub rising-smaller : (u : ℕ) (E : List Entry) → IsRising E → IsRising (smaller u E)
rising-smaller u E h = rising-filter (λ (x : Entry). ltb x.user u) E h

pub rising-greater : (u : ℕ) (E : List Entry) → IsRising E → IsRising (greater u E)
rising-greater u E h = rising-filter (λ (x : Entry). ltb u x.user) E h

-- ---- look-ups

-- A search finds what the set has, or meets a hidden part.
pub seek-finds : (d : Digest) (p : PrunedList) (E : List Entry) (u : ℕ) (o : Option Entry) → IsRising E
    → PrunesList d p E → seek p u ≡ found o → entry_of E u ≡ o
unfolding PrunesList seek
seek-finds d absent E u o rising h e = let is : None ≡ o = cc in rw h is
seek-finds d (hidden x) E u o rising h e = absurd cc
seek-finds d (node t l r) E u o rising h e = elim (cases_order u t.user) [
  | inl same ↦
      let here : found (Some t) ≡ found o = rw (eq-eqb u t.user same) at e in
      let is : Some t ≡ o = cc in
      rw same (among-entry_of E t rising (top-among E t h.0) ∙ is)
  | inr (inl less) ↦
      let left : seek l u ≡ found o = rw (ne_eqb u t.user (λ is. omega arith), lt-ltb u t.user less) at e in
      sym (smaller-looked_up t.user u E less) ∙ seek-finds d l (smaller t.user E) u o
      (rising-smaller t.user E rising) h.1 left
  | inr (inr more) ↦
      let right : seek r u ≡ found o = rw (ne_eqb u t.user (λ is. omega arith), le-ltb u t.user (omega arith)) at e in
      sym (greater-looked_up t.user u E more) ∙ seek-finds d r (greater t.user E) u o
      (rising-greater t.user E rising) h.2 right
]

-- ---- whole lists

-- A whole list shows the set that it prunes.
pub whole-in_order : (d : Digest) (p : PrunedList) (E : List Entry) → IsRising E → IsWhole p → PrunesList d p E
    → in_order p ≡ E
unfolding PrunesList IsWhole in_order
whole-in_order d absent E rising whole h = sym h
whole-in_order d (hidden x) E rising whole h = absurd whole
whole-in_order d (node e l r) E rising whole h =
    rw (
      whole-in_order d l (smaller e.user E) (rising-smaller e.user E rising) whole.0 h.1,
      whole-in_order d r
          (greater e.user E) (rising-greater e.user E rising) whole.1 h.2,
    )
    (around-same E e rising (top-among E e h.0))

top-empty : (E : List Entry) (e : Entry) → E ≡ [] → top_of E ≡ Some e → ⊥
unfolding top_of
top-empty [] e none top = cc
top-empty (x ∷ es) e none top = cc

-- Two whole lists that prune a set are one.
pub whole-same : (d : Digest) (p q : PrunedList) (E : List Entry) → IsWhole p → IsWhole q → PrunesList d p E
    → PrunesList d q E → p ≡ q
unfolding PrunesList IsWhole
whole-same d absent absent E hp hq p-is q-is = refl
whole-same d absent (hidden y) E hp hq p-is q-is = absurd hq
whole-same d absent (node f m q) E hp hq p-is q-is = absurd (top-empty E f p-is q-is.0)
whole-same d (hidden x) q E hp hq p-is q-is = absurd hp
whole-same d (node e l r) absent E hp hq p-is q-is = absurd (top-empty E e q-is p-is.0)
whole-same d (node e l r) (hidden y) E hp hq p-is q-is = absurd hq
whole-same d (node e l r) (node f m q) E hp hq p-is q-is =
    let top : Some f ≡ Some e = sym q-is.0 ∙ p-is.0 in
    let same : f ≡ e = cc in
    let left = subst (λ (x : Entry). PrunesList d m (smaller x.user E)) same q-is.1 in
    let right = subst (λ (x : Entry). PrunesList d q (greater x.user E)) same q-is.2 in
    let l-same = whole-same d l m (smaller e.user E) hp.0 hq.0 p-is.1 left in
    let r-same = whole-same d r q (greater e.user E) hp.1 hq.1 p-is.2 right in
    cc

-- ---- sizes

parts-length : (E : List Entry) (e : Entry) → IsRising E → Among e E
    → length E ≡ length (smaller e.user E) + length (greater e.user E) + 1
parts-length E e rising among =
    let whole = ap (λ (es : List Entry). length es) (around-same E e rising among) in
    let sum = length-append (smaller e.user E) (e ∷ greater e.user E) in
    omega arith

hidden-some : (d : Digest) (E : List Entry) (x : List ℕ) → set_digest d E ≡ Some x → 0 < length E
hidden-some d [] x h = let none = set_digest-none d [] refl in absurd cc
hidden-some d (e ∷ es) x h = omega arith

-- It has no more levels than the set has entries.
pub levels-few : (d : Digest) (p : PrunedList) (E : List Entry) → IsRising E → PrunesList d p E → levels p ≤ length E
unfolding PrunesList levels
levels-few d absent E rising h = omega arith
levels-few d (hidden x) E rising h = let some = hidden-some d E x h in omega arith
levels-few d (node e l r) E rising h =
    let left = levels-few d l (smaller e.user E) (rising-smaller e.user E rising) h.1 in
    let right = levels-few d r (greater e.user E) (rising-greater e.user E rising) h.2 in
    let size = parts-length E e rising (top-among E e h.0) in
    omega arith

-- Each entry of the set takes 33 bytes of its spelling at most.
pub bytes-few : (d : Digest) (p : PrunedList) (E : List Entry) → IsRising E → PrunesList d p E
    → byte_count p ≤ 33 * length E
unfolding PrunesList byte_count
bytes-few d absent E rising h = omega arith
bytes-few d (hidden x) E rising h = let some = hidden-some d E x h in omega arith
bytes-few d (node e l r) E rising h =
    let left = bytes-few d l (smaller e.user E) (rising-smaller e.user E rising) h.1 in
    let right = bytes-few d r (greater e.user E) (rising-greater e.user E rising) h.2 in
    let size = parts-length E e rising (top-among E e h.0) in
    omega arith

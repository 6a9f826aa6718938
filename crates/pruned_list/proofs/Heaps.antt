-- A whole list that prunes a set is the treap of the set.
use Rattle.std.proofs.Common.{◌≡◌, ◌<◌, true, false, ltb, List, Some, refl, sym, subst, ◌∙◌, arith}
use Rattle.fr_digest.specs.Digest.{Digest}
use Rattle.tree_model.specs.declared.entry.Entry.{Entry}
use Rattle.tree_model.specs.AccessList.{IsRising, smaller, greater, is_above, top_of}
use Rattle.tree_model.specs.Treap as treap
use Rattle.tree_model.proofs.ListChanges.{All-filter, greater-each, smaller-each}
use Rattle.tree_model.proofs.Members.{All-among, All-from_among}
use Rattle.tree_model.proofs.Tops.{above-other, top-none_above}
use Rattle.pruned_list.specs.PrunedList.{PrunedList, absent, hidden, node, PrunesList, IsWhole, in_order}
use Rattle.pruned_list.specs.Whole.{treap_of}
use Rattle.pruned_list.proofs.Prunings.{rising-greater, rising-smaller, whole-in_order}

treap-order : (p : PrunedList) → treap.in_order (treap_of p) ≡ in_order p
unfolding treap_of in_order
treap-order absent = refl
treap-order (hidden x) = refl
treap-order (node e l r) = rw (treap-order l, treap-order r) refl

-- the top is above each of the smaller users, and of the greater ones
above-smaller : (e : Entry) (E : List Entry) → top_of E ≡ Some e → treap.IsAboveEach e.user (smaller e.user E)
above-smaller e E top =
    let none = All-filter (λ (x : Entry). is_above x.user e.user ≡ false) (λ (x : Entry). ltb x.user e.user) E
    (top-none_above E e top) in
    All-from_among (λ (x : Entry). is_above e.user x.user ≡ true) (smaller e.user E)
    (λ x among. let less = All-among (λ (y : Entry). y.user < e.user) (smaller e.user E) x (smaller-each e.user E)
    among in
    let below = All-among (λ (y : Entry). is_above y.user e.user ≡ false) (smaller e.user E) x none among in
    above-other x.user e.user (λ is. omega arith) below)

above-greater : (e : Entry) (E : List Entry) → top_of E ≡ Some e → treap.IsAboveEach e.user (greater e.user E)
above-greater e E top =
    let none = All-filter (λ (x : Entry). is_above x.user e.user ≡ false) (λ (x : Entry). ltb e.user x.user) E
    (top-none_above E e top) in
    All-from_among (λ (x : Entry). is_above e.user x.user ≡ true) (greater e.user E)
    (λ x among. let more = All-among (λ (y : Entry). e.user < y.user) (greater e.user E) x (greater-each e.user E)
    among in
    let below = All-among (λ (y : Entry). is_above y.user e.user ≡ false) (greater e.user E) x none among in
    above-other x.user e.user (λ is. omega arith) below)

part-order : (d : Digest) (p : PrunedList) (E : List Entry) → IsRising E → IsWhole p → PrunesList d p E
    → E ≡ treap.in_order (treap_of p)
part-order d p E rising whole h = sym (treap-order p ∙ whole-in_order d p E rising whole h)

heap : (d : Digest) (p : PrunedList) (E : List Entry) → IsRising E → IsWhole p → PrunesList d p E
    → treap.IsHeap (treap_of p)
unfolding PrunesList IsWhole treap_of
heap d absent E rising whole h = tt
heap d (hidden x) E rising whole h = absurd whole
heap d (node e l r) E rising whole h =
    let rising-l = rising-smaller e.user E rising in
    let rising-r = rising-greater e.user E rising in
    let left = subst (treap.IsAboveEach e.user) (part-order d l (smaller e.user E) rising-l whole.0 h.1)
    (above-smaller e E h.0) in
    let right = subst (treap.IsAboveEach e.user) (part-order d r (greater e.user E) rising-r whole.1 h.2)
    (above-greater e E h.0) in
    (left, right, heap d l (smaller e.user E) rising-l whole.0 h.1, heap d r (greater e.user E) rising-r whole.1 h.2)

pub whole-treap : (d : Digest) (p : PrunedList) (E : List Entry) → IsRising E → IsWhole p → PrunesList d p E
    → treap.IsTreap (treap_of p) × (treap.in_order (treap_of p) ≡ E)
whole-treap d p E rising whole h =
    let same = part-order d p E rising whole h in
    ((subst IsRising same rising, heap d p E rising whole h), sym same)

-- What is found in a pruned list and a set, and what it tells where nothing is found.
use Rattle.std.proofs.Common.{◌≡◌, ◌∙◌, ℕ, ◌<◌, List, [], ◌∷◌, length, Option, None, Some, IsNone, refl, sym, ap, inl, inr, arith}
use Rattle.std.specs.Prelude.{◌↔◌, IfSome}
use Rattle.std.specs.Option.{option_or}
use Rattle.fr_digest.specs.Collision.{Collides, Strings}
use Rattle.fr_digest.specs.Digest.{Digest, IsDigest}
use Rattle.tree_model.specs.declared.entry.Entry.{Entry}
use Rattle.tree_model.specs.AccessList.{IsInRange, IsRising, dict, greater, node_text, set_digest, smaller, top_of}
use Rattle.tree_model.proofs.AccessLists.{set_digest-dict, set_digest-none, set_digest-some, set_digest-top}
use Rattle.tree_model.proofs.NodeStrings.{node_text-same}
use Rattle.pruned_list.specs.PrunedList.{PrunedList, PrunesDict, PrunesList, absent, hidden, node, digest_of, part_digest}
use Rattle.pruned_list.proofs.Prunings.{digest-set}
use Rattle.tree_extract.specs.AccessListDifference.{Both, IsCompared, IsOver, dict_difference, found_at, node_clash}
use Rattle.tree_extract.specs.Difference.{clash_at}
use Rattle.tree_extract.proofs.Differences.{both_none, clash_at-collides, clash_at-equal, clash_at-none, one_some, test-true}

module _ (d : Digest) where
  -- ---- what is found

  pub found-absent : (E : List Entry) → dict_difference d absent E ≡ None
  unfolding dict_difference
  found-absent E = refl

  pub found-hidden : (x : _) (E : List Entry) → dict_difference d (hidden x) E ≡ None
  unfolding dict_difference
  found-hidden x E = refl

  pub found-empty : (p : PrunedList) → dict_difference d p [] ≡ None
  unfolding dict_difference top_of
  found-empty absent = refl
  found-empty (hidden x) = refl
  found-empty (node e l r) = refl

  pub found-node : (e : Entry) (l r : PrunedList) (E : List Entry) (t : Entry) → top_of E ≡ Some t
      → dict_difference d (node e l r) E
      ≡ option_or (node_clash d e l r E t)
      (option_or (dict_difference d l (smaller t.user E)) (dict_difference d r (greater t.user E)))
  unfolding dict_difference
  found-node e l r E t top = rw top refl

  -- ---- where nothing is found

  pub prunes-absent : (E : List Entry) → None ≡ set_digest d E → PrunesList d absent E
  unfolding PrunesList
  prunes-absent [] agree = refl
  prunes-absent (e ∷ E) agree = absurd (set_digest-some d (e ∷ E) (omega arith) (sym agree))

  pub prunes-hidden : (x : _) (E : List Entry) → Some x ≡ set_digest d E → PrunesList d (hidden x) E
  unfolding PrunesList
  prunes-hidden x E agree = sym agree

  pub prunes-node : (e : Entry) (l r : PrunedList) (E : List Entry) (t : Entry) → top_of E ≡ Some t → e ≡ t
      → PrunesList d l (smaller t.user E) → PrunesList d r (greater t.user E) → PrunesList d (node e l r) E
  unfolding PrunesList
  prunes-node e l r E t top same left right = rw same (top, left, right)

  -- what prunes a set has no difference to it
  pub none-prunes : (p : PrunedList) (E : List Entry) → PrunesList d p E → dict_difference d p E ≡ None
  unfolding PrunesList
  none-prunes absent E h = found-absent E
  none-prunes (hidden x) E h = found-hidden x E
  none-prunes (node e l r) E h =
      let left = none-prunes l (smaller e.user E) h.1 in
      let right = none-prunes r (greater e.user E) h.2 in
      let here : node_clash d e l r E e ≡ None =
      rw (digest-set d l (smaller e.user E) h.1, digest-set d r (greater e.user E) h.2) (clash_at-equal d _ _ (test-true (node_text e (set_digest d (smaller e.user E)) (set_digest d (greater e.user E))) _ refl)) in
      found-node e l r E e h.0 ∙ rw (here, left, right) refl

  collides-at : (e : Entry) (l r : PrunedList) (in_left in_right : List Entry → Option Strings) (E : List Entry) (found : Strings)
      → ((F : List Entry) → in_left F ≡ Some found → Collides d found)
      → ((F : List Entry) → in_right F ≡ Some found → Collides d found)
      → (top : Option Entry) → found_at d e l r in_left in_right E top ≡ Some found → Collides d found
  collides-at e l r in_left in_right E found left right None is = absurd cc
  collides-at e l r in_left in_right E found left right (Some t) is =
      elim (one_some (node_clash d e l r E t) (option_or (in_left (smaller t.user E)) (in_right (greater t.user E))) found is) [
        | inl here ↦ clash_at-collides d _ _ found here
        | inr below ↦ elim (one_some (in_left (smaller t.user E)) (in_right (greater t.user E)) found below) [
          | inl on_left ↦ left (smaller t.user E) on_left
          | inr on_right ↦ right (greater t.user E) on_right
        ]
      ]

  -- what is found is a collision
  pub found-collides : (p : PrunedList) (E : List Entry) (found : Strings) → dict_difference d p E ≡ Some found → Collides d found
  unfolding dict_difference
  found-collides absent E found is = absurd cc
  found-collides (hidden x) E found is = absurd cc
  found-collides (node e l r) E found is =
      collides-at e l r (λ F. dict_difference d l F) (λ F. dict_difference d r F) E found
      (λ F here. found-collides l F found here) (λ F here. found-collides r F found here) (top_of E) is

  -- ---- a part and a set in its place

  pub compared-absent : (b : Option (List ℕ)) (E : List Entry) → b ≡ set_digest d E
      → IsCompared d None b None absent E
  unfolding part_digest
  compared-absent b E set = record {
    part = refl;
    set = set;
    finds = sym (found-absent E);
    prunes = λ agree none. prunes-absent E (agree ∙ set);
  }

  pub compared-hidden : (x : List ℕ) (b : Option (List ℕ)) (E : List Entry) → b ≡ set_digest d E
      → IsCompared d (Some x) b None (hidden x) E
  unfolding part_digest
  compared-hidden x b E set = record {
    part = refl;
    set = set;
    finds = sym (found-hidden x E);
    prunes = λ agree none. prunes-hidden x E (agree ∙ set);
  }

  -- the digest of a list, which has an entry
  entry_digest : (p : PrunedList) (x : List ℕ) → (p ≡ absent → ⊥) → x ≡ digest_of d p → Some x ≡ part_digest d p
  unfolding part_digest
  entry_digest absent x some is = absurd (some refl)
  entry_digest (hidden y) x some is = ap (λ z. Some z) is
  entry_digest (node e l r) x some is = ap (λ z. Some z) is

  pub compared-empty : (p : PrunedList) (x : List ℕ) (E : List Entry) → (p ≡ absent → ⊥) → x ≡ digest_of d p
      → length E ≡ 0 → IsCompared d (Some x) None None p E
  compared-empty p x [] some is none = record {
    part = entry_digest p x some is;
    set = sym (set_digest-none d [] refl);
    finds = sym (found-empty p);
    prunes = λ agree nothing. absurd cc;
  }
  compared-empty p x (e ∷ E) some is none = absurd (omega arith)

  pub compared-node : (e : Entry) (l r : PrunedList) (E : List Entry) (t : Entry) (F G : List Entry) (left right whole : Both)
      → top_of E ≡ Some t → F ≡ smaller t.user E → G ≡ greater t.user E
      → IsCompared d left.0 left.1 left.2 l F → IsCompared d right.0 right.1 right.2 r G
      → IsOver d e t left right whole → IsCompared d whole.0 whole.1 whole.2 (node e l r) E
  unfolding part_digest
  compared-node e l r E t F G left right whole top F-is G-is on_left on_right over = record {
    part = over.part ∙ rw (on_left.part, on_right.part) refl;
    set =
        over.set
        ∙ ap (λ x. Some (d (node_text t x right.1))) (on_left.set ∙ ap (λ (xs : List Entry). set_digest d xs) F-is)
        ∙ ap (λ x. Some (d (node_text t (set_digest d (smaller t.user E)) x))) (on_right.set ∙ ap (λ (xs : List Entry). set_digest d xs) G-is)
        ∙ sym (set_digest-top d E t top);
    finds =
        over.finds
        ∙ rw (on_left.part, on_right.part, on_left.set, on_right.set, on_left.finds, on_right.finds, F-is, G-is) (sym (found-node e l r E t top));
    prunes = λ agree none.
        let same = over.same agree none in
        let below = both_none _ _ (sym over.finds ∙ none) in
        let parts = both_none left.2 right.2 below.1 in
        prunes-node e l r E t top same.0 (rw (← F-is) (on_left.prunes same.1 parts.0)) (rw (← G-is) (on_right.prunes same.2 parts.1));
  }

  -- two nodes of one digest in which nothing is found are one
  pub over-same : (e t : Entry) (la lb ra rb : Option (List ℕ)) → IsInRange e → IsInRange t → IfSome la IsDigest
      → IfSome lb IsDigest → d (node_text e la ra) ≡ d (node_text t lb rb)
      → clash_at d (node_text e la ra) (node_text t lb rb) ≡ None → (e ≡ t) × (la ≡ lb) × (ra ≡ rb)
  over-same e t la lb ra rb he ht hla hlb agree none =
      node_text-same 32 e t la ra lb rb he ht hla hlb (clash_at-none d (node_text e la ra) (node_text t lb rb) agree none)

  -- ---- the whole list

  -- Of a list and a set of one digest nothing is found exactly where the list prunes the set.
  pub found-decides : (p : PrunedList) (E : List Entry) (found : Option Strings) → 0 < length E
      → found ≡ dict_difference d p E → (found ≡ None → PrunesList d p E) → IsNone found ↔ PrunesDict d p E
  found-decides p E None some is prunes = ((λ none. record { some = some; parts = prunes refl }), (λ h. refl))
  found-decides p E (Some x) some is prunes =
      ((λ none. absurd cc), (λ h. let none = none-prunes p E h.parts in absurd cc))

  -- The digests of a list and a set agree.
  pub one_digest : (p : PrunedList) (E : List Entry) (a b : Option (List ℕ)) → 0 < length E → a ≡ part_digest d p
      → b ≡ set_digest d E → (p ≡ absent → ⊥) → digest_of d p ≡ dict d E → a ≡ b
  one_digest p E a b some is set entry agree =
      is ∙ sym (entry_digest p (dict d E) entry (sym agree)) ∙ sym (set_digest-dict d E some) ∙ sym set

-- Who is in an access list, and how many, after a change.
use Rattle.std.proofs.Common.{◌≡◌, ◌∙◌, inl, inr, ℕ, ◌+◌, ◌<◌, true, false, not, List, [], ◌∷◌, ◌++◌, length, Option, Some, None, refl, sym, ap, subst, arith, eq-eqb, ne_eqb, length-append}
use Rattle.std.specs.Prelude.{◌↔◌, nat_eq, nat_lt}
use Rattle.std.specs.List.{AllByRecursion}
use Rattle.std.specs.Option.{option_map}
use Rattle.std.proofs.lemmas.Bool.{cases_eq, cases_lt, lt-ltb, le-ltb}
use Rattle.std.proofs.lemmas.List.{length-map}
use Rattle.tree_model.specs.declared.entry.Entry.{Entry}
use Rattle.tree_model.specs.AccessList.{IsListed, IsRising, entry_of, greater, numbered, smaller, with_entry, with_next, without}
use Rattle.tree_model.proofs.Filters.{filter-all}
use Rattle.tree_model.proofs.ListChanges.{All-weaker}
use Rattle.tree_model.proofs.LookUps.{with_next-own, with_next-other}

-- ---- an author's next number

-- an entry that was found, with this next number
abbrev with_number : ℕ → Option Entry → Option Entry
with_number next o = option_map (λ (x : Entry). record { user = x.user; role = x.role; next = next }) o

found-numbered : (next : ℕ) (o : Option Entry) (e : Entry)
    → with_number next o ≡ Some e
    → ((x : Entry) × (o ≡ Some x)) × (e.next ≡ next)
found-numbered next None e found = absurd cc
found-numbered next (Some x) e found = ((x, refl), cc)

-- the entry of the author after it
pub own-next : (es : List Entry) (author next : ℕ) (e : Entry) → entry_of (with_next author next es) author ≡ Some e
    → e.next ≡ next
own-next es author next e found =
    (found-numbered next (entry_of es author) e (sym (with_next-own author next es) ∙ found)).1

pub listed-next : (es : List Entry) (author next u : ℕ) → IsListed (with_next author next es) u ↔ IsListed es u
listed-next es author next u = elim (cases_eq u author) [
  | inl same ↦ (
    λ is. subst (IsListed es) (sym same)
        (found-numbered next (entry_of es author) is.0 (sym (with_next-own author next es)
        ∙ subst (λ (v : ℕ). entry_of (with_next author next es) v ≡ Some is.0) same is.1)).0,
    λ is. subst (IsListed (with_next author next es)) (sym same) (
      _,
      with_next-own author next es
          ∙ ap (with_number next)
          (subst (λ (v : ℕ). entry_of es v ≡ Some is.0) same is.1),
    ),
  )
  | inr other ↦ (
    λ is. (is.0, sym (with_next-other author next u es other) ∙ is.1),
    λ is. (is.0, with_next-other author next u es other ∙ is.1),
  )
]

pub length-next : (es : List Entry) (author next : ℕ) → length (with_next author next es) ≡ length es
length-next es author next = length-map es (numbered author next)

pub nobody-next : (es : List Entry) (author next u : ℕ) → entry_of es u ≡ None
    → entry_of (with_next author next es) u ≡ None
nobody-next es author next u none = elim (cases_eq u author) [
  | inl same ↦
      let none' : entry_of es author ≡ None = subst (λ (v : ℕ). entry_of es v ≡ None) same none in
      subst (λ (v : ℕ). entry_of (with_next author next es) v ≡ None) (sym same)
      (with_next-own author next es ∙ rw none' refl)
  | inr other ↦ with_next-other author next u es other ∙ none
]

-- ---- how many there are

found-behind : (e : Entry) (es : List Entry) (u : ℕ) → nat_eq e.user u ≡ false → entry_of (e ∷ es) u ≡ entry_of es u
found-behind e es u off = rw off refl

found-first : (e : Entry) (es : List Entry) (u : ℕ) → nat_eq e.user u ≡ true → entry_of (e ∷ es) u ≡ Some e
found-first e es u is = rw is refl

-- where a user isn't there, each entry is a smaller or a greater user's
parts : (u : ℕ) (es : List Entry) → entry_of es u ≡ None → length (smaller u es) + length (greater u es) ≡ length es
parts u [] none = refl
parts u (e ∷ es) none = elim (cases_eq e.user u) [
  | inl same ↦ (let found = found-first e es u (eq-eqb e.user u same) in absurd cc)
  | inr other ↦
      let rest = parts u es (sym (found-behind e es u (ne_eqb e.user u other)) ∙ none) in
      elim (cases_lt e.user u) [
        | inl less ↦
            let is : nat_lt e.user u ≡ true = lt-ltb e.user u less in
            let isnt : nat_lt u e.user ≡ false = le-ltb u e.user (omega arith) in
            rw (is, isnt) (omega arith)
        | inr past ↦
            let isnt : nat_lt e.user u ≡ false = le-ltb e.user u past in
            let is : nat_lt u e.user ≡ true = lt-ltb u e.user (omega arith) in
            rw (is, isnt) (omega arith)
      ]
]

pub length-entry : (e : Entry) (es : List Entry) → entry_of es e.user ≡ None
    → length (with_entry e es) ≡ length es + 1
length-entry e es none =
    let all = parts e.user es none in
    let whole = length-append (smaller e.user es ++ e ∷ []) (greater e.user es) in
    let front = length-append (smaller e.user es) (e ∷ []) in
    omega arith

others : (u : ℕ) (es : List Entry) → AllByRecursion (λ (x : Entry). u < x.user) es → without u es ≡ es
others u es above = filter-all (λ (e : Entry). not (nat_eq e.user u)) es
    (All-weaker (λ (x : Entry). u < x.user) (λ (x : Entry). not (nat_eq x.user u) ≡ true)
    (λ x less. rw (ne_eqb x.user u (λ same. omega arith)) refl) es above)

pub length-without : (u : ℕ) (es : List Entry) → IsRising es → IsListed es u → length (without u es) + 1 ≡ length es
length-without u [] rise is = let found = is.1 in absurd cc
length-without u (e ∷ es) rise is = elim (cases_eq e.user u) [
  | inl same ↦
      let gone : not (nat_eq e.user u) ≡ false = rw (eq-eqb e.user u same) refl in
      let rest : length (without u es) ≡ length es =
      ap (λ (xs : List Entry). length xs)
      (others u es (subst (λ (v : ℕ). AllByRecursion (λ (x : Entry). v < x.user) es) same rise.0)) in
      rw gone (omega arith)
  | inr other ↦
      let kept : not (nat_eq e.user u) ≡ true = rw (ne_eqb e.user u other) refl in
      let rest = length-without u es rise.1
      (is.0, sym (found-behind e es u (ne_eqb e.user u other)) ∙ is.1) in
      rw kept (omega arith)
]

-- The tests of the walk, and the marks and versions of the halves of a node.
use Rattle.std.proofs.Common.{◌≡◌, ℕ, ◌+◌, ◌-◌, ◌<◌, ◌≤◌, Bool, true, false, ◌&&◌, ◌||◌, List, [], ◌∷◌, refl, ap, sym, ◌∙◌, inl, inr, arith}
use Rattle.std.specs.List.{list_any}
use Rattle.std.specs.Prelude.{map, nat_eq, nat_le, nat_lt}
use Rattle.std.proofs.lemmas.Bool.{and_from, and_left, and_parts, and_right, cases_lt, eq-eqb, eqb-true, le-leb, le-ltb, leb-true, lt-leb, lt-ltb, ltb-true, or_cases, or_left, or_right}
use Rattle.tree_prune.specs.LeastHistory.{any, from_on, inside, listed, numbered}
use Rattle.tree_prune.specs.Wanted.{is_wanted}
use Rattle.tree_prune.proofs.Marks.{any-made, any-some, from_on-numbered, list_any-some, numbered-same, same_test}

there : (from : ℕ) (ps : List ℕ) (start end : ℕ) → start < end
    → nat_lt from end || list_any (λ n. nat_le start n && nat_lt n end) ps ≡ true
    → any (numbered (is_wanted from ps) start (end - start)) ≡ true
there from ps start end some h =
    elim (or_cases (nat_lt from end) (list_any (λ n. nat_le start n && nat_lt n end) ps) h) [
      | inl low ↦
          let less = ltb-true from end low in
          any-made (is_wanted from ps) start (end - start) (end - 1) (omega arith) (omega arith)
          (or_left (nat_le from (end - 1)) (list_any (nat_eq (end - 1)) ps) (le-leb from (end - 1) (omega arith)))
      | inr one ↦
          let found = list_any-some (λ n. nat_le start n && nat_lt n end) ps one in
          let parts = and_parts (nat_le start found.it) (nat_lt found.it end) found.passes in
          let low = leb-true start found.it parts.0 in
          let high = ltb-true found.it end parts.1 in
          any-made (is_wanted from ps) start (end - start) found.it (omega arith) (omega arith)
          (or_right (nat_le from found.it) (list_any (nat_eq found.it) ps) (found.other (nat_eq found.it) (eq-eqb
          found.it found.it refl)))
    ]

back : (from : ℕ) (ps : List ℕ) (start end : ℕ) → start < end
    → any (numbered (is_wanted from ps) start (end - start)) ≡ true
    → nat_lt from end || list_any (λ n. nat_le start n && nat_lt n end) ps ≡ true
back from ps start end some h =
    let it = any-some (is_wanted from ps) start (end - start) h in
    let low = it.low in
    let high = it.high in
    elim (or_cases (nat_le from it.k) (list_any (nat_eq it.k) ps) it.set) [
      | inl after ↦
          let le = leb-true from it.k after in
          or_left (nat_lt from end) (list_any (λ n. nat_le start n && nat_lt n end) ps) (lt-ltb from end (omega
          arith))
      | inr one ↦
          let found = list_any-some (nat_eq it.k) ps one in
          let same = eqb-true it.k found.it found.passes in
          or_right (nat_lt from end) (list_any (λ n. nat_le start n && nat_lt n end) ps)
          (found.other (λ n. nat_le start n && nat_lt n end)
          (and_from (nat_le start found.it) (nat_lt found.it end) (le-leb start found.it (omega arith)) (lt-ltb
          found.it end (omega arith))))
    ]

-- a position within a node that is shown from `from` on, or listed
pub wants : (from : ℕ) (ps : List ℕ) (start end : ℕ) → start < end
    → nat_lt from end || list_any (λ n. nat_le start n && nat_lt n end) ps ≡ any (numbered (is_wanted from ps)
    start (end - start))
wants from ps start end some =
    same_test (nat_lt from end || list_any (λ n. nat_le start n && nat_lt n end) ps) (any (numbered (is_wanted from
    ps) start (end - start)))
    (there from ps start end some) (back from ps start end some)

-- the two answers of the test

pub wants-from : (from : ℕ) (ps : List ℕ) (start end : ℕ) → start < end → from < end
    → nat_lt from end ≡ any (numbered (is_wanted from ps) start (end - start))
wants-from from ps start end some less =
    let all = wants from ps start end some in
    let test = lt-ltb from end less in rw test (rw test at all)

pub wants-listed : (from : ℕ) (ps : List ℕ) (start end : ℕ) → start < end → end ≤ from
    → list_any (λ n. nat_le start n && nat_lt n end) ps ≡ any (numbered (is_wanted from ps) start (end - start))
wants-listed from ps start end some less =
    let all = wants from ps start end some in
    let test = le-ltb from end less in rw test at all

-- a version that ends within a node, counted from its first position
one_version : (start end v : ℕ) → start < end
    → (nat_le (start + 1) v && nat_lt v end) ≡ (nat_lt 0 (v - start) && nat_lt (v - start) (end - start))
one_version start end v some =
    elim (cases_lt start v) [
      | inl past ↦ elim (cases_lt v end) [
        | inl before ↦
            and_from (nat_le (start + 1) v) (nat_lt v end) (le-leb (start + 1) v (omega arith)) (lt-ltb v end before)
            ∙ sym (and_from (nat_lt 0 (v - start)) (nat_lt (v - start) (end - start)) (lt-ltb 0 (v - start) (omega
            arith)) (lt-ltb (v - start) (end - start) (omega arith)))
        | inr after ↦
            and_right (nat_le (start + 1) v) (nat_lt v end) (le-ltb v end after)
            ∙ sym (and_right (nat_lt 0 (v - start)) (nat_lt (v - start) (end - start)) (le-ltb (v - start) (end -
            start) (omega arith)))
      ]
      | inr before ↦
          and_left (nat_le (start + 1) v) (nat_lt v end) (lt-leb (start + 1) v (omega arith))
          ∙ sym (and_left (nat_lt 0 (v - start)) (nat_lt (v - start) (end - start)) (le-ltb 0 (v - start) (omega
          arith)))
    ]

pub parts : (start end : ℕ) (vs : List ℕ) → start < end
    → list_any (λ n. nat_le (start + 1) n && nat_lt n end) vs ≡ inside (end - start) (map (λ v. v - start) vs)
parts start end [] some = refl
parts start end (v ∷ vs) some =
    ap (λ b. b || list_any (λ n. nat_le (start + 1) n && nat_lt n end) vs) (one_version start end v some)
    ∙ ap (λ b. (nat_lt 0 (v - start) && nat_lt (v - start) (end - start)) || b) (parts start end vs some)

-- versions counted from the right half
pub versions-right : (vs : List ℕ) (start half : ℕ)
    → map (λ v. v - half) (map (λ v. v - start) vs) ≡ map (λ v. v - (start + half)) vs
versions-right [] start half = refl
versions-right (v ∷ vs) start half =
    let here : v - start - half ≡ v - (start + half) = omega arith in
    ap (λ u. u ∷ map (λ v. v - half) (map (λ v. v - start) vs)) here
    ∙ ap (λ us. (v - (start + half)) ∷ us) (versions-right vs start half)

pub versions-first : (vs : List ℕ) → map (λ v. v - 0) vs ≡ vs
versions-first [] = refl
versions-first (v ∷ vs) = let here : v - 0 ≡ v = omega arith in ap (λ u. u ∷ map (λ v. v - 0) vs) here
    ∙ ap (λ us. v ∷ us) (versions-first vs)

-- ---- the marks of the two calls

or_false : (b : Bool) → b || false ≡ b
or_false true = refl
or_false false = refl

pub marks-from : (a n : ℕ) → a ≤ n → numbered (is_wanted a []) 0 n ≡ from_on a n
marks-from a n within =
    numbered-same (is_wanted a []) (λ k. nat_le a k) 0 n (λ k low high. or_false (nat_le a k))
    ∙ from_on-numbered a n within

pub marks-listed : (ps : List ℕ) (n : ℕ) → numbered (is_wanted n ps) 0 n ≡ listed ps n
marks-listed ps n =
    numbered-same (is_wanted n ps) (λ k. list_any (nat_eq k) ps) 0 n
    (λ k low high. ap (λ b. b || list_any (nat_eq k) ps) (lt-leb n k (omega arith)))

-- The laws of the history tree over lists: the equations of its nodes, its height, and that the root
-- of a version depends on the first texts alone.
use Rattle.std.proofs.Common.{◌≡◌, ℕ, zero, suc, ◌+◌, ◌-◌, ◌*◌, ◌^◌, ◌<◌, ◌≤◌, List, [], ◌∷◌, ◌++◌, length, take, drop, get_or, refl, ap, sym, ◌∙◌, inl, inr, add-zero, add-one, arith}
use Rattle.std.proofs.lemmas.Bool.{lt-ltb, le-ltb, cases_lt}
use Rattle.std.proofs.lemmas.List.{length-take-le, take-take, take_all, take-append-le}
use Rattle.std.proofs.Math.Nat.{pow-suc}
use Rattle.std.proofs.Math.Pow.{pow_mono}
use Rattle.fr_digest.specs.Digest.{Digest, IsDigest}
use Rattle.tree_model.specs.History.{leaf_string, single_string, pair_string, node_string, part, least_exponent, depth, root_of_all, root}

-- ---- the equations of a node

pub node_string-leaf : (d : Digest) (text : List ℕ) → node_string d 0 (text ∷ []) ≡ leaf_string text
unfolding node_string
node_string-leaf d text = refl

pub node_string-single : (d : Digest) (j : ℕ) (texts : List (List ℕ)) → length texts ≤ 2 ^ j → node_string d (suc j) texts ≡ single_string (part d j texts)
unfolding node_string part
node_string-single d j texts fits = rw (le-ltb (2 ^ j) (length texts) fits) refl

pub node_string-pair : (d : Digest) (j : ℕ) (texts : List (List ℕ)) → 2 ^ j < length texts → node_string d (suc j) texts ≡ pair_string (part d j (take (2 ^ j) texts)) (part d j (drop (2 ^ j) texts))
unfolding node_string part
node_string-pair d j texts more = rw (lt-ltb (2 ^ j) (length texts) more) refl

pub part-string : (d : Digest) (j : ℕ) (texts : List (List ℕ)) → part d j texts ≡ d (node_string d j texts)
unfolding part
part-string d j texts = refl

pub part-leaf : (d : Digest) (text : List ℕ) → part d 0 (text ∷ []) ≡ d (leaf_string text)
part-leaf d text = rw (part-string, node_string-leaf) refl

pub part-single : (d : Digest) (j : ℕ) (texts : List (List ℕ)) → length texts ≤ 2 ^ j → part d (suc j) texts ≡ d (single_string (part d j texts))
part-single d j texts fits = rw (part-string d (suc j) texts, node_string-single d j texts fits) refl

pub part-pair : (d : Digest) (j : ℕ) (texts : List (List ℕ)) → 2 ^ j < length texts → part d (suc j) texts ≡ d (pair_string (part d j (take (2 ^ j) texts)) (part d j (drop (2 ^ j) texts)))
part-pair d j texts more = rw (part-string d (suc j) texts, node_string-pair d j texts more) refl

-- the same equations at a height written as in the code

pub node_string-at_leaf : (d : Digest) (texts : List (List ℕ)) (text : List ℕ) → 0 < length texts → text ≡ get_or texts 0 text → node_string d 0 texts ≡ leaf_string text
unfolding node_string
node_string-at_leaf d [] text some here = absurd (omega arith)
node_string-at_leaf d (first ∷ texts) text some here = ap leaf_string (sym here)

pub node_string-at_single : (d : Digest) (level : ℕ) (texts : List (List ℕ)) → 0 < level → length texts ≤ 2 ^ (level - 1) → node_string d level texts ≡ single_string (part d (level - 1) texts)
node_string-at_single d zero texts above fits = absurd (omega arith)
node_string-at_single d (suc j) texts above fits =
    let below : suc j - 1 ≡ j = omega arith in rw below (node_string-single d j texts (rw below at fits))

pub node_string-at_pair : (d : Digest) (level : ℕ) (texts : List (List ℕ)) → 0 < level → 2 ^ (level - 1) < length texts → node_string d level texts ≡ pair_string (part d (level - 1) (take (2 ^ (level - 1)) texts)) (part d (level - 1) (drop (2 ^ (level - 1)) texts))
node_string-at_pair d zero texts above more = absurd (omega arith)
node_string-at_pair d (suc j) texts above more =
    let below : suc j - 1 ≡ j = omega arith in rw below (node_string-pair d j texts (rw below at more))

-- the halves of a node fit below it
pub halves-fit : (level n : ℕ) → 0 < level → n ≤ 2 ^ level → n - 2 ^ (level - 1) ≤ 2 ^ (level - 1)
halves-fit zero n above fits = absurd (omega arith)
halves-fit (suc j) n above fits =
    let below : suc j - 1 ≡ j = omega arith in
    let twice = pow-suc 2 j in
    rw below (omega arith)

-- each node's digest has a digest's length
pub length-part : (d : Digest) → ((m : List ℕ) → IsDigest (d m)) → (j : ℕ) (texts : List (List ℕ)) → IsDigest (part d j texts)
unfolding part
length-part d sized j texts = sized (node_string d j texts)

-- ---- the height

least_exponent-here : (n from tries : ℕ) → n ≤ 2 ^ from → least_exponent n from tries ≡ from
unfolding least_exponent
least_exponent-here n from zero fits = refl
least_exponent-here n from (suc tries) fits = rw (le-ltb (2 ^ from) n fits) refl

least_exponent-on : (n from tries : ℕ) → 2 ^ from < n → least_exponent n from (suc tries) ≡ least_exponent n (suc from) tries
unfolding least_exponent
least_exponent-on n from tries more = rw (lt-ltb (2 ^ from) n more) refl

least_exponent-is : (n from tries e : ℕ) → from ≤ e → e ≤ from + tries → n ≤ 2 ^ e → ((i : ℕ) → i < e → 2 ^ i < n) → least_exponent n from tries ≡ e
least_exponent-is n from zero e low high fits below =
    let same : from ≡ e = omega arith in
    let here : n ≤ 2 ^ from = rw same fits in
    least_exponent-here n from zero here ∙ same
least_exponent-is n from (suc tries) e low high fits below =
    elim (cases_lt from e) [
      | inl more ↦ least_exponent-on n from tries (below from more) ∙ least_exponent-is n (suc from) tries e (omega arith) (omega arith) fits below
      | inr less ↦
          let same : from ≡ e = omega arith in
          let here : n ≤ 2 ^ from = rw same fits in
          least_exponent-here n from (suc tries) here ∙ same
    ]

below_power : (n : ℕ) → n < 2 ^ n
below_power zero = omega arith
below_power (suc n) = let before = below_power n in let twice = pow-suc 2 n in omega arith

-- the height is the only number with these two facts
pub depth-is : (n e : ℕ) → n ≤ 2 ^ e → ((i : ℕ) → i < e → 2 ^ i < n) → depth n ≡ e
unfolding depth
depth-is n e fits below =
    let within : e ≤ n = elim (cases_lt n e) [ inl more ↦ let wrong = below n more in let right = below_power n in absurd (omega arith) | inr less ↦ less ] in
    least_exponent-is n 0 n e (omega arith) (omega arith) fits below

least_exponent-fits : (n from tries : ℕ) → n ≤ 2 ^ (from + tries) → n ≤ 2 ^ least_exponent n from tries
unfolding least_exponent
least_exponent-fits n from zero fits = simp add-zero at fits
least_exponent-fits n from (suc tries) fits =
    elim (cases_lt (2 ^ from) n) [
      | inl more ↦
          let same : from + suc tries ≡ suc from + tries = omega arith in
          rw (least_exponent-on n from tries more) (least_exponent-fits n (suc from) tries (rw same at fits))
      | inr here ↦ rw (least_exponent-here n from (suc tries) here) here
    ]

-- the height is enough
pub depth-fits : (n : ℕ) → n ≤ 2 ^ depth n
unfolding depth
depth-fits n = let high = below_power n in let start : 0 + n ≡ n = omega arith in least_exponent-fits n 0 n (rw start (omega arith))

below_next : (n from : ℕ) → ((i : ℕ) → i < from → 2 ^ i < n) → 2 ^ from < n → (i : ℕ) → i < suc from → 2 ^ i < n
below_next n from below more i less =
    elim (cases_lt i from) [
      | inl before ↦ below i before
      | inr after ↦ let same : i ≡ from = omega arith in rw same more
    ]

least_exponent-least : (n from tries : ℕ) → ((i : ℕ) → i < from → 2 ^ i < n) → (i : ℕ) → i < least_exponent n from tries → 2 ^ i < n
unfolding least_exponent
least_exponent-least n from zero below i less = below i less
least_exponent-least n from (suc tries) below i less =
    elim (cases_lt (2 ^ from) n) [
      | inl more ↦ least_exponent-least n (suc from) tries (below_next n from below more) i (rw (least_exponent-on n from tries more) at less)
      | inr here ↦ below i (rw (least_exponent-here n from (suc tries) here) at less)
    ]

-- no smaller number is enough
pub depth-least : (n i : ℕ) → i < depth n → 2 ^ i < n
unfolding depth
depth-least n i less = least_exponent-least n 0 n (λ k h. absurd (omega arith)) i less

pub depth-one : depth 1 ≡ 0
depth-one = depth-is 1 0 (omega arith) (λ i h. absurd (omega arith))

-- more than one leaf: one more than the binary logarithm of the number before
pub depth-next : (m e : ℕ) → 2 ^ e ≤ m → m < 2 * 2 ^ e → depth (m + 1) ≡ e + 1
depth-next m e low high =
    let twice : 2 ^ (e + 1) ≡ 2 ^ e * 2 = rw add-one (pow-suc 2 e) in
    let below : (i : ℕ) → i < e + 1 → 2 ^ i < m + 1 = λ i less. let smaller = pow_mono {i = i} {j = e} (omega arith) in omega arith in
    depth-is (m + 1) (e + 1) (omega arith) below

-- ---- the root of a version

pub root_of_all-part : (d : Digest) (texts : List (List ℕ)) → root_of_all d texts ≡ part d (depth (length texts)) texts
unfolding root_of_all
root_of_all-part d texts = refl

-- the root of a version is the root of the list of its texts
pub root-all : (d : Digest) (texts : List (List ℕ)) (v : ℕ) → root d texts v ≡ root_of_all d (take v texts)
unfolding root
root-all d texts v = refl

-- lists that agree in their first texts agree in the root over them
pub root-prefix : (d : Digest) (left right : List (List ℕ)) (v : ℕ) → take v left ≡ take v right → root d left v ≡ root d right v
unfolding root
root-prefix d left right v same = ap (root_of_all d) same

pub root-part : (d : Digest) (texts : List (List ℕ)) (v : ℕ) → v ≤ length texts → root d texts v ≡ part d (depth v) (take v texts)
unfolding root root_of_all
root-part d texts v within = rw (length-take-le v texts within) refl

pub root-one : (d : Digest) (text : List ℕ) (texts : List (List ℕ)) → root d (text ∷ texts) 1 ≡ d (leaf_string text)
root-one d text texts = rw (root-part d (text ∷ texts) 1 (omega arith), depth-one) (part-leaf d text)

-- a version's root stays when texts are added
pub root-append : (d : Digest) (texts more : List (List ℕ)) (v : ℕ) → v ≤ length texts → root d (texts ++ more) v ≡ root d texts v
root-append d texts more v within = root-prefix d (texts ++ more) texts v (take-append-le v texts more within)

-- the root of a version, read from any longer version
pub root-take : (d : Digest) (texts : List (List ℕ)) (v size : ℕ) → v ≤ size → root d (take size texts) v ≡ root d texts v
root-take d texts v size within = root-prefix d (take size texts) texts v (take-take v size texts within)

-- the root of the version of all texts
pub root-length : (d : Digest) (texts : List (List ℕ)) → root d texts (length texts) ≡ root_of_all d texts
unfolding root
root-length d texts = ap (root_of_all d) (take_all (length texts) texts (omega arith))

-- so the root of a version is the root of the last version of the list of its texts
pub root-of_take : (d : Digest) (texts : List (List ℕ)) (v : ℕ) → root d (take v texts) (length (take v texts)) ≡ root d texts v
root-of_take d texts v = root-length d (take v texts) ∙ sym (root-all d texts v)

pub length-root : (d : Digest) → ((m : List ℕ) → IsDigest (d m)) → (texts : List (List ℕ)) (v : ℕ) → IsDigest (root d texts v)
unfolding root root_of_all
length-root d sized texts v = length-part d sized (depth (length (take v texts))) (take v texts)

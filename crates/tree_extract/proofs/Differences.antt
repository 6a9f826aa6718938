-- The laws of the first difference of two trees: what is found is a collision, and under one digest
-- nothing is found exactly where the lists are equal.
use Rattle.std.proofs.Common.{◌≡◌, ◌⊎◌, ◌↔◌, ℕ, zero, suc, ◌-◌, ◌^◌, ◌<◌, ◌≤◌, true, false, List, [], ◌∷◌, ◌++◌, length, take, drop, get_or, Option, None, Some, IsNone, refl, ap, sym, subst, ◌∙◌, inl, inr, arith}
use Rattle.std.proofs.lemmas.Bool.{and_from, and_parts, cases_Bool, cases_lt, eq-eqb, lt-ltb, le-ltb}
use Rattle.std.specs.Prelude.{nat_eq}
use Rattle.std.specs.Cmp.Lexicographic.{pointwise, same_text}
use Rattle.std.proofs.lemmas.Bool.Decides.{not_from_Decides}
use Rattle.std.proofs.lemmas.List.{length-drop, length-take-le, take-append-drop}
use Rattle.std.proofs.lemmas.Nat.{pow_pos}
use Rattle.std.proofs.lemmas.Slice.Eq.{bytes_eq-Decides}
use Rattle.std.proofs.Math.Nat.{pow-suc}
use Rattle.std.specs.Option.{option_or}
use Rattle.std.specs.Str.{bytes_eq}
use Rattle.fr_digest.specs.Collision.{Strings, Collides}
use Rattle.fr_digest.specs.Digest.{Digest, IsDigest}
use Rattle.tree_model.proofs.HistoryLaws.{depth-fits, length-part, node_string-at_leaf, node_string-leaf, node_string-pair, node_string-single, part-pair, part-single, part-string, root-length, root_of_all-part}
use Rattle.tree_model.specs.History.{depth, leaf_string, node_string, pair_string, part, root, single_string}
use Rattle.tree_extract.specs.Difference.{Tree, unshown, node, clash_at, difference, history_tree, list_difference, tree_of}

-- ---- one node

pub test-true : (a b : List ℕ) → a ≡ b → bytes_eq a b ≡ true
test-true a b same = (bytes_eq-Decides a b).1 same

pub clash_at-equal : (d : Digest) (a b : List ℕ) → bytes_eq a b ≡ true → clash_at d a b ≡ None
unfolding clash_at
clash_at-equal d a b equal = rw equal refl

pub clash_at-found : (d : Digest) (a b : List ℕ) → bytes_eq a b ≡ false → bytes_eq (d a) (d b) ≡ true → clash_at d a b ≡ Some (record { a = a; b = b })
unfolding clash_at
clash_at-found d a b differ agree = rw (differ, agree) refl

pub clash_at-apart : (d : Digest) (a b : List ℕ) → bytes_eq a b ≡ false → bytes_eq (d a) (d b) ≡ false → clash_at d a b ≡ None
unfolding clash_at
clash_at-apart d a b differ apart = rw (differ, apart) refl

-- under equal digests nothing is found at a node exactly where its strings are equal
pub clash_at-none : (d : Digest) (a b : List ℕ) → d a ≡ d b → clash_at d a b ≡ None → a ≡ b
clash_at-none d a b agree nothing =
    elim (cases_Bool (bytes_eq a b)) [
      | inl equal ↦ (bytes_eq-Decides a b).0 equal
      | inr differ ↦ let found = clash_at-found d a b differ (test-true (d a) (d b) agree) in cc
    ]

pub clash_at-collides : (d : Digest) (a b : List ℕ) (found : Strings) → clash_at d a b ≡ Some found → Collides d found
clash_at-collides d a b found is =
    elim (cases_Bool (bytes_eq a b)) [
      | inl equal ↦ let nothing = clash_at-equal d a b equal in cc
      | inr differ ↦ elim (cases_Bool (bytes_eq (d a) (d b))) [
        | inl agree ↦
            let here = clash_at-found d a b differ agree in
            let same : record { a = a; b = b } ≡ found = cc in
            rw (← same) (record { differ = not_from_Decides (bytes_eq a b) (bytes_eq-Decides a b) differ; agree = (bytes_eq-Decides (d a) (d b)).0 agree })
        | inr apart ↦ let nothing = clash_at-apart d a b differ apart in cc
      ]
    ]

-- ---- trees

pub option_or-none : {T : Type 0} (x : Option T) → option_or x None ≡ x
option_or-none None = refl
option_or-none (Some x) = refl

pub both_none : {T : Type 0} (x y : Option T) → option_or x y ≡ None → (x ≡ None) × (y ≡ None)
both_none None y nothing = (refl, nothing)
both_none (Some x) y nothing = cc

pub one_some : {T : Type 0} (x y : Option T) (v : T) → option_or x y ≡ Some v → (x ≡ Some v) ⊎ (y ≡ Some v)
one_some None y v is = inr is
one_some (Some x) y v is = inl is

pub difference-node : (d : Digest) (a b : List ℕ) (left right left' right' : Tree) → difference d (node a left right) (node b left' right') ≡ option_or (clash_at d a b) (option_or (difference d left left') (difference d right right'))
unfolding difference
difference-node d a b left right left' right' = refl

pub difference-unshown : (d : Digest) (t : Tree) → difference d unshown t ≡ None
unfolding difference
difference-unshown d t = refl

pub difference-same : (d : Digest) (t : Tree) → difference d t t ≡ None
difference-same d unshown = difference-unshown d unshown
difference-same d (node a left right) =
    rw (difference-node d a a left right left right, clash_at-equal d a a (test-true a a refl), difference-same d left, difference-same d right) refl

pub difference-collides : (d : Digest) (t u : Tree) (found : Strings) → difference d t u ≡ Some found → Collides d found
unfolding difference
difference-collides d unshown u found is = cc
difference-collides d (node a left right) unshown found is = cc
difference-collides d (node a left right) (node b left' right') found is =
    elim (one_some (clash_at d a b) (option_or (difference d left left') (difference d right right')) found is) [
      | inl here ↦ clash_at-collides d a b found here
      | inr below ↦ elim (one_some (difference d left left') (difference d right right') found below) [
        | inl on_left ↦ difference-collides d left left' found on_left
        | inr on_right ↦ difference-collides d right right' found on_right
      ]
    ]

-- ---- trees over lists

pub tree_of-leaf : (d : Digest) (texts : List (List ℕ)) → tree_of d 0 texts ≡ node (node_string d 0 texts) unshown unshown
unfolding tree_of
tree_of-leaf d texts = refl

pub tree_of-single : (d : Digest) (j : ℕ) (texts : List (List ℕ)) → length texts ≤ 2 ^ j → tree_of d (suc j) texts ≡ node (node_string d (suc j) texts) (tree_of d j texts) unshown
unfolding tree_of
tree_of-single d j texts fits = rw (le-ltb (2 ^ j) (length texts) fits) refl

pub tree_of-pair : (d : Digest) (j : ℕ) (texts : List (List ℕ)) → 2 ^ j < length texts → tree_of d (suc j) texts ≡ node (node_string d (suc j) texts) (tree_of d j (take (2 ^ j) texts)) (tree_of d j (drop (2 ^ j) texts))
unfolding tree_of
tree_of-pair d j texts more = rw (lt-ltb (2 ^ j) (length texts) more) refl

pub difference-leaf : (d : Digest) (a b : List (List ℕ)) → difference d (tree_of d 0 a) (tree_of d 0 b) ≡ clash_at d (node_string d 0 a) (node_string d 0 b)
difference-leaf d a b =
    rw (tree_of-leaf d a, tree_of-leaf d b, difference-node, difference-unshown d unshown)
    (option_or-none (clash_at d (node_string d 0 a) (node_string d 0 b)))

pub difference-single : (d : Digest) (j : ℕ) (a b : List (List ℕ)) → length a ≤ 2 ^ j → length b ≤ 2 ^ j → difference d (tree_of d (suc j) a) (tree_of d (suc j) b) ≡ option_or (clash_at d (single_string (part d j a)) (single_string (part d j b))) (difference d (tree_of d j a) (tree_of d j b))
difference-single d j a b fits fits' =
    rw (tree_of-single d j a fits, tree_of-single d j b fits', difference-node, difference-unshown d unshown, option_or-none, node_string-single d j a fits, node_string-single d j b fits') refl

pub difference-pair : (d : Digest) (j : ℕ) (a b : List (List ℕ)) → 2 ^ j < length a → 2 ^ j < length b → difference d (tree_of d (suc j) a) (tree_of d (suc j) b) ≡ option_or (clash_at d (pair_string (part d j (take (2 ^ j) a)) (part d j (drop (2 ^ j) a))) (pair_string (part d j (take (2 ^ j) b)) (part d j (drop (2 ^ j) b)))) (option_or (difference d (tree_of d j (take (2 ^ j) a)) (tree_of d j (take (2 ^ j) b))) (difference d (tree_of d j (drop (2 ^ j) a)) (tree_of d j (drop (2 ^ j) b))))
difference-pair d j a b more more' =
    rw (tree_of-pair d j a more, tree_of-pair d j b more', difference-node, node_string-pair d j a more, node_string-pair d j b more') refl

-- the same equations at a height written as in the code

pub difference-at_leaf : (d : Digest) (a b : List (List ℕ)) (x y : List ℕ) → 0 < length a → 0 < length b → x ≡ get_or a 0 x → y ≡ get_or b 0 y → difference d (tree_of d 0 a) (tree_of d 0 b) ≡ option_or (clash_at d (leaf_string x) (leaf_string y)) None
difference-at_leaf d a b x y some some' here here' =
    rw (difference-leaf d a b, node_string-at_leaf d a x some here, node_string-at_leaf d b y some' here')
    (sym (option_or-none (clash_at d (leaf_string x) (leaf_string y))))

pub difference-at_single : (d : Digest) (level : ℕ) (a b : List (List ℕ)) → 0 < level → length a ≤ 2 ^ (level - 1) → length b ≤ 2 ^ (level - 1) → difference d (tree_of d level a) (tree_of d level b) ≡ option_or (clash_at d (single_string (part d (level - 1) a)) (single_string (part d (level - 1) b))) (difference d (tree_of d (level - 1) a) (tree_of d (level - 1) b))
difference-at_single d zero a b above fits fits' = absurd (omega arith)
difference-at_single d (suc j) a b above fits fits' =
    let below : suc j - 1 ≡ j = omega arith in
    rw below (difference-single d j a b (rw below at fits) (rw below at fits'))

pub difference-at_pair : (d : Digest) (level : ℕ) (a b : List (List ℕ)) → 0 < level → 2 ^ (level - 1) < length a → 2 ^ (level - 1) < length b → difference d (tree_of d level a) (tree_of d level b) ≡ option_or (clash_at d (pair_string (part d (level - 1) (take (2 ^ (level - 1)) a)) (part d (level - 1) (drop (2 ^ (level - 1)) a))) (pair_string (part d (level - 1) (take (2 ^ (level - 1)) b)) (part d (level - 1) (drop (2 ^ (level - 1)) b)))) (option_or (difference d (tree_of d (level - 1) (take (2 ^ (level - 1)) a)) (tree_of d (level - 1) (take (2 ^ (level - 1)) b))) (difference d (tree_of d (level - 1) (drop (2 ^ (level - 1)) a)) (tree_of d (level - 1) (drop (2 ^ (level - 1)) b))))
difference-at_pair d zero a b above more more' = absurd (omega arith)
difference-at_pair d (suc j) a b above more more' =
    let below : suc j - 1 ≡ j = omega arith in
    rw below (difference-pair d j a b (rw below at more) (rw below at more'))

-- ---- lists that no difference is found in

one_text : (texts : List (List ℕ)) → 0 < length texts → length texts ≤ 2 ^ 0 → texts ≡ get_or texts 0 [] ∷ []
one_text [] some fits = absurd (omega arith)
one_text (text ∷ []) some fits = refl
one_text (text ∷ other ∷ texts) some fits = absurd (omega arith)

append-split : (xs ys xs' ys' : List ℕ) → length xs ≡ length xs' → xs ++ ys ≡ xs' ++ ys' → (xs ≡ xs') × (ys ≡ ys')
append-split [] ys [] ys' same joined = (refl, joined)
append-split [] ys (x' ∷ xs') ys' same joined = absurd (omega arith)
append-split (x ∷ xs) ys [] ys' same joined = absurd (omega arith)
append-split (x ∷ xs) ys (x' ∷ xs') ys' same joined =
    let head : x ≡ x' = cc in
    let tail : xs ++ ys ≡ xs' ++ ys' = cc in
    let parts = append-split xs ys xs' ys' (omega arith) tail in
    let front = parts.0 in
    ((cc), parts.1)

halves : (n : ℕ) (a b : List (List ℕ)) → take n a ≡ take n b → drop n a ≡ drop n b → a ≡ b
halves n a b left right =
    let one = take-append-drop n a in
    let two = take-append-drop n b in
    cc

leaf_texts : (d : Digest) (t u : List ℕ) → node_string d 0 (t ∷ []) ≡ node_string d 0 (u ∷ []) → t ≡ u
leaf_texts d t u same =
    let strings : leaf_string t ≡ leaf_string u = sym (node_string-leaf d t) ∙ same ∙ node_string-leaf d u in cc

none_at_leaf : (d : Digest) (a b : List (List ℕ)) → 0 < length a → length a ≡ length b → length a ≤ 2 ^ 0 → part d 0 a ≡ part d 0 b → difference d (tree_of d 0 a) (tree_of d 0 b) ≡ None → a ≡ b
none_at_leaf d a b some lengths fits agree nothing =
    let one : a ≡ get_or a 0 [] ∷ [] = one_text a some fits in
    let two : b ≡ get_or b 0 [] ∷ [] = one_text b (omega arith) (omega arith) in
    let digests : d (node_string d 0 a) ≡ d (node_string d 0 b) = sym (part-string d 0 a) ∙ agree ∙ part-string d 0 b in
    let strings : node_string d 0 a ≡ node_string d 0 b = clash_at-none d (node_string d 0 a) (node_string d 0 b) digests (sym (difference-leaf d a b) ∙ nothing) in
    let texts : get_or a 0 [] ≡ get_or b 0 [] = leaf_texts d (get_or a 0 []) (get_or b 0 []) (sym (ap (node_string d 0) one) ∙ strings ∙ ap (node_string d 0) two) in
    one ∙ ap (λ t. t ∷ []) texts ∙ sym two

-- what two nodes that nothing is found at have in common below
record Below (d : Digest) (j : ℕ) (a b : List (List ℕ)) : Type 0 where
  agree : part d j a ≡ part d j b
  nothing : difference d (tree_of d j a) (tree_of d j b) ≡ None

below_single : (d : Digest) (j : ℕ) (a b : List (List ℕ)) → length a ≤ 2 ^ j → length b ≤ 2 ^ j → Below d (suc j) a b → Below d j a b
below_single d j a b fits fits' here =
    let parts = both_none (clash_at d (single_string (part d j a)) (single_string (part d j b))) (difference d (tree_of d j a) (tree_of d j b)) (sym (difference-single d j a b fits fits') ∙ here.nothing) in
    let digests : d (single_string (part d j a)) ≡ d (single_string (part d j b)) = sym (part-single d j a fits) ∙ here.agree ∙ part-single d j b fits' in
    let strings : single_string (part d j a) ≡ single_string (part d j b) = clash_at-none d (single_string (part d j a)) (single_string (part d j b)) digests parts.0 in
    record { agree = cc; nothing = parts.1 }

below_pair : (d : Digest) → ((m : List ℕ) → IsDigest (d m)) → (j : ℕ) (a b : List (List ℕ)) → 2 ^ j < length a → 2 ^ j < length b → Below d (suc j) a b → Below d j (take (2 ^ j) a) (take (2 ^ j) b) × Below d j (drop (2 ^ j) a) (drop (2 ^ j) b)
below_pair d sized j a b more more' here =
    let left = part d j (take (2 ^ j) a) in
    let right = part d j (drop (2 ^ j) a) in
    let left' = part d j (take (2 ^ j) b) in
    let right' = part d j (drop (2 ^ j) b) in
    let on_left = difference d (tree_of d j (take (2 ^ j) a)) (tree_of d j (take (2 ^ j) b)) in
    let on_right = difference d (tree_of d j (drop (2 ^ j) a)) (tree_of d j (drop (2 ^ j) b)) in
    let parts = both_none (clash_at d (pair_string left right) (pair_string left' right')) (option_or on_left on_right) (sym (difference-pair d j a b more more') ∙ here.nothing) in
    let halves = both_none on_left on_right parts.1 in
    let digests : d (pair_string left right) ≡ d (pair_string left' right') = sym (part-pair d j a more) ∙ here.agree ∙ part-pair d j b more' in
    let strings : pair_string left right ≡ pair_string left' right' = clash_at-none d (pair_string left right) (pair_string left' right') digests parts.0 in
    let joined : left ++ right ≡ left' ++ right' = cc in
    let same = append-split left right left' right' (length-part d sized j (take (2 ^ j) a) ∙ sym (length-part d sized j (take (2 ^ j) b))) joined in
    (record { agree = same.0; nothing = halves.0 }, record { agree = same.1; nothing = halves.1 })

-- under one digest, nothing is found in lists of one length only where they are equal
pub difference-none : (d : Digest) → ((m : List ℕ) → IsDigest (d m)) → (j : ℕ) (a b : List (List ℕ)) → 0 < length a → length a ≡ length b → length a ≤ 2 ^ j → part d j a ≡ part d j b → difference d (tree_of d j a) (tree_of d j b) ≡ None → a ≡ b
difference-none d sized zero a b some lengths fits agree nothing = none_at_leaf d a b some lengths fits agree nothing
difference-none d sized (suc j) a b some lengths fits agree nothing =
    elim (cases_lt (2 ^ j) (length a)) [
      | inl more ↦
          let more' : 2 ^ j < length b = omega arith in
          let below = below_pair d sized j a b more more' (record { agree = agree; nothing = nothing }) in
          let positive = pow_pos j in
          let twice = pow-suc 2 j in
          let left_a = length-take-le (2 ^ j) a (omega arith) in
          let left_b = length-take-le (2 ^ j) b (omega arith) in
          let right_a = length-drop (2 ^ j) a in
          let right_b = length-drop (2 ^ j) b in
          halves (2 ^ j) a b
          (difference-none d sized j (take (2 ^ j) a) (take (2 ^ j) b) (omega arith) (omega arith) (omega arith) below.0.agree below.0.nothing)
          (difference-none d sized j (drop (2 ^ j) a) (drop (2 ^ j) b) (omega arith) (omega arith) (omega arith) below.1.agree below.1.nothing)
      | inr small ↦
          let small' : length b ≤ 2 ^ j = omega arith in
          let below = below_single d j a b small small' (record { agree = agree; nothing = nothing }) in
          difference-none d sized j a b some lengths small below.agree below.nothing
    ]

-- ---- lists of texts

-- what is found in two lists is a collision
pub list_difference-collides : (d : Digest) (a b : List (List ℕ)) (found : Strings) → list_difference d a b ≡ Some found → Collides d found
unfolding list_difference
list_difference-collides d a b found is = difference-collides d (history_tree d a) (history_tree d b) found is

-- nothing is found in equal lists
pub list_difference-same : (d : Digest) (a b : List (List ℕ)) → a ≡ b → list_difference d a b ≡ None
unfolding list_difference
list_difference-same d a b same = rw same (difference-same d (history_tree d b))

-- the two lists of one length and one root that nothing is found in are equal
pub list_difference-none : (d : Digest) → ((m : List ℕ) → IsDigest (d m)) → (a b : List (List ℕ)) → 0 < length a → length a ≡ length b → root d a (length a) ≡ root d b (length b) → list_difference d a b ≡ None → a ≡ b
unfolding list_difference history_tree
list_difference-none d sized a b some lengths roots nothing =
    let height = ap depth lengths in
    let agree : part d (depth (length a)) a ≡ part d (depth (length a)) b =
    sym (root-length d a ∙ root_of_all-part d a) ∙ roots ∙ root-length d b ∙ root_of_all-part d b ∙ ap (λ h. part d h b) (sym height) in
    difference-none d sized (depth (length a)) a b some lengths (depth-fits (length a)) agree (rw (← height) at nothing)

-- so it is found out whether they are equal
pub list_difference-decides : (d : Digest) → ((m : List ℕ) → IsDigest (d m)) → (a b : List (List ℕ)) → 0 < length a → length a ≡ length b → root d a (length a) ≡ root d b (length b) → (found : Option Strings) → found ≡ list_difference d a b → IsNone found ↔ (a ≡ b)
list_difference-decides d sized a b some lengths roots None is =
    ((λ none. list_difference-none d sized a b some lengths roots (sym is)), (λ same. refl))
list_difference-decides d sized a b some lengths roots (Some found) is =
    ((λ none. cc), (λ same. let nothing = list_difference-same d a b same in cc))

pub list_difference-at : (d : Digest) (a b : List (List ℕ)) (height : ℕ) → height ≡ depth (length a) → length a ≡ length b → list_difference d a b ≡ difference d (tree_of d height a) (tree_of d height b)
unfolding list_difference history_tree
list_difference-at d a b height is lengths = rw (is, sym (ap depth lengths)) refl

-- ---- one list

-- what a test of two lists of texts tells
texts-same : (a b : List (List ℕ)) → pointwise (pointwise nat_eq) a b ≡ true → a ≡ b
texts-same [] [] h = refl
texts-same [] (y ∷ b) h = absurd cc
texts-same (x ∷ a) [] h = absurd cc
texts-same (x ∷ a) (y ∷ b) h =
    let parts = and_parts (pointwise nat_eq x y) (pointwise (pointwise nat_eq) a b) h in
    ap (λ (t : List ℕ). t ∷ a) (same_text x y (sym parts.0)) ∙ ap (λ (ts : List (List ℕ)). y ∷ ts) (texts-same a b parts.1)

text-test : (x : List ℕ) → pointwise nat_eq x x ≡ true
text-test [] = refl
text-test (n ∷ x) = and_from (nat_eq n n) (pointwise nat_eq x x) (eq-eqb n n refl) (text-test x)

texts-test : (a : List (List ℕ)) → pointwise (pointwise nat_eq) a a ≡ true
texts-test [] = refl
texts-test (x ∷ a) = and_from (pointwise nat_eq x x) (pointwise (pointwise nat_eq) a a) (text-test x) (texts-test a)

pub texts-decided : (a b : List (List ℕ)) → (pointwise (pointwise nat_eq) a b ≡ true) ↔ (a ≡ b)
texts-decided a b = (texts-same a b, λ same. subst (λ (c : List (List ℕ)). pointwise (pointwise nat_eq) a c ≡ true) same (texts-test a))

-- The string of a node of a treap tells the entry and the children's digests.
use Rattle.std.proofs.Common.{◌≡◌, ℕ, ◌+◌, ◌*◌, ◌<◌, ◌≤◌, ◌^◌, List, ◌∷◌, ◌++◌, length, take, drop, Option, Some, None, refl, ap, sym, ◌∙◌, arith}
use Rattle.std.specs.Prelude.{IfSome}
use Rattle.std.specs.Int.{w32, to_be_bytes, from_be_bytes}
use Rattle.std.proofs.lemmas.List.{drop_at, take_at}
use Rattle.std.proofs.lemmas.Nat.{from_be_bytes-to_be_bytes_4}
use Rattle.tree_model.specs.declared.entry.Entry.{Entry}
use Rattle.tree_model.specs.AccessList.{IsInRange, child_text, flags, node_text}

-- two strings whose first parts have one length
append-same : (a b x y : List ℕ) → length a ≡ length b → a ++ x ≡ b ++ y → (a ≡ b) × (x ≡ y)
append-same a b x y long same = (
  sym (take_at a x (length a) refl) ∙ ap (take (length a)) same ∙ take_at b y (length a) (sym long),
  sym (drop_at a x (length a) refl) ∙ ap (drop (length a)) same ∙ drop_at b y (length a) (sym long),
)

-- numbers of four bytes
number-same : (m n : ℕ) (x y : List ℕ) → m < 2 ^ 32 → n < 2 ^ 32 → to_be_bytes w32 m ++ x ≡ to_be_bytes w32 n ++ y
    → (m ≡ n) × (x ≡ y)
number-same m n x y small small' same =
    let parts = append-same (to_be_bytes w32 m) (to_be_bytes w32 n) x y refl same in
    (sym (from_be_bytes-to_be_bytes_4 m small) ∙ ap (from_be_bytes w32) parts.0 ∙ from_be_bytes-to_be_bytes_4 n small', parts.1)

-- ---- the children

-- a digest, where there is one, has n bytes
abbrev pub IsSized : ℕ → Option (List ℕ) → Type 0
IsSized n child = IfSome child (λ x. length x ≡ n)

-- 1 where there is a child
abbrev count_of : Option (List ℕ) → ℕ
count_of None = 0
count_of (Some x) = 1

count_of-le : (child : Option (List ℕ)) → count_of child ≤ 1
count_of-le None = omega arith
count_of-le (Some x) = omega arith

flags-counts : (l r : Option (List ℕ)) → flags l r ≡ count_of l + 2 * count_of r
flags-counts None None = refl
flags-counts None (Some r) = refl
flags-counts (Some l) None = refl
flags-counts (Some l) (Some r) = refl

length-child_text : (n : ℕ) (l m : Option (List ℕ)) → IsSized n l → IsSized n m → count_of l ≡ count_of m
    → length (child_text l) ≡ length (child_text m)
length-child_text n None None sl sm same = refl
length-child_text n None (Some m) sl sm same = absurd (omega arith)
length-child_text n (Some l) None sl sm same = absurd (omega arith)
length-child_text n (Some l) (Some m) sl sm same = sl ∙ sym sm

child-same : (l m : Option (List ℕ)) → count_of l ≡ count_of m → child_text l ≡ child_text m → l ≡ m
child-same None None same text = refl
child-same None (Some m) same text = absurd (omega arith)
child-same (Some l) None same text = absurd (omega arith)
child-same (Some l) (Some m) same text = ap (λ (x : List ℕ). Some x) text

children-same : (n : ℕ) (l r m q : Option (List ℕ)) → IsSized n l → IsSized n m → flags l r ≡ flags m q
    → child_text l ++ child_text r ≡ child_text m ++ child_text q → (l ≡ m) × (r ≡ q)
children-same n l r m q sl sm flag text =
    let sums : count_of l + 2 * count_of r ≡ count_of m + 2 * count_of q = sym (flags-counts l r) ∙ flag ∙ flags-counts m q in
    let small = count_of-le l in
    let small' = count_of-le m in
    let left : count_of l ≡ count_of m = omega arith in
    let right : count_of r ≡ count_of q = omega arith in
    let parts = append-same (child_text l) (child_text m) (child_text r) (child_text q) (length-child_text n l m sl sm left) text in
    (child-same l m left parts.0, child-same r q right parts.1)

-- ---- the entry and the children

entry-same : (e f : Entry) → e.user ≡ f.user → e.role ≡ f.role → e.next ≡ f.next → e ≡ f
entry-same e f user role next =
    ap (λ (n : ℕ). record e { user = n }) user ∙ ap (λ (n : ℕ). record f { role = n; next = e.next }) role ∙ ap (λ (n : ℕ). record f { next = n }) next

-- The string of a node is one-to-one, over entries in range and digests of one length.
pub node_text-same : (n : ℕ) (e f : Entry) (l r m q : Option (List ℕ)) → IsInRange e → IsInRange f → IsSized n l
    → IsSized n m
    → node_text e l r ≡ node_text f m q → (e ≡ f) × (l ≡ m) × (r ≡ q)
node_text-same n e f l r m q he hf sl sm same =
    let behind_tag : to_be_bytes w32 e.user ++ (e.role ∷ (to_be_bytes w32 e.next ++ (flags l r ∷ (child_text l ++ child_text r)))) ≡ to_be_bytes w32 f.user ++ (f.role ∷ (to_be_bytes w32 f.next ++ (flags m q ∷ (child_text m ++ child_text q)))) = ap (drop 1) same in
    let user = number-same e.user f.user _ _ he.user hf.user behind_tag in
    let role : e.role ≡ f.role = cc in
    let behind_role : to_be_bytes w32 e.next ++ (flags l r ∷ (child_text l ++ child_text r)) ≡ to_be_bytes w32 f.next ++ (flags m q ∷ (child_text m ++ child_text q)) = ap (drop 1) user.1 in
    let next = number-same e.next f.next _ _ he.next hf.next behind_role in
    let flag : flags l r ≡ flags m q = cc in
    let text : child_text l ++ child_text r ≡ child_text m ++ child_text q = ap (drop 1) next.1 in
    let children = children-same n l r m q sl sm flag text in
    (entry-same e f user.0 role next.0, children.0, children.1)

-- Pruned history trees (Crosby and Wallach, "Efficient Data Structures for Tamper-Evident Logging", USENIX
-- Security 2009): the tree of a list of texts with some subtrees replaced by their digests. All goes by the
-- halving of the list: a node of height j + 1 has the first 2^j positions of its part on its left and the
-- others on its right. The height of a tree of n leaves is `depth n`, so its top is cut at the greatest power
-- of two below n. d is the digest of strings.
use Rattle.std.specs.Prelude.{◌≡◌, ℕ, zero, suc, ◌-◌, ◌^◌, ◌<◌, ◌≤◌, Bool, true, false, not, ◌&&◌, List, [], ◌∷◌, length, take, drop, Option, Some, None, nat_lt, if◌then◌else◌}
use Rattle.std.specs.Option.{option_map}
use Rattle.fr_bytes.specs.Bytes.{Text}
use Rattle.fr_digest.specs.Digest.{Digest}
use Rattle.tree_model.specs.History.{leaf_string, single_string, pair_string, depth, part}

-- A pruned tree: a part of which the digest alone is known, a position with its text, a node whose right half
-- holds a leaf, and a node whose right half holds none.
pub data Tree : Type 0 where
  hidden : Text → Tree
  leaf : Text → Tree
  node : Tree → Tree → Tree
  single : Tree → Tree

-- ---- the digest

-- The digest of what a pruned tree stands for.
unfoldable pub digest_of : Digest → Tree → Text
digest_of d (hidden x) = x
digest_of d (leaf t) = d (leaf_string t)
digest_of d (node l r) = d (pair_string (digest_of d l) (digest_of d r))
digest_of d (single l) = d (single_string (digest_of d l))

-- ---- sizes

-- It is a pruned tree of height j over n positions, of which there are 1 to 2^j.
unfoldable pub fits_at : ℕ → Tree → ℕ → Bool
fits_at zero (hidden x) n = true
fits_at zero (leaf t) n = true
fits_at zero (node l r) n = false
fits_at zero (single l) n = false
fits_at (suc j) (hidden x) n = true
fits_at (suc j) (leaf t) n = false
fits_at (suc j) (node l r) n = nat_lt (2 ^ j) n && (fits_at j l (2 ^ j) && fits_at j r (n - 2 ^ j))
fits_at (suc j) (single l) n = not (nat_lt (2 ^ j) n) && fits_at j l n

-- It is a pruned tree of this size.
unfoldable pub fits : Tree → ℕ → Bool
fits p n = nat_lt 0 n && fits_at (depth n) p n

-- ---- prunings of a list

-- It prunes the tree of height j over the list, which has 1 to 2^j texts: a hidden part has the digest of its
-- part; a leaf is the one position, with its text; a node's right half holds a leaf, and both prune the
-- halves; a node without a right half prunes what its left half holds.
unfoldable pub PrunesAt : Digest → ℕ → Tree → List Text → Type 0
PrunesAt d zero (hidden x) M = x ≡ part d zero M
PrunesAt d zero (leaf t) M = M ≡ t ∷ []
PrunesAt d zero (node l r) M = ⊥
PrunesAt d zero (single l) M = ⊥
PrunesAt d (suc j) (hidden x) M = x ≡ part d (suc j) M
PrunesAt d (suc j) (leaf t) M = ⊥
PrunesAt d (suc j) (node l r) M =
    (2 ^ j < length M) × PrunesAt d j l (take (2 ^ j) M) × PrunesAt d j r (drop (2 ^ j) M)
PrunesAt d (suc j) (single l) M = (length M ≤ 2 ^ j) × PrunesAt d j l M

-- It prunes the tree of the list.
pub record Prunes (d : Digest) (p : Tree) (M : List Text) : Type 0 where
  pub some : 0 < length M
  pub parts : PrunesAt d (depth (length M)) p M

-- ---- versions

-- what is cut of a part of n positions, where not all of them are among the first v
abbrev pub cut_short : ℕ → ℕ → Tree → Option Tree → Option Tree
cut_short n v whole short = if nat_lt v n then short else Some whole

-- The tree of height j over the first v positions of one over n, for v from 1 to n. What the first v
-- positions hold whole stays. A hidden part of which they hold some has no cut.
unfoldable pub cut_at : ℕ → Tree → ℕ → ℕ → Option Tree
cut_at zero p n v = cut_short n v p None
cut_at (suc j) (hidden x) n v = cut_short n v (hidden x) None
cut_at (suc j) (leaf t) n v = cut_short n v (leaf t) None
cut_at (suc j) (node l r) n v =
    cut_short n v (node l r)
    (if nat_lt (2 ^ j) v
    then option_map (λ c. node l c) (cut_at j r (n - 2 ^ j) (v - 2 ^ j))
    else option_map (λ c. single c) (cut_at j l (2 ^ j) v))
cut_at (suc j) (single l) n v = cut_short n v (single l) (option_map (λ c. single c) (cut_at j l n v))

-- what a node's left half is
abbrev pub in_left : (Tree → Option Tree) → Tree → Option Tree
in_left f (hidden x) = None
in_left f (leaf t) = None
in_left f (node l r) = f l
in_left f (single l) = None

-- The tree of the first v positions, at its own height: a version that the left half of the tree holds is a
-- version of the left half.
unfoldable pub cut_in : ℕ → Tree → ℕ → ℕ → Option Tree
cut_in zero p n v = cut_at zero p n v
cut_in (suc j) p n v =
    if nat_lt (2 ^ j) v then cut_at (suc j) p n v else in_left (λ l. cut_in j l (2 ^ j) v) p

-- there is a version v of size n
abbrev pub is_version : ℕ → ℕ → Bool
is_version n v = nat_lt 0 v && not (nat_lt n v)

-- The pruned tree of the first v leaves of a pruned tree of size n. There is one exactly where the tree fits
-- the size, v is from 1 to n, and v stands within no hidden part.
unfoldable pub cut : Tree → ℕ → ℕ → Option Tree
cut p n v = if fits p n && is_version n v then cut_in (depth n) p n v else None

-- The digest of that cut: the root of version v.
unfoldable pub at : Digest → Tree → ℕ → ℕ → Option Text
at d p n v = option_map (digest_of d) (cut p n v)

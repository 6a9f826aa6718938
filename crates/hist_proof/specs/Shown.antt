-- What a pruned tree shows, and what it hides.
use Rattle.std.specs.Prelude.{◌≡◌, ℕ, zero, suc, ◌+◌, ◌-◌, ◌^◌, ◌<◌, ◌≤◌, Bool, false, ◌&&◌, ◌||◌, List, length, Option, Some, None, nat_lt, if◌then◌else◌}
use Rattle.std.specs.List.{slice_get}
use Rattle.fr_bytes.specs.Bytes.{Text}
use Rattle.fr_digest.specs.Collision.{Collides, Strings}
use Rattle.fr_digest.specs.Digest.{Digest, IsDigest}
use Rattle.tree_model.specs.History.{depth}
use Rattle.hist_proof.specs.Pruned.{Tree, hidden, leaf, node, single, fits}

-- The text at position k of a tree of height j, where it is shown.
unfoldable pub shown_at : ℕ → Tree → ℕ → Option Text
shown_at zero (hidden x) k = None
shown_at zero (leaf t) k = Some t
shown_at zero (node l r) k = None
shown_at zero (single l) k = None
shown_at (suc j) (hidden x) k = None
shown_at (suc j) (leaf t) k = None
shown_at (suc j) (node l r) k = if nat_lt k (2 ^ j) then shown_at j l k else shown_at j r (k - 2 ^ j)
shown_at (suc j) (single l) k = shown_at j l k

-- The text at position k of a pruned tree of size n, where the tree fits the size, k is below n, and the
-- position is shown.
unfoldable pub shown : Tree → ℕ → ℕ → Option Text
shown p n k = if fits p n && nat_lt k n then shown_at (depth n) p k else None

-- It shows the list's texts at the positions from v on.
abbrev pub ShowsFrom : Tree → ℕ → List Text → Type 0
ShowsFrom p v M = (k : ℕ) → v ≤ k → k < length M → shown p (length M) k ≡ slice_get M k

-- v is within the positions from a to n positions further, and at neither end of them
abbrev pub is_within : ℕ → ℕ → ℕ → Bool
is_within a n v = nat_lt a v && nat_lt v (a + n)

-- Version v ends within a hidden part of the tree of height j whose n positions begin at a.
unfoldable pub straddled_at : ℕ → Tree → ℕ → ℕ → ℕ → Bool
straddled_at zero (hidden x) a n v = is_within a n v
straddled_at zero (leaf t) a n v = false
straddled_at zero (node l r) a n v = false
straddled_at zero (single l) a n v = false
straddled_at (suc j) (hidden x) a n v = is_within a n v
straddled_at (suc j) (leaf t) a n v = false
straddled_at (suc j) (node l r) a n v =
    straddled_at j l a (2 ^ j) v || straddled_at j r (a + 2 ^ j) (n - 2 ^ j) v
straddled_at (suc j) (single l) a n v = straddled_at j l a n v

-- Version v ends within a hidden part of the pruned tree of size n.
unfoldable pub straddled : Tree → ℕ → ℕ → Bool
straddled p n v = straddled_at (depth n) p 0 n v

-- Each hidden part has a digest's length.
unfoldable pub HasDigests : Tree → Type 0
HasDigests (hidden x) = IsDigest x
HasDigests (leaf t) = Unit {0}
HasDigests (node l r) = HasDigests l × HasDigests r
HasDigests (single l) = HasDigests l

-- two strings that d doesn't tell apart
abbrev pub HasCollision : Digest → Type 0
HasCollision d = (strings : Strings) × Collides d strings

-- The history tree of a list of texts (Crosby and Wallach, "Efficient Data Structures for
-- Tamper-Evident Logging", USENIX Security 2009), by halving the list. d is the digest of strings.
use Rattle.std.specs.Prelude.{ℕ, zero, suc, ◌^◌, List, [], ◌∷◌, ◌++◌, length, take, drop, slice_index_or, nat_lt, if◌then◌else◌}
use Rattle.fr_digest.specs.Digest.{Digest}

-- ---- the strings that are digested

-- a leaf: the byte 0 and the text
abbrev pub leaf_string : List ℕ → List ℕ
leaf_string text = 0 ∷ text

-- a node whose right half begins at or past the end: the byte 1 and the left digest
abbrev pub single_string : List ℕ → List ℕ
single_string left = 1 ∷ left

-- a node whose right half holds a leaf: the byte 1 and both digests
abbrev pub pair_string : List ℕ → List ℕ → List ℕ
pair_string left right = 1 ∷ (left ++ right)

-- ---- the height

-- The least e with n ≤ 2^e among `from` and the next `tries` numbers.
unfoldable pub least_exponent : ℕ → ℕ → ℕ → ℕ
least_exponent n from zero = from
least_exponent n from (suc tries) = if nat_lt (2 ^ from) n then least_exponent n (suc from) tries else from

-- The height of the tree of n leaves: the least e with n ≤ 2^e. It is at most n.
unfoldable pub depth : ℕ → ℕ
depth n = least_exponent n 0 n

-- ---- the tree over a list

module _ (d : Digest) where
  -- The string of the node of height j over the texts, of which there are at most 2^j.
  unfoldable pub node_string : ℕ → List (List ℕ) → List ℕ
  node_string zero texts = leaf_string (slice_index_or texts 0 [])
  node_string (suc j) texts =
      if nat_lt (2 ^ j) (length texts)
      then pair_string (d (node_string j (take (2 ^ j) texts))) (d (node_string j (drop (2 ^ j) texts)))
      else single_string (d (node_string j texts))

  -- The digest of that node.
  unfoldable pub part : ℕ → List (List ℕ) → List ℕ
  part j texts = d (node_string j texts)

  -- The root of the tree over all of the texts.
  unfoldable pub root_of_all : List (List ℕ) → List ℕ
  root_of_all texts = part (depth (length texts)) texts

  -- The root of version v: of the tree over the first v texts.
  unfoldable pub root : List (List ℕ) → ℕ → List ℕ
  root texts v = root_of_all (take v texts)

-- Items in chunks, and the digests that a chunk keeps. d is the digest of strings.
use Rattle.std.specs.Prelude.{◌≡◌, ℕ, ◌+◌, ◌-◌, ◌*◌, ◌%◌, ◌^◌, ◌<◌, ◌≤◌, List, [], length, take, drop, Some, slice_get, slice_index_or}
use Rattle.std.specs.List.{flat_map}
use Rattle.fr_bytes.specs.Bytes.{Text}
use Rattle.fr_digest.specs.Digest.{Digest}
use Rattle.tree_model.specs.History.{part}
use Rattle.hist_tree.specs.declared.limits.TheConstants.{CHUNK_ITEMS}

-- For each of the texts of a chunk there is a list of digests, and the digest of each whole subtree over the texts,
-- which begins at a multiple of 2^level and has 2^level of them, stands in the list of its last text, at its height.
pub record Keeps (d : Digest) (texts : List Text) (tops : List (List Text)) : Type 0 where
  pub few : length texts ≤ CHUNK_ITEMS
  pub whole : (level start : ℕ) → start % 2 ^ level ≡ 0 → start + 2 ^ level ≤ length texts
      → slice_get (slice_index_or tops (start + 2 ^ level - 1) []) level ≡ Some (part d level (take (2 ^ level)
      (drop start texts)))

-- A list of digests has, at their heights, those of the whole subtrees that end with the last of the texts.
pub record Ends (d : Digest) (texts : List Text) (tops : List Text) : Type 0 where
  pub each : (level : ℕ) → length texts % 2 ^ level ≡ 0
      → slice_get tops level ≡ Some (part d level (drop (length texts - 2 ^ level) texts))

-- pieces, end to end
abbrev pub joined : {X : Type 0} → List (List X) → List X
joined pieces = flat_map (λ piece. piece) pieces

-- The pieces have so many items together: each has the next 32, and the last one those that are left.
pub record IsChunked {X : Type 0} (pieces : List (List X)) (count : ℕ) : Type 0 where
  pub size : length (joined pieces) ≡ count
  pub each : (c : ℕ) → c < length pieces
      → slice_index_or pieces c [] ≡ take CHUNK_ITEMS (drop (CHUNK_ITEMS * c) (joined pieces))
  pub enough : count ≤ CHUNK_ITEMS * length pieces
  pub no_more : CHUNK_ITEMS * length pieces < count + CHUNK_ITEMS

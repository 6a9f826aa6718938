-- LMS trees and signatures made from a seed, by RFC 8554, sections 5.3, 5.4.1 and appendix A.
use Rattle.std.specs.Prelude.{◌≡◌, ◌<◌, ◌≤◌, ℕ, zero, suc, ◌+◌, ◌-◌, ◌*◌, ◌/◌, ◌%◌, ◌^◌, ◌==◌, if◌then◌else◌, List, [], ◌++◌, length, slice_index_or}
use Rattle.std.specs.List.{flat_map, range_with_len}
use Rattle.lms_params.specs.declared.pair.Pair.{Pair}
use Rattle.lms_params.specs.Parameters.{IsListed}
use Rattle.lms_ots.specs.Digits.{u32str}
use Rattle.lms_ots.specs.OneTime.{one_time_public, one_time_signature}
use Rattle.lms_tree.specs.Valid.{Key, inner_node, leaf_node}

-- a signer: its secret seed, its identifier I, its parameter sets and how many leaves it has used
pub record Signing : Type 0 where
  pub private : List ℕ
  pub id : List ℕ
  pub pair : Pair
  pub used : ℕ

-- T[r] of the node r so many levels above the leaves (section 5.3)
unfoldable pub node : List ℕ → List ℕ → Pair → ℕ → ℕ → List ℕ
node private id pair zero r =
    leaf_node id r (one_time_public pair.ots id (r - 2 ^ pair.lms.h) private)
node private id pair (suc level) r =
    inner_node id r (node private id pair level (2 * r)) (node private id pair level (2 * r + 1))

-- the public key of a seed (section 5.3)
unfoldable pub public_of : List ℕ → List ℕ → Pair → Key
public_of private id pair = record { pair = pair; id = id; root = node private id pair pair.lms.h 1 }

-- the other child of a node's parent
unfoldable pub sibling : ℕ → ℕ
sibling r = if r % 2 == 1 then r - 1 else r + 1

-- path[j] of a leaf: the sibling of the node j levels above it (section 5.4)
unfoldable pub path_of : List ℕ → List ℕ → Pair → ℕ → ℕ → List ℕ
path_of private id pair index j =
    node private id pair j (sibling ((index + 2 ^ pair.lms.h) / 2 ^ j))

-- u32str(q) || one-time signature || u32str(type) || path[0] || .. || path[h-1] (section 5.4)
unfoldable pub signature_at : List ℕ → List ℕ → Pair → ℕ → List ℕ → List ℕ
signature_at private id pair index message =
    u32str index ++ one_time_signature pair.ots id index private message ++ u32str pair.lms.code
    ++ flat_map (path_of private id pair index) (range_with_len 0 pair.lms.h)

-- the tree of a seed as a list: T[r] stands at place r
pub record HoldsTree (private id : List ℕ) (pair : Pair) (nodes : List (List ℕ)) : Type 0 where
  pub count : length nodes ≡ 2 * 2 ^ pair.lms.h
  pub held : (level r : ℕ) → level ≤ pair.lms.h
      → 2 ^ (pair.lms.h - level) ≤ r → r < 2 * 2 ^ (pair.lms.h - level)
      → slice_index_or nodes r [] ≡ node private id pair level r

-- the sibling of the node so many levels above leaf r, read in such a list
unfoldable pub sibling_in : List (List ℕ) → ℕ → ℕ → List ℕ
sibling_in nodes r level = slice_index_or nodes (sibling (r / 2 ^ level)) []

-- what a signer keeps
pub record KeepsSigner (private id : List ℕ) (pair : Pair) (used : ℕ) (nodes : List (List ℕ)) : Type 0 where
  pub listed : IsListed pair
  pub low : pair.lms.h ≤ 10
  pub within : used ≤ 2 ^ pair.lms.h
  pub tree : HoldsTree private id pair nodes

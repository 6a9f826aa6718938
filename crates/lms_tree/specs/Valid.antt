-- LMS keys and signatures, by RFC 8554, sections 5.3 and 5.4. H is SHA-256, I the identifier of the
-- tree, h its height; the node numbered 1 is the root and the leaves are 2^h to 2^(h+1) - 1.
use Rattle.std.specs.Prelude.{◌≡◌, ◌<◌, ℕ, zero, suc, ◌+◌, ◌*◌, ◌/◌, ◌%◌, ◌^◌, Bool, ◌&&◌, ◌==◌, nat_lt, if◌then◌else◌, List, ◌++◌, length, slice_range, Option}
use Rattle.std.specs.Option.{option_map}
use Rattle.std.specs.Str.{bytes_eq}
use Rattle.sha2.specs.Sha256.{sha256}
use Rattle.lms_params.specs.declared.pair.Pair.{Pair}
use Rattle.lms_params.specs.Parameters.{ots_row, pair_at}
use Rattle.lms_ots.specs.Digits.{number_at, u16str, u32str}
use Rattle.lms_ots.specs.OneTime.{candidate_key}

-- what a public key says: the two parameter sets, the identifier I and the root T[1] (section 5.3)
pub record Key : Type 0 where
  pub pair : Pair
  pub id : List ℕ
  pub root : List ℕ

-- a key by the numbers of its two rows
abbrev pub key_by : ℕ → ℕ → ℕ → ℕ → ℕ → ℕ → List ℕ → List ℕ → Key
key_by lms h code w p ls id root = record {
  pair = record { lms = record { code = lms; h = h }; ots = ots_row code w p ls };
  id = id;
  root = root;
}

-- u32str(type) || u32str(otstype) || I || T[1] (section 5.3)
unfoldable pub key_bytes : Key → List ℕ
key_bytes key = u32str key.pair.lms.code ++ u32str key.pair.ots.code ++ key.id ++ key.root

-- the key that 56 bytes are, where the tables have a pair of its two typecodes (section 5.3)
abbrev pub key_at : List ℕ → Option Key
key_at bytes =
    option_map (λ pair. record { pair = pair; id = slice_range bytes 8 24; root = slice_range bytes 24 56 })
    (pair_at (number_at bytes 0) (number_at bytes 4))

-- T[r] of a leaf: H(I || u32str(r) || u16str(D_LEAF) || K) (section 5.3)
unfoldable pub leaf_node : List ℕ → ℕ → List ℕ → List ℕ
leaf_node id r k = sha256 (id ++ u32str r ++ u16str 0x8282 ++ k)

-- T[r] of an inner node: H(I || u32str(r) || u16str(D_INTR) || T[2*r] || T[2*r+1]) (section 5.3)
unfoldable pub inner_node : List ℕ → ℕ → List ℕ → List ℕ → List ℕ
inner_node id r left right = sha256 (id ++ u32str r ++ u16str 0x8383 ++ left ++ right)

-- the parent of node r from r's value and its sibling's: an odd node is the right one (section 5.4.2)
unfoldable pub parent_node : List ℕ → ℕ → List ℕ → List ℕ → List ℕ
parent_node id r value sibling =
    if r % 2 == 1 then inner_node id (r / 2) sibling value else inner_node id (r / 2) value sibling

-- the node so many levels above leaf r, by a Merkle path: path j is the sibling of the node j levels
-- above the leaf, which is numbered r / 2^j (section 5.4.2)
unfoldable pub path_node : List ℕ → ℕ → List ℕ → (ℕ → List ℕ) → ℕ → List ℕ
path_node id r leaf path zero = leaf
path_node id r leaf path (suc level) =
    parent_node id (r / 2 ^ level) (path_node id r leaf path level) (path level)

-- the parts of u32str(q) || one-time signature || u32str(type) || path[0] || .. || path[h-1] (section 5.4)
unfoldable pub one_time_part : Pair → List ℕ → List ℕ
one_time_part pair sig = slice_range sig 4 (4 + pair.ots.sig_len)

unfoldable pub path_part : Pair → List ℕ → ℕ → List ℕ
path_part pair sig j =
    slice_range sig (8 + pair.ots.sig_len + 32 * j) (8 + pair.ots.sig_len + 32 * j + 32)

-- the candidate Tc for the root (section 5.4.2, algorithm 6a)
unfoldable pub candidate_root : Key → List ℕ → List ℕ → List ℕ
candidate_root key message sig =
    let q = number_at sig 0 in
    let r = q + 2 ^ key.pair.lms.h in
    let kc = candidate_key key.pair.ots key.id q message (one_time_part key.pair sig) in
    path_node key.id r (leaf_node key.id r kc) (path_part key.pair sig) key.pair.lms.h

-- a signature is valid (section 5.4.2, algorithms 6 and 6a)
pub record Valid (key : Key) (message sig : List ℕ) : Type 0 where
  -- it has the length of the key's parameter sets
  pub long : length sig ≡ 8 + key.pair.ots.sig_len + 32 * key.pair.lms.h
  -- both of its typecodes are the key's
  pub ots_code : number_at sig 4 ≡ key.pair.ots.code
  pub lms_code : number_at sig (4 + key.pair.ots.sig_len) ≡ key.pair.lms.code
  -- its leaf is one of the tree
  pub in_tree : number_at sig 0 < 2 ^ key.pair.lms.h
  -- and the path leads to the key's root
  pub root : candidate_root key message sig ≡ key.root

-- the same as a test
unfoldable pub is_valid : Key → List ℕ → List ℕ → Bool
is_valid key message sig =
    (length sig == 8 + key.pair.ots.sig_len + 32 * key.pair.lms.h)
    && ((number_at sig 4 == key.pair.ots.code)
    && ((number_at sig (4 + key.pair.ots.sig_len) == key.pair.lms.code)
    && (nat_lt (number_at sig 0) (2 ^ key.pair.lms.h)
    && bytes_eq (candidate_root key message sig) key.root)))

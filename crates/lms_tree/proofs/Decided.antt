-- The test is true exactly of a valid signature.
use Rattle.std.proofs.Common.{◌≡◌, ℕ, ◌+◌, ◌-◌, ◌*◌, ◌^◌, ◌<◌, ◌≤◌, Bool, true, false, ◌&&◌, List, length, get_or, take, drop, slice_range, refl, sym, ap, ◌∙◌, arith, length-drop}
use Rattle.std.specs.Bool.{Decides}
use Rattle.std.specs.Str.{bytes_eq}
use Rattle.std.proofs.lemmas.Bool.{and_parts, and_from}
use Rattle.std.proofs.lemmas.Bool.Decides.{Decides-eqb, Decides-ltb, same_from_decides}
use Rattle.std.proofs.lemmas.Slice.Eq.{bytes_eq-Decides}
use Rattle.lms_ots.specs.Digits.{number_at}
use Rattle.std.proofs.lemmas.List.{get_or-take, get_or-drop, length-take}
use Rattle.lms_params.specs.Parameters.{ots_row}
use Rattle.lms_ots.specs.OneTime.{candidate_key}
use Rattle.lms_tree.specs.Valid.{Key, Valid, candidate_root, is_valid, key_by, leaf_node, one_time_part, path_node, path_part}
use Rattle.lms_tree.proofs.Paths.{path_same, piece_behind}

pub valid_decides : (key : Key) (message sig : List ℕ) → Decides (is_valid key message sig) (Valid key message sig)
unfolding is_valid
valid_decides key message sig =
    let long = Decides-eqb (length sig) (8 + key.pair.ots.sig_len + 32 * key.pair.lms.h) in
    let ots = Decides-eqb (number_at sig 4) key.pair.ots.code in
    let lms = Decides-eqb (number_at sig (4 + key.pair.ots.sig_len)) key.pair.lms.code in
    let leaf = Decides-ltb (number_at sig 0) (2 ^ key.pair.lms.h) in
    let top = bytes_eq-Decides (candidate_root key message sig) key.root in (
      λ h.
          let one = and_parts _ _ h in
          let two = and_parts _ _ one.1 in
          let three = and_parts _ _ two.1 in
          let four = and_parts _ _ three.1 in
          record { long = long.0 one.0; ots_code = ots.0 two.0; lms_code = lms.0 three.0; in_tree = leaf.0 four.0; root = top.0 four.1 },
      λ v. and_from _ _ (long.1 v.long) (and_from _ _ (ots.1 v.ots_code) (and_from _ _ (lms.1 v.lms_code)
          (and_from _ _ (leaf.1 v.in_tree) (top.1 v.root)))),
    )

-- what decides validity is the test
pub decided : (key : Key) (message sig : List ℕ) (r : Bool) → Decides r (Valid key message sig) → r ≡ is_valid key message sig
decided key message sig r h = same_from_decides r (is_valid key message sig) h (valid_decides key message sig)

-- a part of a string
pub length_part : (s : List ℕ) (a n : ℕ) → a + n ≤ length s → length (take n (drop a s)) ≡ n
length_part s a n h = omega (arith, length-take n (drop a s), length-drop a s)

pub number_part : (s : List ℕ) (a n : ℕ) → 4 ≤ n → number_at (take n (drop a s)) 0 ≡ number_at s a
unfolding number_at
number_part s a n h =
    let zeroth : get_or (take n (drop a s)) 0 0 ≡ get_or s a 0 =
    get_or-take n (drop a s) 0 0 (omega arith) ∙ (get_or-drop a s 0 0 ∙ ap (λ i. get_or s i 0) (omega arith)) in
    let first : get_or (take n (drop a s)) 1 0 ≡ get_or s (a + 1) 0 = get_or-take n (drop a s) 1 0 (omega arith) ∙ get_or-drop a s 1 0 in
    let second : get_or (take n (drop a s)) 2 0 ≡ get_or s (a + 2) 0 = get_or-take n (drop a s) 2 0 (omega arith) ∙ get_or-drop a s 2 0 in
    let third : get_or (take n (drop a s)) 3 0 ≡ get_or s (a + 3) 0 = get_or-take n (drop a s) 3 0 (omega arith) ∙ get_or-drop a s 3 0 in
    rw (zeroth, first, second, third) refl

-- the top of the path, by the numbers of a pair
pub top_is : (lms h code w p ls : ℕ) (id root message sig part candidate top : List ℕ) (q size : ℕ) →
    q ≡ number_at sig 0 → size ≡ 4 + 32 * (p + 1) → part ≡ take size (drop 4 sig) →
    candidate ≡ candidate_key (ots_row code w p ls) id q message part →
    top ≡ path_node id (q + 2 ^ h) (leaf_node id (q + 2 ^ h) candidate)
    (λ j. slice_range (drop (8 + 32 * (p + 1) + 4) sig) (32 * j) (32 * j + 32)) h →
    top ≡ candidate_root (key_by lms h code w p ls id root) message sig
unfolding candidate_root one_time_part path_part
top_is lms h code w p ls id root message sig part candidate top q size q_is size_is part_is candidate_is climbed =
    let a = 8 + 32 * (p + 1) + 4 in
    let place : 8 + (4 + 32 * (p + 1)) ≡ a = omega arith in
    let count : 4 + (4 + 32 * (p + 1)) - 4 ≡ size = omega arith in
    let path = path_same id (q + 2 ^ h) (leaf_node id (q + 2 ^ h) candidate)
    (λ j. slice_range (drop a sig) (32 * j) (32 * j + 32))
    (λ j. slice_range sig (8 + (4 + 32 * (p + 1)) + 32 * j) (8 + (4 + 32 * (p + 1)) + 32 * j + 32)) h
    (λ j l. rw place (piece_behind sig a j)) in
    rw (count, ← part_is, ← q_is, ← candidate_is) (climbed ∙ path)

pub valid_by_top : (key : Key) (message sig top : List ℕ) (r : Bool) → top ≡ candidate_root key message sig →
    Decides r (top ≡ key.root) → length sig ≡ 8 + key.pair.ots.sig_len + 32 * key.pair.lms.h →
    number_at sig 4 ≡ key.pair.ots.code → number_at sig (4 + key.pair.ots.sig_len) ≡ key.pair.lms.code →
    number_at sig 0 < 2 ^ key.pair.lms.h → Decides r (Valid key message sig)
valid_by_top key message sig top r is same long ots lms leaf = (
  λ e. record { long = long; ots_code = ots; lms_code = lms; in_tree = leaf; root = sym is ∙ same.0 e },
  λ v. same.1 (is ∙ v.root),
)

-- a key of the numbers of its pair
pub key_is : (key : Key) (lms h code w p ls : ℕ) (id root : List ℕ) → key.pair.lms ≡ record { code = lms; h = h } →
    key.pair.ots ≡ ots_row code w p ls → id ≡ key.id → root ≡ key.root → key_by lms h code w p ls id root ≡ key
key_is key lms h code w p ls id root tree row id_is root_is = rw (← tree, ← row, id_is, root_is) refl

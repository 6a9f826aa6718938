-- A signature of the definition is valid under the public key of the same seed.
use Rattle.std.proofs.Common.{◌≡◌, ◌⊎◌, ℕ, zero, suc, ◌+◌, ◌-◌, ◌*◌, ◌/◌, ◌%◌, ◌^◌, ◌≤◌, ◌<◌, List, ◌++◌, length, take, drop, slice_range, arith, refl, sym, ap, ◌∙◌, append_assoc, length-append, add-one, inl, inr, eqb, eq-eqb, true, false, Bool, [], ◌∷◌, Some, find}
use Rattle.std.specs.List.{flat_map, range_with_len}
use Rattle.std.proofs.lemmas.List.{drop_at, drop-drop, take_at}
use Rattle.std.proofs.lemmas.Bool.{cases_eq}
use Rattle.std.proofs.Math.Nat.{add-div_right, div-eq_of_lt}
use Rattle.std.proofs.Math.Pow.{pow_mono}
use Rattle.std.proofs.lemmas.Nat.{pow_pos}
use Rattle.sha2.proofs.Facts256.{length-sha256}
use Rattle.lms_params.specs.declared.pair.OtsRow.{OtsRow}
use Rattle.lms_params.specs.declared.pair.Pair.{Pair}
use Rattle.lms_params.specs.Parameters.{IsListed}
use Rattle.lms_ots.specs.Digits.{number_at, u32str}
use Rattle.lms_ots.specs.OneTime.{candidate_key, message_hash, one_time_public, one_time_signature, randomizer, signed_element}
use Rattle.lms_ots.proofs.Signed.{candidate_signed, length-join, length-one_time_signature, length-u32str, number_at_head, number_behind, piece}
use Rattle.lms_tree.specs.Valid.{Key, Valid, candidate_root, inner_node, leaf_node, one_time_part, parent_node, path_node, path_part}
use Rattle.lms_tree.specs.Signer.{node, path_of, public_of, sibling, signature_at}
use Rattle.lms_tree.proofs.Paths.{half_more, path_same, piece_behind}

-- what a listed pair is like
pub record Listed (pair : Pair) : Type 0 where
  pub size : pair.ots.sig_len ≡ 4 + 32 * (pair.ots.p + 1)
  pub ots : pair.ots.code < 2 ^ 32
  pub lms : pair.lms.code < 2 ^ 32
  pub low : pair.lms.h ≤ 25

pub listed : (pair : Pair) → IsListed pair → Listed pair
listed pair h = record { size = grind arith; ots = grind arith; lms = grind arith; low = grind arith }

length-node : (private id : List ℕ) (pair : Pair) (level r : ℕ) → length (node private id pair level r) ≡ 32
unfolding node leaf_node inner_node
length-node private id pair zero r = length-sha256 _
length-node private id pair (suc level) r = length-sha256 _

parent_is : (private id : List ℕ) (pair : Pair) (level n : ℕ) →
    parent_node id n (node private id pair level n) (node private id pair level (sibling n))
    ≡ node private id pair (suc level) (n / 2)
unfolding parent_node sibling node
parent_is private id pair level n =
    let f : ℕ → List ℕ = node private id pair level in
    elim (cases_eq (n % 2) 1) [
      | inl odd ↦
          let test : eqb (n % 2) 1 ≡ true = eq-eqb (n % 2) 1 odd in
          let left : n - 1 ≡ 2 * (n / 2) = omega arith in
          let right : n ≡ 2 * (n / 2) + 1 = omega arith in
          rw test (ap (λ m. inner_node id (n / 2) (f m) (f n)) left ∙ ap (λ m. inner_node id (n / 2) (f (2 * (n / 2))) (f m)) right)
      | inr even ↦
          let zeroth : n % 2 ≡ 0 = omega arith in
          let test : eqb (n % 2) 1 ≡ false = rw zeroth refl in
          let left : n ≡ 2 * (n / 2) = omega arith in
          let right : n + 1 ≡ 2 * (n / 2) + 1 = omega arith in
          rw test (ap (λ m. inner_node id (n / 2) (f m) (f (n + 1))) left ∙ ap (λ m. inner_node id (n / 2) (f (2 * (n / 2))) (f m)) right)
    ]

-- a path of siblings leads up the tree
climb : (private id : List ℕ) (pair : Pair) (index level : ℕ) →
    path_node id (index + 2 ^ pair.lms.h) (node private id pair 0 (index + 2 ^ pair.lms.h)) (path_of private id pair index) level
    ≡ node private id pair level ((index + 2 ^ pair.lms.h) / 2 ^ level)
unfolding path_node path_of
climb private id pair index zero = ap (node private id pair 0) (omega arith)
climb private id pair index (suc level) =
    let r = index + 2 ^ pair.lms.h in
    let below = climb private id pair index level in
    let up = parent_is private id pair level (r / 2 ^ level) in
    let half : r / 2 ^ level / 2 ≡ r / 2 ^ suc level = rw add-one at (half_more r level) in
    rw below (up ∙ ap (node private id pair (suc level)) half)

code_of : (row : OtsRow) (id : List ℕ) (q : ℕ) (seed message rest : List ℕ) → row.code < 2 ^ 32 →
    number_at (one_time_signature row id q seed message ++ rest) 0 ≡ row.code
unfolding one_time_signature
code_of row id q seed message rest small =
    let c = randomizer id q seed in
    let els = flat_map (signed_element row id q seed (message_hash id q c message)) (range_with_len 0 row.p) in
    let regroup : ((u32str row.code ++ c) ++ els) ++ rest ≡ u32str row.code ++ (c ++ (els ++ rest)) = simp append_assoc in
    ap (λ s. number_at s 0) regroup ∙ number_at_head row.code (c ++ (els ++ rest)) small

module _ (private id : List ℕ) (pair : Pair) (index : ℕ) (message : List ℕ) (known : Listed pair) (in_tree : index < 2 ^ pair.lms.h) where
  starts : signature_at private id pair index message
      ≡ u32str index ++ (one_time_signature pair.ots id index private message ++ (u32str pair.lms.code
      ++ flat_map (path_of private id pair index) (range_with_len 0 pair.lms.h)))
  unfolding signature_at
  starts = simp append_assoc

  ends : signature_at private id pair index message
      ≡ (u32str index ++ one_time_signature pair.ots id index private message) ++ (u32str pair.lms.code
      ++ flat_map (path_of private id pair index) (range_with_len 0 pair.lms.h))
  unfolding signature_at
  ends = append_assoc (u32str index ++ one_time_signature pair.ots id index private message) (u32str pair.lms.code)
      (flat_map (path_of private id pair index) (range_with_len 0 pair.lms.h))

  long_one_time : length (one_time_signature pair.ots id index private message) ≡ pair.ots.sig_len
  long_one_time = omega (arith, length-one_time_signature pair.ots id index private message, known.size)

  long_path : length (flat_map (path_of private id pair index) (range_with_len 0 pair.lms.h)) ≡ 32 * pair.lms.h
  unfolding path_of
  long_path = length-join (path_of private id pair index) pair.lms.h (λ j. length-node private id pair j _)

  small : index < 2 ^ 32
  small = let top = pow_mono {i = pair.lms.h} {j = 32} (omega (arith, known.low)) in omega (arith, in_tree, top)

  leaf_is : number_at (signature_at private id pair index message) 0 ≡ index
  leaf_is = ap (λ s. number_at s 0) starts ∙ number_at_head index _ small

  ots_is : number_at (signature_at private id pair index message) 4 ≡ pair.ots.code
  ots_is =
      ap (λ s. number_at s 4) starts
      ∙ (number_behind (u32str index) _ 4 (length-u32str index) ∙ code_of pair.ots id index private message _ known.ots)

  lms_is : number_at (signature_at private id pair index message) (4 + pair.ots.sig_len) ≡ pair.lms.code
  lms_is =
      let head = u32str index ++ one_time_signature pair.ots id index private message in
      let long : length head ≡ 4 + pair.ots.sig_len =
      omega (arith, length-append (u32str index) (one_time_signature pair.ots id index private message), length-u32str index, long_one_time) in
      ap (λ s. number_at s (4 + pair.ots.sig_len)) ends
      ∙ (number_behind head _ (4 + pair.ots.sig_len) long ∙ number_at_head pair.lms.code _ known.lms)

  length_is : length (signature_at private id pair index message) ≡ 8 + pair.ots.sig_len + 32 * pair.lms.h
  unfolding signature_at
  length_is =
      let a = u32str index in
      let b = one_time_signature pair.ots id index private message in
      let c = u32str pair.lms.code in
      let d = flat_map (path_of private id pair index) (range_with_len 0 pair.lms.h) in
      omega (arith, length-append ((a ++ b) ++ c) d, length-append (a ++ b) c, length-append a b, length-u32str index, length-u32str pair.lms.code, long_one_time, long_path)

  part_is : one_time_part pair (signature_at private id pair index message) ≡ one_time_signature pair.ots id index private message
  unfolding one_time_part
  part_is =
      let b = one_time_signature pair.ots id index private message in
      let rest = u32str pair.lms.code ++ flat_map (path_of private id pair index) (range_with_len 0 pair.lms.h) in
      let count : 4 + pair.ots.sig_len - 4 ≡ pair.ots.sig_len = omega arith in
      rw (count, starts, drop_at (u32str index) (b ++ rest) 4 (length-u32str index)) (take_at b rest pair.ots.sig_len long_one_time)

  long_element : (j : ℕ) → length (path_of private id pair index j) ≡ 32
  unfolding path_of
  long_element j = length-node private id pair j _

  path_is : (j : ℕ) → j < pair.lms.h → path_part pair (signature_at private id pair index message) j ≡ path_of private id pair index j
  unfolding path_part signature_at
  path_is j l =
      let a = u32str index in
      let b = one_time_signature pair.ots id index private message in
      let c = u32str pair.lms.code in
      let d = flat_map (path_of private id pair index) (range_with_len 0 pair.lms.h) in
      let head : length ((a ++ b) ++ c) ≡ 8 + pair.ots.sig_len =
      omega (arith, length-append (a ++ b) c, length-append a b, length-u32str index, length-u32str pair.lms.code, long_one_time) in
      let size : 32 * j + 32 - 32 * j ≡ 32 = omega arith in
      let found : slice_range d (32 * j) (32 * j + 32) ≡ path_of private id pair index j =
      rw size (piece (path_of private id pair index) pair.lms.h j long_element l) in
      sym (piece_behind (((a ++ b) ++ c) ++ d) (8 + pair.ots.sig_len) j)
      ∙ (ap (λ xs. slice_range xs (32 * j) (32 * j + 32)) (drop_at ((a ++ b) ++ c) d (8 + pair.ots.sig_len) head) ∙ found)

  leaf_of : leaf_node id (index + 2 ^ pair.lms.h) (one_time_public pair.ots id index private)
      ≡ node private id pair 0 (index + 2 ^ pair.lms.h)
  unfolding node
  leaf_of = let e : index + 2 ^ pair.lms.h - 2 ^ pair.lms.h ≡ index = omega arith in rw e refl

  top_is : (index + 2 ^ pair.lms.h) / 2 ^ pair.lms.h ≡ 1
  top_is = omega (arith, add-div_right index (pow_pos pair.lms.h), div-eq_of_lt in_tree)

  root_is : candidate_root (public_of private id pair) message (signature_at private id pair index message)
      ≡ node private id pair pair.lms.h 1
  unfolding public_of candidate_root
  root_is =
      let r = index + 2 ^ pair.lms.h in
      let sig = signature_at private id pair index message in
      let leaf = leaf_node id r (one_time_public pair.ots id index private) in
      let same = path_same id r leaf (path_part pair sig) (path_of private id pair index) pair.lms.h path_is in
      let up = climb private id pair index pair.lms.h in
      rw (leaf_is, part_is, candidate_signed pair.ots id index private message)
      (same ∙ (ap (λ xs. path_node id r xs (path_of private id pair index) pair.lms.h) leaf_of
      ∙ (up ∙ ap (node private id pair pair.lms.h) top_is)))

  pub signed_valid : Valid (public_of private id pair) message (signature_at private id pair index message)
  unfolding public_of
  signed_valid = record { long = length_is; ots_code = ots_is; lms_code = lms_is; in_tree = rw leaf_is in_tree; root = root_is }

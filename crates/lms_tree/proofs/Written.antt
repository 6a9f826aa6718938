-- A signature written part by part, its path read from the tree.
use Rattle.std.proofs.Common.{◌≡◌, ℕ, zero, suc, ◌+◌, ◌-◌, ◌*◌, ◌/◌, ◌^◌, ◌≤◌, ◌<◌, List, ◌++◌, length, take, arith, refl, sym, ap, ◌∙◌, add-one}
use Rattle.std.specs.List.{flat_map, range_with_len}
use Rattle.std.proofs.lemmas.List.{take_all}
use Rattle.lms_params.specs.declared.pair.Pair.{Pair}
use Rattle.lms_ots.specs.Digits.{u32str}
use Rattle.lms_ots.specs.OneTime.{one_time_signature}
use Rattle.lms_ots.proofs.Signed.{same_join}
use Rattle.lms_tree.specs.Signer.{HoldsTree, path_of, sibling, sibling_in, signature_at}
use Rattle.lms_tree.proofs.Levels.{sibling_least, sibling_most, twice}
use Rattle.lms_tree.proofs.Paths.{half_more}

-- the node above a leaf is of its level
least_is : (index h j : ℕ) → j ≤ h → 2 ^ (h - j) ≤ (index + 2 ^ h) / 2 ^ j
least_is index h zero l = let e : h - 0 ≡ h = omega arith in rw e (omega arith)
least_is index h (suc j) l =
    let below = least_is index h j (omega arith) in
    let half : (index + 2 ^ h) / 2 ^ j / 2 ≡ (index + 2 ^ h) / 2 ^ suc j = rw add-one at (half_more (index + 2 ^ h) j) in
    let double : 2 ^ (h - j) ≡ 2 * 2 ^ (h - suc j) = rw add-one at (twice h j (omega arith)) in
    omega (arith, below, half, double)

most_is : (index h j : ℕ) → index < 2 ^ h → j ≤ h → (index + 2 ^ h) / 2 ^ j < 2 * 2 ^ (h - j)
most_is index h zero i l = let e : h - 0 ≡ h = omega arith in rw e (omega arith)
most_is index h (suc j) i l =
    let below = most_is index h j i (omega arith) in
    let half : (index + 2 ^ h) / 2 ^ j / 2 ≡ (index + 2 ^ h) / 2 ^ suc j = rw add-one at (half_more (index + 2 ^ h) j) in
    let double : 2 ^ (h - j) ≡ 2 * 2 ^ (h - suc j) = rw add-one at (twice h j (omega arith)) in
    omega (arith, below, half, double)

module _ (private id : List ℕ) (pair : Pair) (index : ℕ) (message : List ℕ) (nodes : List (List ℕ))
    (tree : HoldsTree private id pair nodes) (in_tree : index < 2 ^ pair.lms.h) where
  element_is : (j : ℕ) → j < pair.lms.h → sibling_in nodes (index + 2 ^ pair.lms.h) j ≡ path_of private id pair index j
  unfolding sibling_in path_of
  element_is j l =
      let h = pair.lms.h in
      let n = (index + 2 ^ h) / 2 ^ j in
      let double = twice h j l in
      let least = least_is index h j (omega arith) in
      let most = most_is index h j in_tree (omega arith) in
      let low = sibling_least n (2 ^ (h - (j + 1))) (omega arith) in
      let high = sibling_most n (2 ^ (h - (j + 1))) (omega arith) in
      tree.held j (sibling n) (omega arith) (omega arith) (omega arith)

  pub signature_written : (one two three four : List ℕ) → take 4 one ≡ u32str index →
      take (4 + pair.ots.sig_len) two ≡ take 4 one ++ one_time_signature pair.ots id index private message →
      take (4 + pair.ots.sig_len + 4) three ≡ take (4 + pair.ots.sig_len) two ++ u32str pair.lms.code →
      take (4 + pair.ots.sig_len + 4 + 32 * pair.lms.h) four ≡ take (4 + pair.ots.sig_len + 4) three
      ++ flat_map (sibling_in nodes (index + 2 ^ pair.lms.h)) (range_with_len 0 pair.lms.h) →
      length four ≡ 8 + pair.ots.sig_len + 32 * pair.lms.h →
      four ≡ signature_at private id pair index message
  unfolding signature_at
  signature_written one two three four first second third fourth long =
      let b = one_time_signature pair.ots id index private message in
      let path = same_join (sibling_in nodes (index + 2 ^ pair.lms.h)) (path_of private id pair index) pair.lms.h element_is in
      let whole : take (4 + pair.ots.sig_len + 4 + 32 * pair.lms.h) four ≡ four = take_all _ four (omega (arith, long)) in
      let head : take (4 + pair.ots.sig_len + 4) three ≡ (u32str index ++ b) ++ u32str pair.lms.code =
      third ∙ ap (λ xs. xs ++ u32str pair.lms.code) (second ∙ ap (λ xs. xs ++ b) first) in
      sym whole ∙ (fourth ∙ (ap (λ xs. xs ++ flat_map (sibling_in nodes (index + 2 ^ pair.lms.h)) (range_with_len 0 pair.lms.h)) head
      ∙ ap (λ xs. ((u32str index ++ b) ++ u32str pair.lms.code) ++ xs) path))

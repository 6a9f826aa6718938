-- The elements of the chains, by what the input of a chain holds.
use Rattle.std.proofs.Common.{◌≡◌, ℕ, ◌-◌, ◌^◌, ◌≤◌, List, ◌++◌, take, drop, ap, sym, ◌∙◌}
use Rattle.std.specs.List.{flat_map, range_with_len}
use Rattle.std.proofs.lemmas.List.{take-take}
use Rattle.lms_params.specs.declared.pair.OtsRow.{OtsRow}
use Rattle.lms_ots.specs.Digits.{digit, u16str, u32str}
use Rattle.lms_ots.specs.Chain.{chain, chain_name, step}
use Rattle.lms_ots.specs.OneTime.{candidate_element, derived, element_at, message_hash, one_time_signature, public_element, randomizer, signed_element}

-- what agrees further agrees up to here
pub shorter : (m n : ℕ) (xs ys : List ℕ) → m ≤ n → take n xs ≡ take n ys → take m xs ≡ take m ys
shorter m n xs ys h e = sym (take-take m n xs h) ∙ (ap (λ zs. take m zs) e ∙ take-take m n ys h)

-- an input of leaf q, then started at chain i, then walked along
module _ (id : List ℕ) (q i : ℕ) (before started walked : List ℕ) (leaf : take 20 before ≡ id ++ u32str q) (name : take 22 started ≡ take 20 before ++ u16str i) where
  pub named : take 22 started ≡ chain_name id q i
  unfolding chain_name
  named = name ∙ ap (λ xs. xs ++ u16str i) leaf

  pub derived_is : (seed : List ℕ) → drop 23 started ≡ step (take 20 before ++ u16str i) 0xff seed →
      drop 23 started ≡ derived id q i seed
  unfolding chain_name derived
  derived_is seed element = element ∙ ap (λ xs. step (xs ++ u16str i) 0xff seed) leaf

  walked_is : (first count : ℕ) (element : List ℕ) → drop 23 started ≡ element →
      drop 23 walked ≡ chain (take 22 started) first count (drop 23 started) →
      drop 23 walked ≡ chain (chain_name id q i) first count element
  walked_is first count element start walk =
      walk ∙ (ap (λ xs. chain xs first count (drop 23 started)) named ∙ ap (λ xs. chain (chain_name id q i) first count xs) start)

  pub public_is : (row : OtsRow) (seed : List ℕ) (count : ℕ) → count ≡ 2 ^ row.w - 1 →
      drop 23 started ≡ step (take 20 before ++ u16str i) 0xff seed →
      drop 23 walked ≡ chain (take 22 started) 0 count (drop 23 started) →
      drop 23 walked ≡ public_element row id q seed i
  unfolding public_element
  public_is row seed count all start walk =
      walked_is 0 count _ (derived_is seed start) walk ∙ ap (λ n. chain (chain_name id q i) 0 n (derived id q i seed)) all

  pub signed_is : (row : OtsRow) (seed hash : List ℕ) (count : ℕ) → count ≡ digit row hash i →
      drop 23 started ≡ step (take 20 before ++ u16str i) 0xff seed →
      drop 23 walked ≡ chain (take 22 started) 0 count (drop 23 started) →
      drop 23 walked ≡ signed_element row id q seed hash i
  unfolding signed_element
  signed_is row seed hash count all start walk =
      walked_is 0 count _ (derived_is seed start) walk ∙ ap (λ n. chain (chain_name id q i) 0 n (derived id q i seed)) all

  pub candidate_is : (row : OtsRow) (hash sig : List ℕ) (first count : ℕ) → first ≡ digit row hash i →
      count ≡ 2 ^ row.w - 1 - digit row hash i → drop 23 started ≡ element_at sig i →
      drop 23 walked ≡ chain (take 22 started) first count (drop 23 started) →
      drop 23 walked ≡ candidate_element row id q hash sig i
  unfolding candidate_element
  candidate_is row hash sig first count at all start walk =
      walked_is first count _ start walk ∙ (ap (λ n. chain (chain_name id q i) n count (element_at sig i)) at
      ∙ ap (λ n. chain (chain_name id q i) (digit row hash i) n (element_at sig i)) all)

-- a typecode, a randomizer and the elements, written one behind the other
pub signature_is : (row : OtsRow) (id : List ℕ) (q : ℕ) (seed message code c hash one two three : List ℕ) →
    code ≡ u32str row.code → c ≡ derived id q 0xfffd seed → hash ≡ message_hash id q c message →
    take 4 one ≡ code → take 36 two ≡ take 4 one ++ c →
    three ≡ take 36 two ++ flat_map (signed_element row id q seed hash) (range_with_len 0 row.p) →
    three ≡ one_time_signature row id q seed message
unfolding one_time_signature randomizer
signature_is row id q seed message code c hash one two three code_is c_is hash_is first second third =
    let hashed : hash ≡ message_hash id q (derived id q 0xfffd seed) message =
    hash_is ∙ ap (λ xs. message_hash id q xs message) c_is in
    let head : take 36 two ≡ u32str row.code ++ derived id q 0xfffd seed =
    second ∙ (ap (λ xs. xs ++ c) (first ∙ code_is) ∙ ap (λ xs. u32str row.code ++ xs) c_is) in
    rw (head, hashed) at third

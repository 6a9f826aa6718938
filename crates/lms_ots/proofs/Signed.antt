-- A signature's candidate key is the public value: each chain is walked to its digit, then to its end.
use Rattle.std.proofs.Common.{◌≡◌, ℕ, zero, suc, ◌+◌, ◌-◌, ◌*◌, ◌^◌, ◌≤◌, ◌<◌, List, ◌++◌, length, get_or, take, drop, slice_range, arith, ap, sym, ◌∙◌, refl, inl, inr, add-one, add-zero, append_assoc, length-append, length-drop}
use Rattle.std.specs.List.{flat_map, range_with_len}
use Rattle.std.proofs.lemmas.Bool.{cases_lt}
use Rattle.std.proofs.lemmas.List.{drop_at, drop-append-le, get_or-append_right, drop-drop, take_all, take_at, take-append-le}
use Rattle.std.proofs.lemmas.Nat.{from_be_bytes-to_be_bytes_4}
use Rattle.sha2.proofs.Facts256.{length-sha256}
use Rattle.lms_params.specs.declared.pair.OtsRow.{OtsRow}
use Rattle.lms_ots.specs.Digits.{digit, number_at, u32str}
use Rattle.lms_ots.specs.Chain.{chain, chain_name, step}
use Rattle.lms_ots.specs.OneTime.{candidate_element, candidate_key, derived, element_at, message_hash, one_time_public, one_time_signature, public_element, public_of, randomizer, signed_element}
use Rattle.lms_ots.proofs.ChainLemmas.{chain_joined}
use Rattle.lms_ots.proofs.Ranges.{join_more}
use Rattle.lms_ots.proofs.Rows.{digit_bound}

pub length-u32str : (n : ℕ) → length (u32str n) ≡ 4
unfolding u32str
length-u32str n = refl

pub length-derived : (id : List ℕ) (q i : ℕ) (seed : List ℕ) → length (derived id q i seed) ≡ 32
unfolding derived step
length-derived id q i seed = length-sha256 _

pub length-chain : (name : List ℕ) (first count : ℕ) (tmp : List ℕ) → length tmp ≡ 32 → length (chain name first count tmp) ≡ 32
unfolding chain step
length-chain name first zero tmp h = h
length-chain name first (suc count) tmp h = length-sha256 _

pub length-signed_element : (row : OtsRow) (id : List ℕ) (q : ℕ) (seed hash : List ℕ) (i : ℕ) →
    length (signed_element row id q seed hash i) ≡ 32
unfolding signed_element
length-signed_element row id q seed hash i = length-chain _ 0 _ _ (length-derived id q i seed)

join_more_suc : (f : ℕ → List ℕ) (n : ℕ) →
    flat_map f (range_with_len 0 (suc n)) ≡ flat_map f (range_with_len 0 n) ++ f n
join_more_suc f n = rw add-one at (join_more f n)

-- joined pieces of 32 bytes
pub length-join : (f : ℕ → List ℕ) (n : ℕ) → ((i : ℕ) → length (f i) ≡ 32) → length (flat_map f (range_with_len 0 n)) ≡ 32 * n
length-join f zero h = omega arith
length-join f (suc n) h =
    rw join_more_suc (omega (arith, length-append (flat_map f (range_with_len 0 n)) (f n), length-join f n h, h n))

inside : (front rest : List ℕ) (at n : ℕ) → at + n ≤ length front → take n (drop at (front ++ rest)) ≡ take n (drop at front)
inside front rest at n h =
    let begin : at ≤ length front = omega arith in
    let long : n ≤ length (drop at front) = omega (arith, length-drop at front) in
    ap (λ xs. take n xs) (drop-append-le at front rest begin) ∙ take-append-le n (drop at front) rest long

-- piece i of n
pub piece : (f : ℕ → List ℕ) (n i : ℕ) → ((j : ℕ) → length (f j) ≡ 32) → i < n →
    take 32 (drop (32 * i) (flat_map f (range_with_len 0 n))) ≡ f i
piece f zero i h l = absurd (omega arith)
piece f (suc n) i h l =
    let front = flat_map f (range_with_len 0 n) in
    let long : length front ≡ 32 * n = length-join f n h in
    let more = ap (λ xs. take 32 (drop (32 * i) xs)) (join_more_suc f n) in
    let found : take 32 (drop (32 * i) (front ++ f n)) ≡ f i = elim (cases_lt i n) [
      | inl low ↦ inside front (f n) (32 * i) 32 (omega arith) ∙ piece f n i h low
      | inr high ↦
          let e : i ≡ n = omega arith in
          rw e (ap (λ xs. take 32 xs) (drop_at front (f n) (32 * n) long) ∙ take_all 32 (f n) (omega (arith, h n)))
    ] in
    more ∙ found

pub same_join : (f g : ℕ → List ℕ) (n : ℕ) → ((i : ℕ) → i < n → f i ≡ g i) →
    flat_map f (range_with_len 0 n) ≡ flat_map g (range_with_len 0 n)
same_join f g zero h = refl
same_join f g (suc n) h =
    let before = same_join f g n (λ i l. h i (omega arith)) in
    let last : f n ≡ g n = h n (omega arith) in
    rw (join_more_suc f n, join_more_suc g n, before, last)

-- the parts of a signature's bytes
module _ (row : OtsRow) (id : List ℕ) (q : ℕ) (seed message : List ℕ) where
  randomizer_of : slice_range (one_time_signature row id q seed message) 4 36 ≡ randomizer id q seed
  unfolding one_time_signature randomizer
  randomizer_of =
      let code = u32str row.code in
      let c = derived id q 0xfffd seed in
      let rest = flat_map (signed_element row id q seed (message_hash id q c message)) (range_with_len 0 row.p) in
      rw (append_assoc code c rest, drop_at code (c ++ rest) 4 (length-u32str row.code)) (take_at c rest 32 (length-derived id q 0xfffd seed))

  element_of : (i : ℕ) → i < row.p → element_at (one_time_signature row id q seed message) i
      ≡ signed_element row id q seed (message_hash id q (randomizer id q seed) message) i
  unfolding one_time_signature element_at randomizer
  element_of i l =
      let code = u32str row.code in
      let c = derived id q 0xfffd seed in
      let f = signed_element row id q seed (message_hash id q c message) in
      let rest = flat_map f (range_with_len 0 row.p) in
      let head : length (code ++ c) ≡ 36 = omega (arith, length-append code c, length-u32str row.code, length-derived id q 0xfffd seed) in
      let size : 36 + 32 * i + 32 - (36 + 32 * i) ≡ 32 = omega arith in
      let behind : drop (36 + 32 * i) ((code ++ c) ++ rest) ≡ drop (32 * i) rest =
      sym (drop-drop (32 * i) 36 ((code ++ c) ++ rest)) ∙ ap (λ xs. drop (32 * i) xs) (drop_at (code ++ c) rest 36 head) in
      rw (size, behind) (piece f row.p i (λ j. length-signed_element row id q seed _ j) l)

  element_same : (i : ℕ) → i < row.p →
      candidate_element row id q (message_hash id q (randomizer id q seed) message) (one_time_signature row id q seed message) i
      ≡ public_element row id q seed i
  unfolding candidate_element public_element signed_element
  element_same i l =
      let hash = message_hash id q (randomizer id q seed) message in
      let name = chain_name id q i in
      let d = digit row hash i in
      let top = 2 ^ row.w - 1 in
      let bound : d ≤ top = digit_bound row hash i in
      let whole : d + (top - d) ≡ top = omega arith in
      let begin : 0 + d ≡ d = omega arith in
      let start = derived id q i seed in
      let joined : chain name d (top - d) (chain name 0 d start) ≡ chain name 0 top start =
      rw (begin, whole) at (chain_joined name 0 d (top - d) start) in
      rw (element_of i l) joined

  pub candidate_signed :
      candidate_key row id q message (one_time_signature row id q seed message) ≡ one_time_public row id q seed
  unfolding candidate_key one_time_public public_of
  candidate_signed =
      let hash = message_hash id q (randomizer id q seed) message in
      let sig = one_time_signature row id q seed message in
      let same = same_join (candidate_element row id q hash sig) (public_element row id q seed) row.p element_same in
      rw (randomizer_of, same) refl

  pub length-one_time_signature : length (one_time_signature row id q seed message) ≡ 36 + 32 * row.p
  unfolding one_time_signature randomizer
  length-one_time_signature =
      let code = u32str row.code in
      let c = derived id q 0xfffd seed in
      let f = signed_element row id q seed (message_hash id q c message) in
      let rest = flat_map f (range_with_len 0 row.p) in
      let long : length rest ≡ 32 * row.p = length-join f row.p (λ j. length-signed_element row id q seed _ j) in
      omega (arith, length-append (code ++ c) rest, length-append code c, length-u32str row.code, length-derived id q 0xfffd seed, long)

-- the number at the head of a string, and behind another string
pub number_at_head : (n : ℕ) (rest : List ℕ) → n < 2 ^ 32 → number_at (u32str n ++ rest) 0 ≡ n
unfolding number_at u32str
number_at_head n rest h = from_be_bytes-to_be_bytes_4 n h

at_behind : (front rest : List ℕ) (at k : ℕ) → length front ≡ at → get_or (front ++ rest) (at + k) 0 ≡ get_or rest k 0
at_behind front rest at k long =
    let e : at + k - at ≡ k = omega arith in
    get_or-append_right front rest at (at + k) 0 long (omega arith) ∙ ap (λ n. get_or rest n 0) e

pub number_behind : (front rest : List ℕ) (at : ℕ) → length front ≡ at → number_at (front ++ rest) at ≡ number_at rest 0
unfolding number_at
number_behind front rest at long =
    let zeroth : get_or (front ++ rest) at 0 ≡ get_or rest 0 0 = rw add-zero at (at_behind front rest at 0 long) in
    let first : get_or (front ++ rest) (at + 1) 0 ≡ get_or rest 1 0 = at_behind front rest at 1 long in
    let second : get_or (front ++ rest) (at + 2) 0 ≡ get_or rest 2 0 = at_behind front rest at 2 long in
    let third : get_or (front ++ rest) (at + 3) 0 ≡ get_or rest 3 0 = at_behind front rest at 3 long in
    rw (zeroth, first, second, third) refl

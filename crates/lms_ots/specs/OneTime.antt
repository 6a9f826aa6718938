-- One-time signatures, by RFC 8554, sections 4.2 to 4.6 and appendix A, over lists of chain elements.
use Rattle.std.specs.Prelude.{ℕ, ◌+◌, ◌-◌, ◌*◌, ◌^◌, List, ◌++◌, slice_range}
use Rattle.std.specs.List.{flat_map, range_with_len}
use Rattle.sha2.specs.Sha256.{sha256}
use Rattle.lms_params.specs.declared.pair.OtsRow.{OtsRow}
use Rattle.lms_ots.specs.Digits.{digit, u16str, u32str}
use Rattle.lms_ots.specs.Chain.{chain, chain_name, step}

-- a secret of 32 bytes from the seed: H(I || u32str(q) || u16str(i) || u8str(0xff) || SEED). It is
-- element x[i] (appendix A); at i = 0xfffd it is the randomizer C, by this library's own choice.
unfoldable pub derived : List ℕ → ℕ → ℕ → List ℕ → List ℕ
derived id q i seed = step (chain_name id q i) 0xff seed

-- C, which section 4.5 wants to be random
unfoldable pub randomizer : List ℕ → ℕ → List ℕ → List ℕ
randomizer id q seed = derived id q 0xfffd seed

-- Q = H(I || u32str(q) || u16str(D_MESG) || C || message) (section 4.5)
unfoldable pub message_hash : List ℕ → ℕ → List ℕ → List ℕ → List ℕ
message_hash id q c message = sha256 (id ++ u32str q ++ u16str 0x8181 ++ c ++ message)

-- K = H(I || u32str(q) || u16str(D_PBLC) || y[0] || .. || y[p-1]) for the elements y (section 4.3)
unfoldable pub public_of : OtsRow → List ℕ → ℕ → (ℕ → List ℕ) → List ℕ
public_of row id q y = sha256 (id ++ u32str q ++ u16str 0x8080 ++ flat_map y (range_with_len 0 row.p))

-- element i of the public key: x[i] after all steps, 0 to 2^w - 2 (section 4.3)
unfoldable pub public_element : OtsRow → List ℕ → ℕ → List ℕ → ℕ → List ℕ
public_element row id q seed i =
    chain (chain_name id q i) 0 (2 ^ row.w - 1) (derived id q i seed)

-- the public value K of a seed (section 4.3, algorithm 1)
unfoldable pub one_time_public : OtsRow → List ℕ → ℕ → List ℕ → List ℕ
one_time_public row id q seed = public_of row id q (public_element row id q seed)

-- element i of a signature of the hash Q: x[i] after the steps 0 to its digit minus 1 (section 4.5)
unfoldable pub signed_element : OtsRow → List ℕ → ℕ → List ℕ → List ℕ → ℕ → List ℕ
signed_element row id q seed hash i =
    chain (chain_name id q i) 0 (digit row hash i) (derived id q i seed)

-- u32str(type) || C || y[0] || .. || y[p-1] (section 4.5, algorithm 3)
unfoldable pub one_time_signature : OtsRow → List ℕ → ℕ → List ℕ → List ℕ → List ℕ
one_time_signature row id q seed message =
    let c = randomizer id q seed in
    let hash = message_hash id q c message in
    u32str row.code ++ c ++ flat_map (signed_element row id q seed hash) (range_with_len 0 row.p)

-- y[i] of a signature's bytes, which stands behind the typecode, C and i elements
unfoldable pub element_at : List ℕ → ℕ → List ℕ
element_at sig i = slice_range sig (36 + 32 * i) (36 + 32 * i + 32)

-- element i continued from its digit to the end of its chain, by the steps up to 2^w - 2 (section 4.6)
unfoldable pub candidate_element : OtsRow → List ℕ → ℕ → List ℕ → List ℕ → ℕ → List ℕ
candidate_element row id q hash sig i =
    chain (chain_name id q i) (digit row hash i) (2 ^ row.w - 1 - digit row hash i) (element_at sig i)

-- the candidate key Kc of a message and a signature (section 4.6, algorithm 4b)
unfoldable pub candidate_key : OtsRow → List ℕ → ℕ → List ℕ → List ℕ → List ℕ
candidate_key row id q message sig =
    let hash = message_hash id q (slice_range sig 4 36) message in
    public_of row id q (candidate_element row id q hash sig)

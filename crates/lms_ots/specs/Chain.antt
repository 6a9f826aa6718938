-- The chains of LM-OTS, by RFC 8554, sections 4.2, 4.3, 4.5 and 4.6. I is the 16-byte identifier of
-- the tree, q the number of the leaf, i the number of the chain, and H is SHA-256.
use Rattle.std.specs.Prelude.{ℕ, zero, suc, ◌+◌, List, ◌∷◌, ◌++◌}
use Rattle.sha2.specs.Sha256.{sha256}
use Rattle.lms_ots.specs.Digits.{u16str, u32str}

-- what every input of a chain begins with: I || u32str(q) || u16str(i)
unfoldable pub chain_name : List ℕ → ℕ → ℕ → List ℕ
chain_name id q i = id ++ u32str q ++ u16str i

-- step j: H(I || u32str(q) || u16str(i) || u8str(j) || tmp)
unfoldable pub step : List ℕ → ℕ → List ℕ → List ℕ
step name j tmp = sha256 (name ++ j ∷ tmp)

-- an element after so many steps, the first of them numbered `first`
unfoldable pub chain : List ℕ → ℕ → ℕ → List ℕ → List ℕ
chain name first zero tmp = tmp
chain name first (suc count) tmp = step name (first + count) (chain name first count tmp)

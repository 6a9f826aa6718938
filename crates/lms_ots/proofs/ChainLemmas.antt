-- Chains, one step on and joined.
use Rattle.std.proofs.Common.{◌≡◌, ℕ, zero, suc, ◌+◌, ◌-◌, ◌≤◌, List, ap, arith}
use Rattle.lms_ots.specs.Chain.{chain, step}

pub chain_none : (name : List ℕ) (first : ℕ) (tmp : List ℕ) → chain name first (first - first) tmp ≡ tmp
unfolding chain
chain_none name first tmp = let e : first - first ≡ 0 = omega arith in rw e

pub chain_more : (name : List ℕ) (first j : ℕ) (tmp : List ℕ) → first ≤ j →
    chain name first (j + 1 - first) tmp ≡ step name j (chain name first (j - first) tmp)
unfolding chain
chain_more name first j tmp h =
    let more : j + 1 - first ≡ suc (j - first) = omega arith in
    let number : first + (j - first) ≡ j = omega arith in
    rw more (rw number)

-- the steps of a then those of b are those of a + b
pub chain_joined : (name : List ℕ) (first a b : ℕ) (tmp : List ℕ) →
    chain name (first + a) b (chain name first a tmp) ≡ chain name first (a + b) tmp
unfolding chain
chain_joined name first a zero tmp = let e : a + 0 ≡ a = omega arith in rw e
chain_joined name first a (suc b) tmp =
    let more : a + suc b ≡ suc (a + b) = omega arith in
    let number : (first + a) + b ≡ first + (a + b) = omega arith in
    rw (more, number) (ap (step name (first + (a + b))) (chain_joined name first a b tmp))

-- What a change leaves is an access list again.
use Rattle.std.proofs.Common.{◌≢◌, ℕ, ◌<◌, List, [], ◌∷◌, length, inl, inr, sym, ◌∙◌, arith}
use Rattle.std.specs.Prelude.{IsSome, nat_eq, not}
use Rattle.std.proofs.lemmas.Bool.{false≢true, ne_eqb}
use Rattle.std.proofs.lemmas.Bool.Decides.{eqb_tells}
use Rattle.tree_model.specs.declared.entry.Entry.{Entry}
use Rattle.tree_model.specs.AccessList.{IsRising, entry_of, without}
use Rattle.tree_model.proofs.ListChanges.{rising-filter}

pub rising-without : (user : ℕ) (es : List Entry) → IsRising es → IsRising (without user es)
rising-without user es h = rising-filter (λ (x : Entry). not (nat_eq x.user user)) es h

-- the second of two entries of a list stays where the first has the user
pub without-some : (user : ℕ) (es : List Entry) → IsRising es → 1 < length es → 0 < length (without user es)
without-some user [] h more = absurd (omega arith)
without-some user (e ∷ []) h more = absurd (omega arith)
without-some user (e ∷ x ∷ es) h more =
    let less : e.user < x.user = h.0.0 in
    elim (eqb_tells e.user user) [
      | inl same ↦ let other = ne_eqb x.user user (λ is. let is' = same.1 in omega arith) in rw (same.0, other)
          (omega arith)
      | inr other ↦ rw other.0 (omega arith)
    ]

-- ---- users

pub two-users : (es : List Entry) (a b : ℕ) → IsSome (entry_of es a) → IsSome (entry_of es b) → a ≢ b → 1 < length es
two-users [] a b has_a has_b differ = absurd cc
two-users (e ∷ []) a b has_a has_b differ =
    elim (eqb_tells e.user a) [
      | inr other ↦ absurd (false≢true (rw other.0 at has_a))
      | inl same ↦ elim (eqb_tells e.user b) [
        | inl same' ↦ absurd (differ (sym same.1 ∙ same'.1))
        | inr other ↦ absurd (false≢true (rw other.0 at has_b))
      ]
    ]
two-users (e ∷ x ∷ es) a b has_a has_b differ = omega arith

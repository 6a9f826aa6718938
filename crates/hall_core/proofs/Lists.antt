-- Look-ups in the list in which the author's next number is set.
use Rattle.std.proofs.Common.{◌≡◌, ◌≢◌, ◌∙◌, ℕ, List, Option, None, ap, subst}
use Rattle.std.specs.Prelude.{IsSome, is_some}
use Rattle.std.specs.Option.{option_map}
use Rattle.tree_model.specs.declared.entry.Entry.{Entry}
use Rattle.tree_model.specs.AccessList.{IsListed, entry_of, with_next}
use Rattle.tree_model.proofs.LookUps.{with_next-own, with_next-other}

module _ (author next : ℕ) (es : List Entry) where
  -- the author stays in it
  pub own-some : IsListed es author → IsSome (entry_of (with_next author next es) author)
  own-some listed = ap is_some (with_next-own author next es
      ∙ ap (λ (o : Option Entry). option_map (λ (e : Entry). record { user = e.user; role = e.role; next = next }) o)
      listed.1)

  -- and so does another user
  pub other-some : (user : ℕ) → user ≢ author → IsListed es user → IsSome (entry_of (with_next author next es) user)
  other-some user apart listed = ap is_some (with_next-other author next user es apart ∙ listed.1)

  -- who isn't in the list still isn't
  pub still-none : (user : ℕ) → IsListed es author → entry_of es user ≡ None
      → entry_of (with_next author next es) user ≡ None
  still-none user listed none = with_next-other author next user es (λ same. apart same listed) ∙ none where
    apart : user ≡ author → IsListed es author → ⊥
    apart same listed =
        let found = listed.1 in
        let lost = subst (λ (u : ℕ). entry_of es u ≡ None) same none in
        cc

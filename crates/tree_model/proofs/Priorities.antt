-- Priorities are a strict total order of the users.
use Rattle.std.proofs.Common.{◌≡◌, ◌⊎◌, ℕ, true, false, refl, ap, sym, ◌∙◌, inl, inr}
use Rattle.std.specs.Ordering.{ordering_then, ordering_reverse, nat_cmp, is_gt}
use Rattle.std.specs.declared.cmp.Ordering.{Ordering}
use Rattle.std.specs.declared.cmp.Ordering.TheVariants.{Less, Equal, Greater}
use Rattle.std.specs.Cmp.{IsTotalOrder}
use Rattle.std.specs.Cmp.Lexicographic.{slice_cmp}
use Rattle.std.proofs.lemmas.Cmp.{nat_list_cmp_total, nat_cmp_total, on_total, then_total}
use Rattle.std.proofs.lemmas.Map.Lookups.{exact_unsigned}
use Rattle.tree_model.specs.AccessList.{priority_hash, priority_cmp, is_above}

priority_total : IsTotalOrder priority_cmp
priority_total = then_total (on_total priority_hash nat_list_cmp_total) nat_cmp_total

then_equal : (a b : Ordering) → ordering_then a b ≡ Equal → b ≡ Equal
then_equal Less b e = absurd cc
then_equal Equal b e = e
then_equal Greater b e = absurd cc

-- users of equal priority are one
priority-exact : (a b : ℕ) → priority_cmp a b ≡ Equal → a ≡ b
priority-exact a b e = exact_unsigned a b (then_equal (slice_cmp nat_cmp (priority_hash a) (priority_hash b)) (nat_cmp a b) e)

gt-greater : (o : Ordering) → is_gt o ≡ true → o ≡ Greater
gt-greater Less h = absurd cc
gt-greater Equal h = absurd cc
gt-greater Greater h = refl

reverse-less : (o : Ordering) → Greater ≡ ordering_reverse o → o ≡ Less
reverse-less Less h = refl
reverse-less Equal h = absurd cc
reverse-less Greater h = absurd cc

reverse-self : (o : Ordering) → o ≡ ordering_reverse o → o ≡ Equal
reverse-self Less h = absurd cc
reverse-self Equal h = refl
reverse-self Greater h = absurd cc

above-less : (a b : ℕ) → is_above a b ≡ true → priority_cmp b a ≡ Less
unfolding is_above
above-less a b h = reverse-less (priority_cmp b a) (sym (gt-greater (priority_cmp a b) h) ∙ priority_total.antisymm a b)

less-above : (a b : ℕ) → priority_cmp b a ≡ Less → is_above a b ≡ true
unfolding is_above
less-above a b h = ap is_gt (priority_total.antisymm a b ∙ ap ordering_reverse h)

-- nobody is above itself
pub above-self : (a : ℕ) → is_above a a ≡ false
unfolding is_above
above-self a = ap is_gt (reverse-self (priority_cmp a a) (priority_total.antisymm a a))

pub above-trans : (a b c : ℕ) → is_above a b ≡ true → is_above b c ≡ true → is_above a c ≡ true
above-trans a b c ab bc = less-above a c (priority_total.trans c b a (above-less b c bc) (above-less a b ab))

above_case : (a b : ℕ) (o : Ordering) → priority_cmp b a ≡ o → (a ≡ b) ⊎ ((is_above a b ≡ true) ⊎ (is_above b a ≡ true))
unfolding is_above
above_case a b Less e = inr (inl (less-above a b e))
above_case a b Equal e = inl (sym (priority-exact b a e))
above_case a b Greater e = inr (inr (ap is_gt e))

-- of two users one is above the other, or they are one
pub above-total : (a b : ℕ) → (a ≡ b) ⊎ ((is_above a b ≡ true) ⊎ (is_above b a ≡ true))
above-total a b = above_case a b (priority_cmp b a) refl

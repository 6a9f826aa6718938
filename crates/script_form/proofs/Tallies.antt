-- Each command counts once.
use Rattle.std.proofs.Common.{◌≡◌, ℕ, ◌+◌, cond, List, [], ◌∷◌, refl, arith}
use Rattle.std.proofs.lemmas.List.Sums.{sum_by-cons}
use Rattle.script_form.specs.declared.counts.Count.{Count}
use Rattle.script_form.specs.declared.counts.Count.TheVariants as counts
use Rattle.script_form.specs.declared.outcome.Outcome.{Outcome}
use Rattle.script_form.specs.Status.{count_of}
use Rattle.script_form.specs.Summary.{AddUp, same_count, counts_as}

-- 1 where a command counts so
abbrev tally : Count → Count → ℕ
tally what count = cond (same_count what count) 1 0

once : (c : Count) → tally counts.Taken c + tally counts.Declined c + tally counts.Refused c
    + tally counts.Rejected c + tally counts.Lost c ≡ 1
once counts.Taken = refl
once counts.Declined = refl
once counts.Refused = refl
once counts.Rejected = refl
once counts.Lost = refl

abbrev tally_of : Count → Outcome → ℕ
tally_of what o = cond (counts_as what o) 1 0

pub add_up : (all : List Outcome) → AddUp all
add_up [] = refl
add_up (o ∷ all) =
    let this = once (count_of o) in
    let others = add_up all in
    let taken = sum_by-cons (tally_of counts.Taken) o all in
    let declined = sum_by-cons (tally_of counts.Declined) o all in
    let refused = sum_by-cons (tally_of counts.Refused) o all in
    let rejected = sum_by-cons (tally_of counts.Rejected) o all in
    let lost = sum_by-cons (tally_of counts.Lost) o all in
    omega (arith, this, others, taken, declined, refused, rejected, lost)

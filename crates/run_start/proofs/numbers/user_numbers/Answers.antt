use Rattle.std.proofs.Common.{ℕ, List, subst}
use Rattle.std.specs.List.Sorted.{IsPermutation}
use Rattle.script_read.specs.declared.script.ScriptUser.{ScriptUser}
use Rattle.run_start.proofs.Listing.{lists-sorted}
use Rattle.run_start.proofs.numbers.user_numbers.Goals as goal

pub returns : goal.returns
returns c =
    let numbers = c.rising.result.items in
    lists-sorted (λ (x : ScriptUser). x.user) c.args.script.now.users numbers c.requires
    (subst (λ (l : List ℕ). IsPermutation l numbers) c.in_ok-numbers.ensures c.rising.ensures.same)
    c.rising.ensures.rise

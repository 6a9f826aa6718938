use Rattle.std.proofs.Common.{ℕ, List, subst}
use Rattle.std.specs.List.Sorted.{IsPermutation}
use Rattle.script_read.specs.declared.script.ScriptWall.{ScriptWall}
use Rattle.run_start.proofs.Listing.{lists-sorted}
use Rattle.run_start.proofs.numbers.wall_numbers.Goals as goal

pub returns : goal.returns
returns c =
    let numbers = c.rising.result.items in
    lists-sorted (λ (x : ScriptWall). x.wall) c.args.script.now.walls numbers c.requires
    (subst (λ (l : List ℕ). IsPermutation l numbers) c.in_ok-numbers.ensures c.rising.ensures.same)
    c.rising.ensures.rise

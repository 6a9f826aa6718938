use Rattle.std.proofs.Common.{◌≡◌, ◌+◌, ◌-◌, ◌∙◌, ap, take, arith}
use Rattle.wall_law.specs.State.{state_of}
use Rattle.hall_replies.specs.Kept.{leaves_of, owner_of}
use Rattle.hall_replies.proofs.Kept.{list-behind}
use Rattle.hall_replies.proofs.lists.list_before.Goals as goal

pub returns : goal.returns
returns g c =
    let s = c.args.snap.now in
    let e : c.args.k - 1 + 1 ≡ c.args.k = omega arith in
    list-behind g.D.Digester.digest_of s c.requires.kept (c.args.k - 1) c.item.result.now (rw c.history.ensures at c.item.ensures)
    ∙ ap (λ n. (state_of (owner_of s) (take n (leaves_of s))).entries) e

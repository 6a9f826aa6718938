use Rattle.std.proofs.Common.{rules}
use Rattle.session_run_tests.proofs.Growing.{begins, few, goes}
use Rattle.session_run_tests.proofs.todo.commands.Goals as goal

pub loop-number-init : goal.loop-number-init
loop-number-init c = rw c.new-out.ensures.items (begins c.args.wall)

pub loop-number-preserved : goal.loop-number-preserved
loop-number-preserved c =
    rw c.in_ok-push.ensures.items
    (goes c.args.wall c.loop-number.number c.loop-number.left _ c.loop-number.out.items _ c.loop-number.invariant
    (search rules) (search rules))

pub returns : goal.returns
returns c =
    rw c.of.ensures
    (few c.args.wall c.loop-number.number c.loop-number.left c.loop-number.out.items c.loop-number.invariant
    (search rules))

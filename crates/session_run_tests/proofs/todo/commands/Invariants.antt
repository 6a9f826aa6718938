use Rattle.session_run_tests.specs.Todo.{IsGoing}
use Rattle.session_run_tests.proofs.todo.commands.Given as goal

abbrev pub invariant-loop-number : goal.invariant-loop-number
invariant-loop-number l = IsGoing l.wall l.number l.left l.out.items

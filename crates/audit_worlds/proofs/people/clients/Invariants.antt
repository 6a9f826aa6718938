use Rattle.std.proofs.Common.{◌≡◌, map, take}
use Rattle.std.specs.List.{AllByRecursion}
use Rattle.run_end.specs.Ends.{user_in}
use Rattle.audit_worlds.specs.Clients.{Knows}
use Rattle.audit_worlds.proofs.people.clients.Given as goal

abbrev pub invariant-loop-user : goal.invariant-loop-user
invariant-loop-user g l = record {
  know : AllByRecursion (Knows l.everybody.note l.everybody.keys) l.clients.items;
  users : map user_in l.clients.items ≡ take l.user-index l.users;
}

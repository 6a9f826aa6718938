-- Commands to which one more is added.
use Rattle.std.proofs.Common.{◌≡◌, ℕ, ◌+◌, ◌≤◌, List, [], ◌∷◌, ◌++◌, length, refl, arith}
use Rattle.std.specs.List.{AllByRecursion}
use Rattle.script_read.specs.declared.script.Command.{Command}
use Rattle.session_laws.specs.Readiness.{write_of, writes}
use Rattle.session_run_tests.specs.Todo.{AreFew, IsOn, IsGoing}

on-more : (wall : ℕ) (todo : List Command) (c : Command) → AllByRecursion (IsOn wall) todo → IsOn wall c
    → AllByRecursion (IsOn wall) (todo ++ c ∷ [])
on-more wall [] c h on = (on, tt)
on-more wall (b ∷ todo) c h on = (h.0, on-more wall todo c h.1 on)

writes-more : (todo : List Command) (c : Command) → writes (todo ++ c ∷ []) ≡ writes todo + write_of c
writes-more [] c = omega arith
writes-more (b ∷ todo) c =
    let e : writes (todo ++ c ∷ []) ≡ writes todo + write_of c = writes-more todo c in
    omega (e, arith)

length-more : (todo : List Command) (c : Command) → length (todo ++ c ∷ []) ≡ length todo + 1
length-more [] c = omega arith
length-more (b ∷ todo) c = let e : length (todo ++ c ∷ []) ≡ length todo + 1 = length-more todo c in omega (e, arith)

pub begins : (wall : ℕ) → IsGoing wall 0 8 []
begins wall = record { many = refl; on = tt; posts = omega arith }

pub few : (wall number left : ℕ) (todo : List Command) → IsGoing wall number left todo → number ≤ 64 → AreFew wall todo
few wall number left todo going most = record {
  few = omega (going.many, most, arith);
  on = going.on;
  posts = omega (going.posts, arith);
}

-- A command is added, for which there is room.
pub goes : (wall number left left' : ℕ) (todo : List Command) (c : Command) → IsGoing wall number left todo
    → IsOn wall c → left' + write_of c ≤ left → IsGoing wall (number + 1) left' (todo ++ c ∷ [])
goes wall number left left' todo c going on room = record {
  many = let e : length (todo ++ c ∷ []) ≡ length todo + 1 = length-more todo c in omega (e, going.many, arith);
  on = on-more wall todo c going.on on;
  posts =
      let e : writes (todo ++ c ∷ []) ≡ writes todo + write_of c = writes-more todo c in
      omega (e, going.posts, room, arith);
}

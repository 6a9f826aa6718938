use Rattle.tree_prune.proofs.Marks.{front-hidden, length-from_on, length-numbered, rest-shown}
use Rattle.std.specs.List.{list_any}
use Rattle.std.specs.Prelude.{nat_eq}
use Rattle.tree_prune.proofs.history.laws.shown_lists.Goals as goal

pub returns : goal.returns
returns c = record {
  from_on_length = length-from_on;
  listed_length = λ positions n. length-numbered (λ k. list_any (nat_eq k) positions) 0 n;
  hidden = front-hidden;
  shown = rest-shown;
}

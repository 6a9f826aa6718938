use Rattle.tree_model.proofs.LookUps.{with_next-own, with_next-other, with_entry-own, with_entry-other, without-own, without-other}
use Rattle.tree_model.proofs.laws.access_list.look_ups.Goals as goal

pub returns : goal.returns
returns c = record {
  next_own = with_next-own;
  next_other = with_next-other;
  added_own = with_entry-own;
  added_other = with_entry-other;
  dropped_own = without-own;
  dropped_other = without-other;
}

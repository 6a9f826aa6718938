use Rattle.wall_law.proofs.Extensions.{lawful-nil, lawful-snoc, lawful_at-next, lawful_at-prefix, lawful-rest}
use Rattle.wall_law.proofs.Histories.{state_of-next}
use Rattle.wall_law.proofs.laws.extensions.Goals as goal

pub returns : goal.returns
returns c = record {
  empty = lawful-nil;
  added = lawful-snoc;
  next = state_of-next;
  position = lawful_at-next;
  prefix = lawful_at-prefix;
  rest = lawful-rest;
}

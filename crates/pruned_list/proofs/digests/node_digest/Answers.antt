use Rattle.std.proofs.Common.{refl}
use Rattle.std.proofs.lemmas.List.{append-nil}
use Rattle.pruned_list.proofs.digests.node_digest.Goals as goal

pub returns-in-None-None : goal.returns-in-None-None
returns-in-None-None g c = rw (c.tagged.ensures, c.head.ensures, c.in-None-None.is-0, c.in-None-None.is-1) refl

pub returns-in-None-Some : goal.returns-in-None-Some
returns-in-None-Some g c =
    rw (c.tagged-in-None-Some.ensures, c.head-in-None-Some.ensures, c.in-None-Some.is-0, c.in-None-Some.is-1) refl

pub returns-in-Some-None : goal.returns-in-Some-None
returns-in-Some-None g c =
    rw (
      c.tagged-in-Some-None.ensures,
      c.head-in-Some-None.ensures,
      c.in-Some-None.is-0,
      c.in-Some-None.is-1,
      append-nil,
    ) refl

pub returns-in-Some-Some : goal.returns-in-Some-Some
returns-in-Some-Some g c =
    rw (
      c.tagged-in-Some-Some.ensures,
      c.head-in-Some-Some.ensures,
      c.joined.ensures,
      c.in-Some-Some.is-0,
      c.in-Some-Some.is-1,
    ) refl

use Rattle.std.proofs.Common.{◌≡◌, ◌+◌, length}
use Rattle.hall_replies.specs.Kept.{leaves_of, owner_of}
use Rattle.hall_replies.specs.Shown.{SpellProofs}
use Rattle.hall_replies.proofs.lists.proof_texts.Given as goal

abbrev pub invariant-loop-k : goal.invariant-loop-k
invariant-loop-k g l = record {
  count : l.from + length l.texts.items ≡ l.k;
  each : SpellProofs g.D.Digester.digest_of (owner_of l.snap) (leaves_of l.snap) l.from l.texts.items;
}

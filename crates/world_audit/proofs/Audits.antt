-- Where nothing is unsigned and all comparisons agree, the world is sound.
use Rattle.std.proofs.Common.{◌≡◌, List, take, Some}
use Rattle.std.specs.List.{AllByRecursion}
use Rattle.fr_digest.specs.Digest.{Digest}
use Rattle.op_types.specs.declared.op.Leaf.{Leaf}
use Rattle.world_book.specs.declared.took.Took.{Took}
use Rattle.world_book.specs.declared.world.World.{World}
use Rattle.world_book.specs.Kept.{Kept}
use Rattle.world_book.specs.Records.{IsIn, records_of}
use Rattle.world_audit.specs.Comparisons.{Agrees, all_compared, compared, order, record_compared}
use Rattle.world_audit.specs.Sound.{AllAgree, Extends, NothingUnsigned, Sound, SoundRecord}
use Rattle.world_audit.specs.Story.{story}
use Rattle.world_audit.proofs.Agreements.{all-flat, all-some, base-part, lists-agree, prev-agrees}
use Rattle.world_audit.proofs.Fits.{all-checked, all-fork_star, all-lawful}
use Rattle.world_audit.proofs.Fronts.{story-leaves}
use Rattle.world_audit.proofs.Grounds.{few-grounded}
use Rattle.world_audit.proofs.Orders.{order-each}
use Rattle.world_audit.proofs.Stories.{old-story, prev-smaller, story-length}
use Rattle.world_audit.proofs.Texts.{same-leaves, take-leaves}
use Rattle.world_audit.proofs.Trees.{tree-prunes, tree-root}

extends-prev : (d : Digest) (w : World) → Kept d w → AllAgree d w → (r : Took) (L : List Leaf) → IsIn (records_of w) r
    → story w r ≡ Some L → Extends w r L
extends-prev d w kept agree r L at history some =
    let old = old-story d w kept r L at history some in
    let it = (prev-smaller d w kept r old.0 at old.2).0 in (
      old.0,
      old.1,
      old.2,
      old.3,
      same-leaves (take r.have L) old.1 (take-leaves r.have L (story-leaves d w kept r L at history))
          (story-leaves d w kept old.0 old.1 it.kept old.3)
          (prev-agrees d w r L (agree r L at history) old.0 old.1 old.2 old.3),
    )

sound-record : (d : Digest) (w : World) → Kept d w → NothingUnsigned w → AllAgree d w → (r : Took) (L : List Leaf)
    → IsIn (records_of w) r → story w r ≡ Some L → SoundRecord d w r L
sound-record d w kept unsigned agree r L at history = record {
  size = story-length d w kept r L at history;
  root = tree-root d w kept r L at history (base-part d w r L (agree r L at history));
  proof = tree-prunes d w kept r L at history (base-part d w r L (agree r L at history));
  lists = lists-agree d w r L (agree r L at history);
  lawful = all-lawful d w kept agree r L at history;
  extends = extends-prev d w kept agree r L at history;
  fork_star = all-fork_star d w kept agree unsigned r L at history;
  checked = all-checked d w kept agree r L at history;
}

pub sound : (d : Digest) (w : World) → Kept d w → NothingUnsigned w → AllAgree d w → Sound d w
sound d w kept unsigned agree = record {
  each = sound-record d w kept unsigned agree;
  few = few-grounded d w kept unsigned;
}

-- It is enough that the comparisons of the records in their order agree.
pub all-agree : (d : Digest) (w : World) → Kept d w → AllByRecursion (Agrees d) (all_compared w) → AllAgree d w
unfolding all_compared
all-agree d w kept all r L at history =
    let it = order-each d w kept r (record { kept = at; leaves = L; history = history }) in
    all-some (Agrees d) (compared w r) (story w r) L
    (all-flat (Agrees d) (record_compared w) (order w) it.place r all it.there) history
